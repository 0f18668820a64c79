use Rattle.std.proofs.Common.{◌≡◌, ◌++◌, length, map}
use Rattle.std.specs.List.{flat_map}
use Rattle.std.specs.List.Sorted.{IsStrictlySortedBy}
use Rattle.mailmap_redundancy.specs.Redundancy.{entries, position_cmp}
use Rattle.mailmap_findings.specs.Findings.{findings, reported_at}
use Rattle.mailmap_findings.proofs.verify.FindingsIterator.next.Given as goal

abbrev pub invariant-loop-kind : goal.invariant-loop-kind
invariant-loop-kind l = IsStrictlySortedBy position_cmp (map (λ x. x.position) l.self-inside.effective.now.kept)
    × (reported_at l.self-inside.position l.self-inside.of_line ++ flat_map (findings (entries l.self-inside.effective.now.history)
    l.self-inside.effective.now.kept) l.self-inside.lines ≡ l.fn.self)

abbrev pub decreases-loop-kind : goal.decreases-loop-kind
decreases-loop-kind l = length l.self-inside.lines
