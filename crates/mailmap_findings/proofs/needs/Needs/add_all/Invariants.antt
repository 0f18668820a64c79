-- The lines so far were added.
use Rattle.std.proofs.Common.{◌≡◌, filter, map, not}
use Rattle.mailmap_findings.specs.Needs.{any_needs}
use Rattle.mailmap_findings.proofs.needs.Needs.add_all.Given as goal

abbrev pub invariant-loop-line : goal.invariant-loop-line
invariant-loop-line l = (l.self.kept ≡ l.initial.self.kept)
    × (l.self.left ≡ filter (λ p. not (any_needs l.initial.self.kept (map (λ y. y.now) l.yielded) p)) l.initial.self.left)
