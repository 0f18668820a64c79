use Rattle.std.proofs.Common.{◌≡◌, ◌++◌, map}
use Rattle.mailmap_redundancy.specs.Redundancy.{located_of}
use Rattle.mailmap_findings.specs.Positions.{located_lines, located}
use Rattle.mailmap_findings.proofs.verify.Mailmaps.read.Given as goal

abbrev pub invariant-loop-line : goal.invariant-loop-line
invariant-loop-line l =
    map located_of l.entries.items ++ located l.line-iterator ≡ located (located_lines (map (λ b. b.now) l.buffers))
