-- git reads the lines so far as this library does.
use Rattle.std.proofs.Common.{◌≡◌, filter, is_some, map}
use Rattle.std.specs.Option.{option_map}
use Rattle.mailmap_entries.specs.Semantics.{first}
use Rattle.mailmap_findings.specs.Findings.{first_read_otherwise, read_otherwise}
use Rattle.mailmap_findings.specs.Positions.{Line}
use Rattle.mailmap_findings.proofs.verify.walk.first_read_otherwise.Given as goal

abbrev pub invariant-loop-line : goal.invariant-loop-line
invariant-loop-line l =
    option_map (λ (x : Line). x.position) (first (filter (λ (x : Line). is_some (read_otherwise x)) l.line-iterator))
    ≡ first_read_otherwise (map (λ b. b.now) l.buffers)
