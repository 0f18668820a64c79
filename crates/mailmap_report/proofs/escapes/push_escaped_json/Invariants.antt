-- The line so far, followed by the rest with escapes, is the result.
use Rattle.std.proofs.Common.{◌≡◌, ◌++◌, length}
use Rattle.mailmap_report.specs.Escapes.{escaped_json}
use Rattle.mailmap_report.proofs.escapes.push_escaped_json.Given as goal

abbrev pub invariant-loop-rest : goal.invariant-loop-rest
invariant-loop-rest l = l.line.items ++ escaped_json l.rest ≡ l.fn.line.items ++ escaped_json l.fn.text

abbrev pub decreases-loop-rest : goal.decreases-loop-rest
decreases-loop-rest l = length l.rest
