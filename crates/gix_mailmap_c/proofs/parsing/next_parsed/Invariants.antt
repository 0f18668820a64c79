-- What is left from the cursor on is all that was left.
use Rattle.std.proofs.Common.{◌≡◌, ◌-◌, length}
use Rattle.gix_mailmap_c.specs.Places.{parsed_after}
use Rattle.gix_mailmap_c.proofs.parsing.next_parsed.Given as goal

abbrev pub invariant-loop-line : goal.invariant-loop-line
invariant-loop-line l = parsed_after l.text l.at ≡ parsed_after l.fn.text l.fn.cursor

abbrev pub decreases-loop-line : goal.decreases-loop-line
decreases-loop-line l = length l.text - l.at.start
