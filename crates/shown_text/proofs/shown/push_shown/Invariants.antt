-- The line so far, followed by what is left, is the result.
use Rattle.std.proofs.Common.{◌≡◌, ◌++◌, length}
use Rattle.shown_text.specs.Shown.{shown}
use Rattle.shown_text.proofs.shown.push_shown.Given as goal

abbrev pub invariant-loop-part : goal.invariant-loop-part
invariant-loop-part l = l.line.items ++ l.left ≡ l.fn.line.items ++ shown l.fn.text

abbrev pub decreases-loop-part : goal.decreases-loop-part
decreases-loop-part l = length l.left
