-- The parts so far were written or are held, and what is left is to be printed.
use Rattle.std.proofs.Common.{◌++◌, length}
use Rattle.command_line.specs.Printing.{IsUnderway}
use Rattle.shown_text.specs.Shown.{shown}
use Rattle.mailmap_shortlog.proofs.shortlog.print_shown.Given as goal

abbrev pub invariant-loop-part : goal.invariant-loop-part
invariant-loop-part g l = IsUnderway (l.initial.printer ++ shown l.text) (g.W.Write.contents l.initial.output) (g.W.Write.contents l.output) (l.printer ++ l.left)

abbrev pub decreases-loop-part : goal.decreases-loop-part
decreases-loop-part g l = length l.left
