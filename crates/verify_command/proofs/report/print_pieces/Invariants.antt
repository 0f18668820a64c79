-- The pieces so far were written or are held, and the outcome is theirs.
use Rattle.std.proofs.Common.{◌≡◌, ◌++◌, if◌then◌else◌, length}
use Rattle.std.specs.List.{list_any}
use Rattle.command_line.specs.Printing.{IsUnderway}
use Rattle.command_line.specs.declared.outcome.Outcome.TheVariants.{Found}
use Rattle.mailmap_report.specs.Report.{text_of}
use Rattle.verify_command.specs.Task.{outcome_of}
use Rattle.verify_command.proofs.report.print_pieces.Given as goal

abbrev pub invariant-loop-printer : goal.invariant-loop-printer
invariant-loop-printer g l =
    IsUnderway (text_of (g.S.Pieces.left l.fn.pieces)) (g.W.Write.contents l.fn.output) (g.W.Write.contents l.output) (l.printer ++ text_of (g.S.Pieces.left l.pieces))
    × (outcome_of (g.S.Pieces.left l.fn.pieces) ≡ (if list_any (λ p. p.counts) (g.S.Pieces.left l.pieces) then Found else l.outcome))

abbrev pub decreases-loop-printer : goal.decreases-loop-printer
decreases-loop-printer g l = length (g.S.Pieces.left l.pieces)
