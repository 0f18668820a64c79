-- The text so far and that of the pieces that are left are the text of all pieces.
use Rattle.std.proofs.Common.{◌≡◌, ◌++◌, length}
use Rattle.mailmap_report.specs.Report.{text_of}
use Rattle.mailmap_report.proofs.pieces.text_of.Given as goal

abbrev pub invariant-loop-text : goal.invariant-loop-text
invariant-loop-text g l = l.text.items ++ text_of (g.S.Pieces.left l.pieces) ≡ text_of (g.S.Pieces.left l.fn.pieces)

abbrev pub decreases-loop-text : goal.decreases-loop-text
decreases-loop-text g l = length (g.S.Pieces.left l.pieces)
