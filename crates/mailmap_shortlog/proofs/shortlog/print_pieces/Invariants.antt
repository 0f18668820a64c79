-- The pieces so far were written, or are in the buffer.
use Rattle.std.proofs.Common.{◌++◌, drop, flat_map}
use Rattle.command_line.specs.Printing.{IsUnderway}
use Rattle.mailmap_shortlog.proofs.shortlog.print_pieces.Given as goal

abbrev pub invariant-loop-piece : goal.invariant-loop-piece
invariant-loop-piece g l = IsUnderway (l.initial.printer ++ flat_map (λ p. p.now) l.pieces)
    (g.W.Write.contents l.initial.output) (g.W.Write.contents l.output) (l.printer ++ flat_map (λ p. p.now) (drop l.piece-index l.pieces))
