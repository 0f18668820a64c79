-- The marks so far.
use Rattle.std.proofs.Common.{◌≡◌, map, take}
use Rattle.mailmap_suggestions.proofs.marks.copies.Given as goal

abbrev pub invariant-loop-mark : goal.invariant-loop-mark
invariant-loop-mark l = map (λ m. m.text.items) l.copies.items ≡ map (λ m. m.text.items) (take l.mark-index l.marks)
