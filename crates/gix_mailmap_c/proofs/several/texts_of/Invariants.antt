-- The texts so far, and the part of the buffer that is still to be split.
use Rattle.std.proofs.Common.{◌≡◌, ◌++◌, drop, map}
use Rattle.gix_mailmap_c.specs.Several.{texts_in}
use Rattle.gix_mailmap_c.proofs.several.texts_of.Given as goal

abbrev pub invariant-loop-part : goal.invariant-loop-part
invariant-loop-part l = map (λ text. text.now) l.each.items ++ texts_in (drop l.part-index l.lengths) l.rest ≡ texts_in l.lengths l.texts
