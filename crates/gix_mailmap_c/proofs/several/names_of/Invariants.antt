-- The names so far, and the part of the buffer that is still to be split.
use Rattle.std.proofs.Common.{◌≡◌, ◌++◌, drop, map}
use Rattle.gix_mailmap_c.specs.Several.{names_in}
use Rattle.gix_mailmap_c.proofs.several.names_of.Given as goal

abbrev pub invariant-loop-part : goal.invariant-loop-part
invariant-loop-part l = map (λ name. name.items) l.each.items ++ names_in (drop l.part-index l.lengths) l.rest ≡ names_in l.lengths l.names
