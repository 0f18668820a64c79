use Rattle.std.proofs.Common.{◌≡◌, ◌+◌, length}
use Rattle.gix_mailmap_c.specs.Listed.{all_texts}
use Rattle.gix_mailmap_c.proofs.listing.texts_len_of.Given as goal

abbrev pub invariant-loop-entry : goal.invariant-loop-entry
invariant-loop-entry l = l.len + length (all_texts l.entry-iterator) ≡ length (all_texts l.fn.snapshot)
