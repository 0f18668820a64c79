use Rattle.std.proofs.Common.{◌≡◌, ◌+◌, length}
use Rattle.gix_mailmap_c.specs.Listed.{all_texts, all_listed}
use Rattle.gix_mailmap_c.proofs.Copying.{Copied}
use Rattle.gix_mailmap_c.proofs.listing.copy_entries.Given as goal

abbrev pub invariant-loop-entry : goal.invariant-loop-entry
invariant-loop-entry l = record {
  room : l.index + length l.entry-iterator ≡ length l.fn.snapshot;
  listed : Copied (all_listed l.end l.entry-iterator) (all_listed 0 l.fn.snapshot) l.index l.listed l.fn.listed;
  written : Copied (all_texts l.entry-iterator) (all_texts l.fn.snapshot) l.end l.out l.fn.out;
}
