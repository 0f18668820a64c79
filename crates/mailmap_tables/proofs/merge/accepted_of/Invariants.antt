use Rattle.std.proofs.Common.{◌≡◌, map}
use Rattle.mailmap_entries.specs.Entries.{mapping_of}
use Rattle.mailmap_entries.specs.Semantics.{accepted}
use Rattle.mailmap_tables.proofs.merge.accepted_of.Given as goal

abbrev pub invariant-loop-entry : goal.invariant-loop-entry
invariant-loop-entry g l = record {
  can : (goal.iterator-loop-entry g).can_next l.entry-iterator;
  finite : (goal.iterator-loop-entry g).is_finite l.entry-iterator;
  kept : map mapping_of l.batch.items ≡ accepted (map mapping_of l.yielded);
}
