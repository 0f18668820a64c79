use Rattle.std.proofs.Common.{◌-◌, ◌≤◌, List, drop, length, map}
use Rattle.mailmap_entries.specs.Entries.{Mapping}
use Rattle.mailmap_batches.specs.Batches.{IsSorted, indexed_mapping}
use Rattle.mailmap_tables.specs.Put.{AreAccepted}
use Rattle.mailmap_tables.proofs.Built.{AreBuilt}
use Rattle.mailmap_tables.proofs.merge.put_groups.Given as goal

abbrev pub invariant-loop-start : goal.invariant-loop-start
invariant-loop-start l = record {
  within : l.start ≤ length l.batch.items;
  built : (xs : List Mapping) → AreAccepted xs → IsSorted xs (map indexed_mapping l.fn.batch.items)
      → AreBuilt xs l.fn.batch.items (drop l.start l.batch.items) l.tables.groups;
}

abbrev pub decreases-loop-start : goal.decreases-loop-start
decreases-loop-start l = length l.batch.items - l.start
