use Rattle.std.proofs.Common.{◌≡◌, map, take}
use Rattle.std.specs.List.{enumerate_from}
use Rattle.mailmap_batches.specs.Batches.{indexed_mapping}
use Rattle.mailmap_batches.proofs.batch.indexed.Given as goal

abbrev pub invariant-loop-index : goal.invariant-loop-index
invariant-loop-index g l = map indexed_mapping l.batch.items ≡ enumerate_from 0 (map g.T.HasEntry.mapping (take l.index l.entries))
