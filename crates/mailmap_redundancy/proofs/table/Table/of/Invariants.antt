use Rattle.std.proofs.Common.{take}
use Rattle.mailmap_redundancy.specs.Summaries.{IsTable, located_mappings}
use Rattle.mailmap_redundancy.proofs.table.Table.of.Given as goal

abbrev pub invariant-loop-x : goal.invariant-loop-x
invariant-loop-x l = IsTable l.keys (located_mappings (take l.x-index l.entries)) l.table
