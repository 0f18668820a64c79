use Rattle.std.proofs.Common.{◌≡◌, ◌≤◌, drop, length}
use Rattle.mailmap_redundancy.specs.Summaries.{IsTable, later_of_each, located_mappings}
use Rattle.mailmap_redundancy.proofs.passes.each_later.Given as goal

abbrev pub invariant-loop-left : goal.invariant-loop-left
invariant-loop-left l = (l.left ≤ length l.entries) × IsTable l.keys (located_mappings (drop l.left l.entries)) l.table
    × (l.later_ones.items ≡ later_of_each (located_mappings (drop l.left l.entries)))

abbrev pub decreases-loop-left : goal.decreases-loop-left
decreases-loop-left l = l.left
