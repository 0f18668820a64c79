use Rattle.std.proofs.Common.{map}
use Rattle.std.specs.List.{All}
use Rattle.mailmap_redundancy.specs.Redundancy.{located_of}
use Rattle.mailmap_redundancy.specs.Summaries.{IsNumbered, located_mappings}
use Rattle.mailmap_redundancy.proofs.Rows.{IsSettling}
use Rattle.mailmap_redundancy.proofs.passes.drop_until_stable.Given as goal

abbrev pub invariant-loop-len : goal.invariant-loop-len
invariant-loop-len l = IsSettling (map located_of l.entries) l.len (located_mappings l.kept.items)
    × All (IsNumbered l.keys) l.kept.items

abbrev pub decreases-loop-len : goal.decreases-loop-len
decreases-loop-len l = l.len
