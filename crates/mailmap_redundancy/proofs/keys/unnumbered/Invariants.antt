use Rattle.std.proofs.Common.{◌≡◌, take, map}
use Rattle.mailmap_redundancy.specs.Redundancy.{located_of}
use Rattle.mailmap_redundancy.specs.Summaries.{located_mappings}
use Rattle.mailmap_redundancy.proofs.keys.unnumbered.Given as goal

abbrev pub invariant-loop-located : goal.invariant-loop-located
invariant-loop-located l = located_mappings l.rows.items ≡ map located_of (take l.located-index l.entries)
