use Rattle.std.proofs.Common.{◌≡◌, take, map}
use Rattle.mailmap_redundancy.specs.Redundancy.{located_of_reference}
use Rattle.mailmap_redundancy.specs.Summaries.{located_mappings}
use Rattle.mailmap_redundancy.proofs.effective.without_numbers.Given as goal

abbrev pub invariant-loop-x : goal.invariant-loop-x
invariant-loop-x l = map located_of_reference l.entries.items ≡ located_mappings (take l.x-index l.kept)
