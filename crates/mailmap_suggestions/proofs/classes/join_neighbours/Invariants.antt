-- The links so far are joined.
use Rattle.std.proofs.Common.{◌≤◌, length, max}
use Rattle.mailmap_suggestions.specs.Forests.{IsForest, IsJoined, links_of}
use Rattle.mailmap_suggestions.proofs.classes.join_neighbours.Given as goal

abbrev pub invariant-loop-index : goal.invariant-loop-index
invariant-loop-index l = IsForest l.parents × IsJoined l.initial.parents l.parents (links_of l.links) l.index × (l.index ≤ max 1 (length l.links))
