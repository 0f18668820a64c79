-- Whether there is one of the links so far.
use Rattle.std.proofs.Common.{◌≡◌, ◌<◌, ℕ, Some, length, slice_get, take}
use Rattle.mailmap_suggestions.specs.Forests.{links_of}
use Rattle.mailmap_suggestions.proofs.Classed.{is_linked}
use Rattle.mailmap_suggestions.proofs.links.linked.Given as goal

abbrev pub invariant-loop-link : goal.invariant-loop-link
invariant-loop-link l = (length l.linked.items ≡ l.count)
    × ((item : ℕ) → item < l.count → slice_get l.linked.items item ≡ Some (is_linked (links_of (take l.link-index l.links)) item))
