-- The links of the members so far.
use Rattle.std.proofs.Common.{◌≡◌, flat_map, take}
use Rattle.mailmap_suggestions.specs.Forests.{links_of}
use Rattle.mailmap_suggestions.specs.LinkViews.{name_links_of}
use Rattle.mailmap_suggestions.proofs.links.name_links.Given as goal

abbrev pub invariant-loop-member : goal.invariant-loop-member
invariant-loop-member l = links_of l.links.items ≡ flat_map name_links_of (take l.member-index l.participants)
