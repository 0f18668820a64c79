-- The keys of the members so far.
use Rattle.std.proofs.Common.{◌≡◌, ◌++◌, flat_map, map, take}
use Rattle.mailmap_names.specs.Keys.{keys}
use Rattle.mailmap_suggestions.specs.LinkViews.{HoldersOf, own_and, pairs_by, vec_texts}
use Rattle.mailmap_suggestions.proofs.links.names_of.Given as goal

abbrev pub invariant-loop-member : goal.invariant-loop-member
invariant-loop-member l = HoldersOf (flat_map (pairs_by (λ c. keys c.name)) (take l.member-index l.participants)) l.names
    × (map vec_texts l.name_keys.items
    ≡ map vec_texts l.initial.name_keys.items ++ map (own_and (λ c. keys c.name)) (take l.member-index l.participants))
