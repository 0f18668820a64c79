-- The links of the members so far.
use Rattle.std.proofs.Common.{◌≡◌, ◌++◌, flat_map, map, take}
use Rattle.mailmap_names.specs.Keys.{keys}
use Rattle.mailmap_suggestions.specs.Forests.{links_of}
use Rattle.mailmap_suggestions.specs.LinkViews.{name_key_links_of, own_and, vec_texts}
use Rattle.mailmap_suggestions.proofs.links.LoginKeys.push_name_links.Given as goal

abbrev pub invariant-loop-index : goal.invariant-loop-index
invariant-loop-index l = map vec_texts l.name_keys ≡ map (own_and (λ c. keys c.name)) l.participants
    → links_of l.links.items ≡ links_of l.initial.links.items ++ flat_map (name_key_links_of l.self) (take l.index l.participants)
