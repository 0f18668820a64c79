-- The keys of the members so far, and the links by them.
use Rattle.std.proofs.Common.{◌≡◌, ◌++◌, flat_map, take}
use Rattle.mailmap_suggestions.specs.Forests.{links_of}
use Rattle.mailmap_suggestions.specs.LinkViews.{HoldersOf, email_links_of, known_email_keys, pairs_by}
use Rattle.mailmap_suggestions.proofs.links.logins_of.Given as goal

abbrev pub invariant-loop-member : goal.invariant-loop-member
invariant-loop-member l =
    HoldersOf (flat_map (pairs_by (λ c. known_email_keys l.shared l.names c.email)) (take l.member-index l.participants)) l.logins
    × (links_of l.links.items
    ≡ links_of l.initial.links.items ++ flat_map (email_links_of l.shared l.names l.first_names) (take l.member-index l.participants))
