-- The keys of the members so far.
use Rattle.std.proofs.Common.{filter, flat_map, take}
use Rattle.mailmap_contacts.specs.Contacts.{has_text}
use Rattle.mailmap_names.specs.Keys.{first_words}
use Rattle.mailmap_suggestions.specs.LinkViews.{HoldersOf, answer_in, pairs_by}
use Rattle.mailmap_suggestions.proofs.links.first_names_of.Given as goal

abbrev pub invariant-loop-member : goal.invariant-loop-member
invariant-loop-member l = HoldersOf
    (flat_map (pairs_by (λ c. first_words c.name)) (filter (λ m. has_text (answer_in m).email) (take l.member-index l.members))) l.first_names
