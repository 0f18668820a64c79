-- The links of the keys so far.
use Rattle.std.proofs.Common.{◌≡◌, ◌++◌, filter, take}
use Rattle.mailmap_suggestions.specs.Forests.{links_of}
use Rattle.mailmap_suggestions.specs.LinkViews.{answer_in, is_name_by, links_to, mark_texts}
use Rattle.mailmap_suggestions.proofs.links.push_email_links.Given as goal

abbrev pub invariant-loop-key : goal.invariant-loop-key
invariant-loop-key l = links_of l.links.items ≡ links_of l.initial.links.items
    ++ links_to l.member.first (filter (is_name_by l.names l.first_names (answer_in l.member)) (mark_texts (take l.key-index l.email_keys)))
