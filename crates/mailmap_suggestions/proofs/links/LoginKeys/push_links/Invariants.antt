-- The links of the keys so far.
use Rattle.std.proofs.Common.{◌≡◌, ◌++◌, filter, take}
use Rattle.mailmap_suggestions.specs.Forests.{links_of}
use Rattle.mailmap_suggestions.specs.LinkViews.{answer_in, is_login_in, links_to, mark_texts}
use Rattle.mailmap_suggestions.proofs.links.LoginKeys.push_links.Given as goal

abbrev pub invariant-loop-key : goal.invariant-loop-key
invariant-loop-key l = links_of l.links.items ≡ links_of l.initial.links.items
    ++ links_to l.member.first (filter (is_login_in l.self (answer_in l.member)) (mark_texts (take l.key-index l.name_keys)))
