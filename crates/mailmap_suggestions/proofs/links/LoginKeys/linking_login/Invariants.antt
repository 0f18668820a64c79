-- None of the keys so far is the name of another answer.
use Rattle.std.proofs.Common.{◌≡◌, false, take}
use Rattle.std.specs.List.{list_any}
use Rattle.mailmap_contacts.specs.Answers.{tally_of}
use Rattle.mailmap_suggestions.specs.LinkViews.{is_name_in, mark_texts}
use Rattle.mailmap_suggestions.proofs.links.LoginKeys.linking_login.Given as goal

abbrev pub invariant-loop-key : goal.invariant-loop-key
invariant-loop-key l = list_any (is_name_in l.self (tally_of l.answer).contact) (mark_texts (take l.key-index l.key-items)) ≡ false
