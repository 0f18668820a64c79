-- git's other answers to the contacts so far.
use Rattle.std.proofs.Common.{◌≡◌, filter, map, take}
use Rattle.mailmap_contacts.specs.Answers.{tally_of}
use Rattle.mailmap_suggestions.specs.Counted.{git_answered}
use Rattle.mailmap_suggestions.specs.GitContacts.{is_answered_otherwise}
use Rattle.mailmap_suggestions.proofs.git_contacts.others.Given as goal

abbrev pub invariant-loop-contact : goal.invariant-loop-contact
invariant-loop-contact l = map tally_of l.others.items
    ≡ map (git_answered l.answers) (filter (is_answered_otherwise l.answers) (map tally_of (take l.contact-index l.contacts)))
