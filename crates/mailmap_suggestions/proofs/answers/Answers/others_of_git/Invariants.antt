-- git's other answers to the contacts so far.
use Rattle.std.proofs.Common.{◌≡◌, map, take}
use Rattle.mailmap_contacts.specs.Answers.{tally_of}
use Rattle.mailmap_suggestions.specs.Counted.{other_git_answers}
use Rattle.mailmap_suggestions.proofs.answers.Answers.others_of_git.Given as goal

abbrev pub invariant-loop-contact : goal.invariant-loop-contact
invariant-loop-contact l = map tally_of l.others.items ≡ other_git_answers l.self (map tally_of (take l.contact-index l.contacts))
