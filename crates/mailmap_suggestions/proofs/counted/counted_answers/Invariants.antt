-- The answers so far.
use Rattle.std.proofs.Common.{◌≡◌, map, take}
use Rattle.mailmap_contacts.specs.Answers.{tally_of}
use Rattle.mailmap_contacts.specs.Contacts.{answered}
use Rattle.mailmap_suggestions.proofs.counted.counted_answers.Given as goal

abbrev pub invariant-loop-contact : goal.invariant-loop-contact
invariant-loop-contact l = map tally_of l.all.items ≡ map (answered l.answers.ours) (map tally_of (take l.contact-index l.group))
