-- Those of the contacts so far.
use Rattle.std.proofs.Common.{◌≡◌, filter, not, take}
use Rattle.mailmap_contacts.specs.Answers.{tally_of}
use Rattle.mailmap_suggestions.specs.Forms.{needs_own_entry}
use Rattle.mailmap_suggestions.proofs.entries.plain_contacts.Given as goal

abbrev pub invariant-loop-contact : goal.invariant-loop-contact
invariant-loop-contact l = l.found.items ≡ filter (λ t. not (needs_own_entry l.shared l.answers (tally_of t).contact)) (take l.contact-index l.contacts)
