-- The answers to the contacts so far.
use Rattle.std.proofs.Common.{◌≡◌, map, take}
use Rattle.mailmap_contacts.specs.Answers.{tally_of}
use Rattle.mailmap_redundancy.specs.Redundancy.{entries}
use Rattle.mailmap_suggestions.specs.Private.{contacts_of}
use Rattle.mailmap_suggestions.specs.Shared as spec
use Rattle.mailmap_suggestions.proofs.shared.answers_with_email.Given as goal

abbrev pub invariant-loop-contact : goal.invariant-loop-contact
invariant-loop-contact l = contacts_of l.answers.items
    ≡ spec.answers_with_email (entries l.history.history) (map tally_of (take l.contact-index l.contacts))
