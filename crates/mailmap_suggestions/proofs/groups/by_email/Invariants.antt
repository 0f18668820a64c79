-- Those of the contacts so far whose answers have an email.
use Rattle.std.proofs.Common.{◌≡◌, [], bytes_eq, filter, map, not, take}
use Rattle.mailmap_contacts.specs.Answers.{tally_of}
use Rattle.mailmap_suggestions.specs.Private.{keyed_by, keyed_of, text_of}
use Rattle.mailmap_suggestions.specs.Suggestions.{email_key}
use Rattle.mailmap_suggestions.proofs.groups.by_email.Given as goal

abbrev pub invariant-loop-contact : goal.invariant-loop-contact
invariant-loop-contact l = map keyed_of l.keyed.items
    ≡ keyed_by (text_of email_key l.answers) (filter (λ t. not (bytes_eq (text_of email_key l.answers t) [])) (map tally_of (take l.contact-index l.contacts)))
