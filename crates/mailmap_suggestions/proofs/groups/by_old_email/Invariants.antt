-- The contacts so far with their old emails.
use Rattle.std.proofs.Common.{◌≡◌, map, take}
use Rattle.mailmap_entries.specs.Folding.{folded}
use Rattle.mailmap_contacts.specs.Answers.{tally_of}
use Rattle.mailmap_suggestions.specs.Private.{keyed_by, keyed_of}
use Rattle.mailmap_suggestions.proofs.groups.by_old_email.Given as goal

abbrev pub invariant-loop-contact : goal.invariant-loop-contact
invariant-loop-contact l = map keyed_of l.keyed.items ≡ keyed_by (λ t. folded t.contact.email) (map tally_of (take l.contact-index l.group))
