-- The entries so far and those for the remaining contacts are the whole.
use Rattle.std.proofs.Common.{drop, map}
use Rattle.mailmap_entries.specs.Entries.{mapping_of}
use Rattle.mailmap_contacts.specs.Answers.{tally_of}
use Rattle.mailmap_suggestions.specs.Private.{contacts_of}
use Rattle.mailmap_suggestions.specs.Forms.{entries_for_email}
use Rattle.mailmap_suggestions.proofs.Forms.{ArePushed}
use Rattle.mailmap_suggestions.proofs.entries.entries_for_email.Given as goal

abbrev pub invariant-loop-contact : goal.invariant-loop-contact
invariant-loop-contact l =
    let to = (tally_of l.to).contact in ArePushed l.answers to (entries_for_email l.shared l.answers to (contacts_of l.contacts))
    (contacts_of (drop l.contact-index l.contacts)) (map mapping_of l.entries.items) l.changes
