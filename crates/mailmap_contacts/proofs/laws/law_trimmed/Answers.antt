use Rattle.mailmap_contacts.proofs.RawContacts.{contacts_are}
use Rattle.mailmap_contacts.proofs.laws.law_trimmed.Goals as goal

pub returns : goal.returns
returns c = contacts_are
