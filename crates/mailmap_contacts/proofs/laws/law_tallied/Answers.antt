use Rattle.mailmap_contacts.proofs.Tallied.{same_contacts}
use Rattle.mailmap_contacts.proofs.laws.law_tallied.Goals as goal

pub returns : goal.returns
returns c = same_contacts
