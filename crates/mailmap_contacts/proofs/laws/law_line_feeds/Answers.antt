use Rattle.mailmap_contacts.proofs.LineEnds.{contacts_of_pieces, no_contacts_of_pieces}
use Rattle.mailmap_contacts.proofs.laws.law_line_feeds.Goals as goal

pub returns : goal.returns
returns c = record { contacts = contacts_of_pieces; no_contacts = no_contacts_of_pieces }
