use Rattle.mailmap_findings.proofs.ContactNeeds.{answered}
use Rattle.mailmap_findings.proofs.laws.law_contacts_stay.Goals as goal

pub returns : goal.returns
returns c = answered
