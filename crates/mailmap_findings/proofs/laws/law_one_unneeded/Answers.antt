use Rattle.mailmap_findings.proofs.ContactNeeds.{one_unneeded, some_unneeded}
use Rattle.mailmap_findings.proofs.laws.law_one_unneeded.Goals as goal

pub returns : goal.returns
returns c = record { some = some_unneeded; one = one_unneeded }
