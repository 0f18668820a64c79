use Rattle.mailmap_findings.proofs.Pruned.{same_listing}
use Rattle.mailmap_findings.proofs.laws.law_deleted.Goals as goal

pub returns : goal.returns
returns c = same_listing
