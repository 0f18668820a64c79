use Rattle.mailmap_findings.proofs.Verified.{explanations_decide}
use Rattle.mailmap_findings.proofs.laws.equal.law_equal_explanations.Goals as goal

pub returns-clause-explanations : goal.returns-clause-explanations
returns-clause-explanations c = explanations_decide
