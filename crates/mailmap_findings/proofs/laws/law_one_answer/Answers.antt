use Rattle.mailmap_findings.proofs.Pruned.{one_findings, one_pruned, some_findings, some_pruned}
use Rattle.mailmap_findings.proofs.laws.law_one_answer.Goals as goal

pub returns : goal.returns
returns c = record { findings = some_findings; one_findings = one_findings; pruned = some_pruned; one_pruned = one_pruned }
