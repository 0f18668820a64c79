use Rattle.mailmap_findings.proofs.Pruned.{none_redundant, others_stay}
use Rattle.mailmap_findings.proofs.laws.law_pruned_findings.Goals as goal

pub returns : goal.returns
returns c = record { none = none_redundant; others = others_stay }
