use Rattle.mailmap_findings.proofs.Pruned.{none_left, same_answer}
use Rattle.mailmap_findings.proofs.laws.law_pruned_for_git.Goals as goal

pub returns : goal.returns
returns c = record { settled = none_left; answers = same_answer }
