use Rattle.mailmap_findings.proofs.Pruned.{pruned_reported, nothing_to_prune, same_pruned_listing}
use Rattle.mailmap_findings.proofs.laws.law_pruned.Goals as goal

pub returns : goal.returns
returns c = record { reported = pruned_reported; listing = same_pruned_listing; settled = nothing_to_prune }
