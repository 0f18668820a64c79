use Rattle.mailmap_suggestions.proofs.After.{git_mappings_after, mappings_after}
use Rattle.mailmap_suggestions.proofs.Fed.{git_mappings_appended, mappings_appended}
use Rattle.mailmap_suggestions.proofs.laws.law_text_after.Goals as goal

pub returns : goal.returns
returns c = record { ours = mappings_after; gits = git_mappings_after; ours_fed = mappings_appended; gits_fed = git_mappings_appended }
