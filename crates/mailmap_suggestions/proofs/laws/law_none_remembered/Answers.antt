use Rattle.mailmap_suggestions.proofs.Selections.{classes_agree, united_all}
use Rattle.mailmap_suggestions.proofs.laws.law_none_remembered.Goals as goal

pub returns : goal.returns
returns c = record { united = united_all; classes = classes_agree }
