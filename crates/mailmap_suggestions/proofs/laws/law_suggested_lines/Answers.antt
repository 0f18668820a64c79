use Rattle.std.proofs.Common.{refl}
use Rattle.mailmap_suggestions.proofs.Texts.{entry_read}
use Rattle.mailmap_suggestions.proofs.laws.law_suggested_lines.Goals as goal

pub returns : goal.returns
returns c = record { entry = entry_read; marked = λ n e. refl; count = λ n count is_gits d. refl }
