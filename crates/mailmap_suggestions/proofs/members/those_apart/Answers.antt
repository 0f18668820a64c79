use Rattle.std.proofs.Common.{◌∙◌, sym}
use Rattle.mailmap_suggestions.proofs.Participating.{none_in}
use Rattle.mailmap_suggestions.proofs.members.those_apart.Goals as goal

pub returns-then-is_empty : goal.returns-then-is_empty
returns-then-is_empty c = λ some. absurd (some (none_in c.args.shared.now (sym c.is_empty.ensures ∙ c.if-is_empty.true)))
