use Rattle.mailmap_grammar.proofs.Trimmed.{trimmed-same, trimmed-made}
use Rattle.mailmap_grammar.proofs.laws.law_trim.Goals as goal

pub returns : goal.returns
returns c = λ s t. (trimmed-same s t, trimmed-made s t)
