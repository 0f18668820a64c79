use Rattle.mailmap_grammar.proofs.Grammar.{strict_reading-made, strict_reading-same}
use Rattle.mailmap_grammar.proofs.laws.law_strict_reading.Goals as goal

pub returns : goal.returns
returns c n line o = (strict_reading-made n line o, strict_reading-same n line o)
