use Rattle.mailmap_grammar.proofs.Grammar.{reading-made, reading-same}
use Rattle.mailmap_grammar.proofs.laws.law_reading.Goals as goal

pub returns : goal.returns
returns c n line o = (reading-made n line o, reading-same n line o)
