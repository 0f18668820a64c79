use Rattle.mailmap_grammar.proofs.WritableLines.{built_fit}
use Rattle.mailmap_snapshot.proofs.laws.law_text.Goals as goal

pub returns-clause-builds : goal.returns-clause-builds
returns-clause-builds c = built_fit
