use Rattle.mailmap_grammar.proofs.LineFeeds.{are_pieces, pieces-are}
use Rattle.mailmap_grammar.proofs.laws.law_pieces.Goals as goal

pub returns : goal.returns
returns c = λ s ls. (are_pieces s ls, pieces-are s ls)
