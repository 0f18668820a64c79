use Rattle.mailmap_grammar.proofs.Cut.{cut-absent, cut-unclosed, cut-cut_at_closing, absent-cut, unclosed-cut, cut_at_closing-cut}
use Rattle.mailmap_grammar.proofs.laws.law_cut.Goals as goal

pub returns : goal.returns
returns c = record {
  closed = λ s a b r. (cut_at_closing-cut s a b r, cut-cut_at_closing s a b r);
  unclosed = λ s. (unclosed-cut s, cut-unclosed s);
  absent = λ s. (absent-cut s, cut-absent s);
}
