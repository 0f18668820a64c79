use Rattle.std.proofs.lemmas.Result.{IfOk-weaker}
use Rattle.mailmap_names.proofs.WordLemmas.{chars-string}
use Rattle.mailmap_names.proofs.words.decomposed.Goals as goal

pub returns : goal.returns
returns c = IfOk-weaker c.to_nfkd.result _ _ (λ t e. chars-string t _ e) c.to_nfkd.ensures
