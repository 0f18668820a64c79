use Rattle.std.proofs.lemmas.Result.{IfOk-weaker}
use Rattle.mailmap_names.proofs.WordLemmas.{chars-string}
use Rattle.mailmap_names.proofs.words.without_case.Goals as goal

pub returns : goal.returns
returns c = IfOk-weaker c.default_case_fold_str.result _ _ (λ t e. chars-string t _ e) c.default_case_fold_str.ensures
