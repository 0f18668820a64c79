use Rattle.std.proofs.lemmas.Iterator.{YieldsList-from_slice, text_from_collect}
use Rattle.std.proofs.lemmas.Iterator.Consumers.{YieldsList-at, YieldsList-from_copied}
use Rattle.std.proofs.lemmas.Result.{IfOk-weaker}
use Rattle.mailmap_names.proofs.WordLemmas.{chars-string}
use Rattle.mailmap_names.proofs.words.text_of.Goals as goal

pub returns : goal.returns
returns c =
    IfOk-weaker c.collect.result _ _ (λ t e. chars-string t _ e) (text_from_collect _ c.collect.ensures.ran
    (YieldsList-from_copied (YieldsList-at c.copied.ensures.source (YieldsList-from_slice c.args.text.now (cc)))))
