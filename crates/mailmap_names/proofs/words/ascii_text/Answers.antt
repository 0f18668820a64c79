use Rattle.std.proofs.Common.{◌∙◌, rules, tests}
use Rattle.std.proofs.lemmas.Iterator.{YieldsList-from_map, YieldsList-from_slice, text_from_collect}
use Rattle.std.proofs.lemmas.Iterator.Consumers.{YieldsList-at}
use Rattle.std.proofs.lemmas.List.{map-id}
use Rattle.std.proofs.lemmas.Result.{IfOk-weaker}
use Rattle.mailmap_names.proofs.WordLemmas.{chars-string}
use Rattle.mailmap_names.proofs.words.ascii_text.Goals as goal

pub returns : goal.returns
returns c =
    IfOk-weaker c.collect.result _ _ (λ t e. chars-string t _ e ∙ map-id c.args.text.now) (text_from_collect _ c.collect.ensures.ran
    (YieldsList-from_map _ (λ x. x) (YieldsList-at c.map.ensures.source (YieldsList-from_slice c.args.text.now (cc))) c.map.ensures.closure (λ x r q k. search (rules, tests))))
