use Rattle.std.proofs.Common.{◌==◌, length, not, rules, tests}
use Rattle.std.proofs.lemmas.Iterator.Consumers.{YieldsList-at, YieldsList-from_filter, map_from_collect}
use Rattle.std.proofs.lemmas.Iterator.Splits.{YieldsList-from_slice_split}
use Rattle.std.specs.Char.{is_ascii_alphanumeric}
use Rattle.mailmap_names.proofs.words.ascii_runs.Goals as goal

pub returns : goal.returns
returns c =
    map_from_collect _ c.collect.ensures.ran (YieldsList-from_filter _ (λ run. not (length run == 0))
    (YieldsList-at c.filter.ensures.source (YieldsList-from_slice_split _ (λ x. not (is_ascii_alphanumeric x)) c.args.text.now
    c.split.ensures.rest c.split.ensures.done c.split.ensures.closure (λ x b q k. search (rules, tests))))
    c.filter.ensures.closure (λ x b q k. search (rules, tests)))
