use Rattle.std.proofs.Common.{not, rules, sym, tests}
use Rattle.std.proofs.lemmas.Iterator.{YieldsList-from_chars, text_from_collect}
use Rattle.std.proofs.lemmas.Iterator.Consumers.{YieldsList-at, YieldsList-from_filter}
use Rattle.std.proofs.lemmas.Result.{IfOk-weaker}
use Rattle.std.proofs.lemmas.Str.{IsUtf8-string_bytes, chars_from_encodes}
use Rattle.std.specs.Prelude.{string_bytes}
use Rattle.shown_text.specs.Shown.{is_hidden}
use Rattle.mailmap_report.proofs.alike.visible.Goals as goal

pub returns : goal.returns
returns c =
    IfOk-weaker c.collect.result _ _ (λ t e. sym (chars_from_encodes _ (string_bytes t) (IsUtf8-string_bytes t) (sym e)))
    (text_from_collect _ c.collect.ensures.ran (YieldsList-from_filter _ (λ x. not (is_hidden x))
    (YieldsList-at c.filter.ensures.source (YieldsList-from_chars c.args.text.now c.utf8.text (cc)))
    c.filter.ensures.closure (λ x b q k. search (rules, tests))))
