use Rattle.std.proofs.Common.{map, chars, sym, ap, ◌∙◌}
use Rattle.std.proofs.lemmas.Result.{IfOk-weaker}
use Rattle.mailmap_names.specs.Words.{normalized, letters, runs}
use Rattle.mailmap_names.proofs.WordLemmas.{plain_words-is}
use Rattle.mailmap_names.proofs.words.plain_words.Goals as goal

pub returns : goal.returns
returns c =
    let plain = ap normalized (ap chars c.deref.ensures ∙ c.in_ok-text_of.ensures) in
    let text = c.in_ok-characters.ensures ∙ ap chars c.deref-2.ensures ∙ c.in_ok-text.ensures ∙ plain in
    let letters_are = c.in_ok-letters.ensures ∙ ap letters (c.deref-3.ensures.value ∙ text) in
    let runs_are = c.in_ok-runs.ensures ∙ ap runs (c.deref-4.ensures.value ∙ letters_are) in
    let words = ap (map (λ run. run.now)) c.deref-5.ensures.value ∙ runs_are ∙ sym (plain_words-is c.args.text.now) in
    IfOk-weaker c.texts.result _ _ (λ _ found. found ∙ words) c.texts.ensures
