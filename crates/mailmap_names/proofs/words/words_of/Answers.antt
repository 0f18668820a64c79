use Rattle.std.proofs.Common.{map, chars, sym, ap, ◌∙◌}
use Rattle.std.proofs.lemmas.Result.{IfOk-weaker}
use Rattle.mailmap_names.specs.Words.{text_words}
use Rattle.mailmap_names.proofs.WordLemmas.{words-text, words-none}
use Rattle.mailmap_names.proofs.words.words_of.Goals as goal

pub returns-in_ok-characters-in-Ok : goal.returns-in_ok-characters-in-Ok
returns-in_ok-characters-in-Ok c =
    let text = c.deref.ensures.value ∙ c.in_ok-characters-in-Ok.ensures ∙ ap chars c.in-Ok.ensures.cases.0 in
    let words = ap text_words text ∙ sym (words-text c.args.name.now c.in-Ok.ensures.cases.1) in
    IfOk-weaker c.text_words.result _ _ (λ _ found. found ∙ words) c.text_words.ensures

pub returns-in-Err : goal.returns-in-Err
returns-in-Err c = ap (map _) c.new.ensures.items ∙ sym (words-none c.args.name.now c.in-Err.ensures.cases.0)
