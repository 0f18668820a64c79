use Rattle.std.proofs.Common.{sym, ap, ◌∙◌, length}
use Rattle.std.proofs.lemmas.Bool.{eqb-true, eqb-false}
use Rattle.std.proofs.lemmas.List.{length-map}
use Rattle.std.proofs.lemmas.Result.{IfOk-weaker}
use Rattle.mailmap_names.specs.Words.{plain_words, before_via}
use Rattle.mailmap_names.proofs.WordLemmas.{text_words-none, text_words-some}
use Rattle.mailmap_names.proofs.words.text_words.Goals as goal

pub returns-then-is_empty : goal.returns-then-is_empty
returns-then-is_empty c =
    let bare = c.before_via.ensures ∙ ap before_via (c.deref.ensures.value ∙ c.in_ok-bare.ensures) in
    let found = c.in_ok-found.ensures ∙ ap plain_words bare in
    let len = sym (ap length found) ∙ length-map c.in_ok-found.found.items _ ∙ sym c.in_ok-found.found.ok.0 in
    let none = len ∙ eqb-true _ _ (sym c.is_empty.ensures ∙ c.if-is_empty.true) in
    IfOk-weaker c.plain_words-then-is_empty.result _ _ (λ _ whole. whole ∙ sym (text_words-none _ none))
    c.plain_words-then-is_empty.ensures

pub returns : goal.returns
returns c =
    let bare = c.before_via.ensures ∙ ap before_via (c.deref.ensures.value ∙ c.in_ok-bare.ensures) in
    let found = c.in_ok-found.ensures ∙ ap plain_words bare in
    let len = sym (ap length found) ∙ length-map c.in_ok-found.found.items _ ∙ sym c.in_ok-found.found.ok.0 in
    let some = eqb-false _ _ (sym c.is_empty.ensures ∙ c.if-is_empty.false) in
    found ∙ sym (text_words-some _ (λ none. some (sym len ∙ none)))
