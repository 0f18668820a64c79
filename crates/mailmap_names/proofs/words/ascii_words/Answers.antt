use Rattle.std.proofs.Common.{◌∙◌, ap, length, subst, sym, true}
use Rattle.std.specs.List.{list_all}
use Rattle.std.proofs.lemmas.Bool.{eqb-true, eqb-false}
use Rattle.std.proofs.lemmas.List.{length-map}
use Rattle.std.proofs.lemmas.Result.{IfOk-weaker}
use Rattle.mailmap_names.specs.Private.{is_plain}
use Rattle.mailmap_names.specs.Words.{plain_words}
use Rattle.mailmap_names.proofs.Ascii.{bare_plain, words_with, words_without}
use Rattle.mailmap_names.proofs.words.ascii_words.Goals as goal

pub returns-then-is_empty : goal.returns-then-is_empty
returns-then-is_empty c =
    let name = c.args.name.now in
    let bare = c.before_ascii_via.ensures in
    let found = c.in_ok-found.ensures (ap (list_all is_plain) bare ∙ bare_plain name c.requires) ∙ ap plain_words bare in
    let len = sym (ap length found) ∙ length-map c.in_ok-found.found.items _ ∙ sym c.in_ok-found.found.ok.0 in
    let none = len ∙ eqb-true _ _ (sym c.is_empty.ensures ∙ c.if-is_empty.true) in
    IfOk-weaker c.plain_ascii_words-then-is_empty.result _ _ (λ _ whole. whole ∙ words_without name c.requires none) (c.plain_ascii_words-then-is_empty.ensures c.requires)

pub returns-else-is_empty : goal.returns-else-is_empty
returns-else-is_empty c =
    let name = c.args.name.now in
    let bare = c.before_ascii_via.ensures in
    let found = c.in_ok-found.ensures (ap (list_all is_plain) bare ∙ bare_plain name c.requires) ∙ ap plain_words bare in
    let len = sym (ap length found) ∙ length-map c.in_ok-found.found.items _ ∙ sym c.in_ok-found.found.ok.0 in
    let some = eqb-false _ _ (sym c.is_empty.ensures ∙ c.if-is_empty.false) in
    found ∙ words_with name c.requires (λ none. some (sym len ∙ none))
