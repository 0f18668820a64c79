use Rattle.std.proofs.Common.{◌∙◌, [], ◌∷◌, ◌++◌, ap, string_bytes}
use Rattle.mailmap_entries.specs.Texts.{texts}
use Rattle.mailmap_names.proofs.Spelling.{first_some}
use Rattle.mailmap_names.proofs.keys.first_words_of.Goals as goal

pub returns : goal.returns
returns c =
    let whole = ap texts (c.in_ok-push-2.ensures.items ∙ ap (λ l. l ++ c.in_ok-key-2.field-0 ∷ []) (c.in_ok-push.ensures.items ∙ ap (λ l. l ++ c.in_ok-key.field-0 ∷ []) c.new-keys.ensures.items)) in
    let first = c.in_ok-key.ensures ∙ ap (λ t. 119 ∷ t) c.as_bytes.ensures.value in
    let second = c.in_ok-key-2.ensures ∙ ap (λ t. 116 ∷ t) c.as_bytes-2.ensures.value in
    whole ∙ ap (λ k. k ∷ c.in_ok-key-2.field-0.items ∷ []) first ∙ ap (λ k. (119 ∷ string_bytes c.index-words-0.result) ∷ k ∷ []) second
    ∙ first_some c.args.words.now c.index-words-0.result c.index-words-0-2.result c.if-words-lt2.false c.index-words-0.is c.index-words-0-2.is
