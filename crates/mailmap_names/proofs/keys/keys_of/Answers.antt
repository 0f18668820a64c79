use Rattle.std.proofs.Common.{◌∙◌, ◌||◌, [], ◌∷◌, ◌++◌, ap, chars, length, ltb, sym}
use Rattle.mailmap_names.specs.Keys.{characters, is_placeholder, main_words, sorted_key}
use Rattle.mailmap_entries.specs.Texts.{texts}
use Rattle.mailmap_names.proofs.Spelling.{keys_none, keys_some}
use Rattle.mailmap_names.proofs.keys.keys_of.Goals as goal

pub returns-then-is_nobody : goal.returns-then-is_nobody
returns-then-is_nobody c =
    let test = sym (c.is_nobody.ensures ∙ ap (λ s. ltb (length (chars s)) 3 || is_placeholder s) c.as_str.ensures.value) ∙ c.if-is_nobody.true in
    ap texts c.new-keys.ensures.items ∙ keys_none c.args.words.now c.in_ok-together.together c.in_ok-together.ensures test

pub returns : goal.returns
returns c =
    let test = sym (c.is_nobody.ensures ∙ ap (λ s. ltb (length (chars s)) 3 || is_placeholder s) c.as_str.ensures.value) ∙ c.if-is_nobody.false in
    let first = c.in_ok-sorted_key.field-0 in
    let second = c.in_ok-key.field-0 in
    let whole = ap texts (c.in_ok-push-2.ensures.items ∙ ap (λ l. l ++ second ∷ []) (c.in_ok-push.ensures.items ∙ ap (λ l. l ++ first ∷ []) c.new-keys.ensures.items)) in
    whole ∙ ap (λ k. k ∷ second.items ∷ []) c.in_ok-sorted_key.ensures
    ∙ ap (λ k. sorted_key (main_words (characters c.args.words.now)) ∷ k ∷ []) (c.in_ok-key.ensures ∙ ap (λ t. 116 ∷ t) c.as_bytes.ensures.value)
    ∙ keys_some c.args.words.now c.in_ok-together.together c.in_ok-together.ensures test
