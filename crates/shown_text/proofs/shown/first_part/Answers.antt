use Rattle.std.proofs.Common.{rules, ◌≡◌, ◌<◌, ◌∙◌, ◌++◌, ◌&&◌, ◌||◌, ◌==◌, ℕ, Bool, true, false, None, Some, List, ap, arith, drop, if◌then◌else◌, length, nat_lt, sym, take}
use Rattle.std.proofs.Math.Bool.{and-false}
use Rattle.std.proofs.lemmas.List.{take_rest}
use Rattle.bstr.specs.Utf8.{decoded}
use Rattle.bstr.proofs.lemmas.PieceLemmas.{piece-bounds, size-within}
use Rattle.shown_text.specs.Shown.{escaped_byte, is_control, is_hash, is_hidden, shown_after, shown_char, shown_code, shown_piece}
use Rattle.shown_text.proofs.Escapes.{bad-step, shown-step}
use Rattle.shown_text.proofs.shown.first_part.Goals as goal

pub returns-in_default-clause-value : goal.returns-in_default-clause-value
returns-in_default-clause-value c = λ one.
    let text = c.args.text.now in
    let none : (decoded text).char ≡ None = search rules in
    bad-step one c.args.after_two text c.requires none
    ∙ (λ i. sym c.shown_byte.ensures i ++ shown_after false (sym (and-false one) i) (sym (take_rest text 1) i))

pub split_at-requires : goal.split_at-requires
split_at-requires c = omega (arith, c.decode-char.ensures.size, size-within c.args.text.now)

pub returns-clause-value : goal.returns-clause-value
returns-clause-value c = λ one.
    let text = c.args.text.now in
    let two = c.args.after_two in
    let d = decoded text in
    let char : d.char ≡ Some c.in-Some.char = search rules in
    rw (c.shown_char.ensures, c.split_at.ensures.front, c.split_at.ensures.back, c.decode-char.ensures.size)
    (shown-step one two text c.requires
    ∙ ap (λ o. shown_piece two o (take d.size text) ++ shown_after (is_hash o) (one && is_hash o) (drop d.size text)) char)

either_some : (b : Bool) (s t : List ℕ) → 0 < length s → 0 < length t → 0 < length (if b then s else t)
either_some true s t some also = some
either_some false s t some also = also

code_some : (code : ℕ) → 0 < length (shown_code code)
code_some code = either_some (nat_lt code 65536) _ _ (omega arith) (omega arith)

char_some : (two : Bool) (char : ℕ) (bytes : List ℕ) → 0 < length bytes → 0 < length (shown_char two char bytes)
char_some two char bytes some = either_some (nat_lt char 128) _ _
    (either_some (is_control char || (two && char == 91)) (escaped_byte char) bytes (omega arith) some)
    (either_some (is_control char || is_hidden char) (shown_code char) bytes (code_some char) some)

pub returns-clause-some : goal.returns-clause-some
returns-clause-some c =
    let bounds = piece-bounds c.args.text.now c.requires in
    rw c.shown_char.ensures (char_some c.args.after_two c.in-Some.char c.split_at.result.0.now
    (omega (arith, c.split_at.ensures.front_len, c.decode-char.ensures.size, bounds.0)))
