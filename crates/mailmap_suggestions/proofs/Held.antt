-- Texts without line feeds.
use Rattle.std.proofs.Common.{◌≡◌, ◌≢◌, ◌≤◌, ◌&&◌, ◌||◌, ◌==◌, ◌/◌, ◌%◌, ℕ, zero, suc, Bool, true, false, true≢false, if◌then◌else◌, not, Option, Some, None, [], ◌∷◌, ◌++◌, codes, decimal, length, length-drop, nat_lt, slice_index, take, drop, ap, refl, rules, subst, sym, ◌∙◌, arith}
use Rattle.std.specs.List.{flat_map, list_all}
use Rattle.std.specs.Fmt.{digits, digits_onto}
use Rattle.std.proofs.lemmas.Bool.{and_parts}
use Rattle.bstr.specs.Utf8.{decoded}
use Rattle.bstr.proofs.lemmas.PieceLemmas.{piece-bounds}
use Rattle.mailmap_entries.specs.Folding.{Text}
use Rattle.mailmap_entries.proofs.Parts.{all_append}
use Rattle.mailmap_grammar.specs.Lines.{HoldsNo}
use Rattle.mailmap_suggestions.specs.Shortened.{front_len, shortened_to}
use Rattle.shown_text.specs.Shown.{escaped_byte, hex_byte, hex_digit, is_control, is_hash, is_hidden, last_four, shown, shown_after, shown_byte, shown_code, shown_piece}
use Rattle.shown_text.proofs.Escapes.{nothing_shown, shown-step}

digits_line : (k n : ℕ) (acc : Text) → HoldsNo 10 acc → HoldsNo 10 (digits_onto k 10 false n acc)
digits_line zero n acc one = one
digits_line (suc k) n acc one = search (rules, digits_line k)

pub decimal_line : (n : ℕ) → HoldsNo 10 (decimal n)
unfolding digits
decimal_line n = digits_line 64 n [] tt

-- a text that is written out
pub held : (s : Text) → list_all (λ x. not (x == 10)) s ≡ true → HoldsNo 10 s
held [] is = tt
held (x ∷ s) is =
    let parts = and_parts (not (x == 10)) (list_all (λ x. not (x == 10)) s) is in
    ((λ e. true≢false (sym parts.0 ∙ ap (λ y. not (y == 10)) e)), held s parts.1)

-- ---- parts of texts

both_held : (s t : Text) → HoldsNo 10 s → HoldsNo 10 t → HoldsNo 10 (s ++ t)
both_held = all_append (λ x. x ≢ 10)

pub take_held : (n : ℕ) (s : Text) → HoldsNo 10 s → HoldsNo 10 (take n s)
take_held zero s one = tt
take_held (suc n) [] one = tt
take_held (suc n) (x ∷ s) one = (one.0, take_held n s one.1)

drop_held : (n : ℕ) (s : Text) → HoldsNo 10 s → HoldsNo 10 (drop n s)
drop_held zero s one = one
drop_held (suc n) [] one = tt
drop_held (suc n) (x ∷ s) one = drop_held n s one.1

byte_held : (s : Text) (i : ℕ) → HoldsNo 10 s → slice_index s i ≢ 10
byte_held [] i one = λ e. cc
byte_held (x ∷ s) zero one = one.0
byte_held (x ∷ s) (suc i) one = byte_held s i one.1

one_held : (b : Bool) (s t : Text) → HoldsNo 10 s → HoldsNo 10 t → HoldsNo 10 (if b then s else t)
one_held true s t one also = one
one_held false s t one also = also

pub shortened_held : (limit : ℕ) (s : Text) → HoldsNo 10 s → HoldsNo 10 (shortened_to limit s)
unfolding shortened_to
shortened_held limit s one =
    let front = take (front_len limit s) s in
    one_held (nat_lt limit (length s)) (front ++ codes "..") s
    (both_held front (codes "..") (take_held (front_len limit s) s one) (held (codes "..") refl)) one

-- ---- texts with escapes

abbrev backslash_x : Text
backslash_x = 92 ∷ 120 ∷ []

abbrev backslash_u : Text
backslash_u = 92 ∷ 117 ∷ []

abbrev backslash_u00 : Text
backslash_u00 = 92 ∷ 85 ∷ 48 ∷ 48 ∷ []

hex_held : (byte : ℕ) → HoldsNo 10 (hex_byte byte)
hex_held byte = (digit (byte / 16), (digit (byte % 16), tt))
  where
    digit : (value : ℕ) → hex_digit value ≢ 10
    digit value = byte_held (codes "0123456789abcdef") value (held (codes "0123456789abcdef") refl)

four_held : (code : ℕ) → HoldsNo 10 (last_four code)
four_held code = both_held (hex_byte (code / 256 % 256)) (hex_byte (code % 256)) (hex_held (code / 256 % 256)) (hex_held (code % 256))

escape_held : (byte : ℕ) → HoldsNo 10 (escaped_byte byte)
escape_held byte = both_held (backslash_x) (hex_byte byte) (held (backslash_x) refl) (hex_held byte)

code_held : (code : ℕ) → HoldsNo 10 (shown_code code)
code_held code =
    let high = hex_byte (code / 65536 % 256) in
    one_held (nat_lt code 65536) (backslash_u ++ last_four code) (backslash_u00 ++ (high ++ last_four code))
    (both_held (backslash_u) (last_four code) (held (backslash_u) refl) (four_held code))
    (both_held (backslash_u00) (high ++ last_four code) (held (backslash_u00) refl) (both_held high (last_four code) (hex_held (code / 65536 % 256)) (four_held code)))

bytes_held : (s : Text) → HoldsNo 10 s → HoldsNo 10 (flat_map shown_byte s)
bytes_held [] one = tt
bytes_held (b ∷ s) one =
    both_held (shown_byte b) (flat_map shown_byte s) (one_held (is_control b) (escaped_byte b) (b ∷ []) (escape_held b) (one.0, tt)) (bytes_held s one.1)

piece_held : (two : Bool) (char : Option ℕ) (s : Text) → HoldsNo 10 s → HoldsNo 10 (shown_piece two char s)
piece_held two None s one = bytes_held s one
piece_held two (Some c) s one =
    let low = is_control c || (two && c == 91) in
    let high = is_control c || is_hidden c in
    one_held (nat_lt c 128) (if low then escaped_byte c else s) (if high then shown_code c else s)
    (one_held low (escaped_byte c) s (escape_held c) one) (one_held high (shown_code c) s (code_held c) one)

after_held : (f : ℕ) (one two : Bool) (s : Text) → length s ≤ f → HoldsNo 10 s → HoldsNo 10 (shown_after one two s)
after_held f one two [] le none = subst (HoldsNo 10) (sym (nothing_shown one two)) tt
after_held zero one two (b ∷ s) le none = absurd (omega (arith, le))
after_held (suc f) one two (b ∷ s) le none =
    let text = b ∷ s in
    let d = decoded text in
    let h = is_hash d.char in
    let bounds = piece-bounds text (omega arith) in
    subst (HoldsNo 10) (sym (shown-step one two text (omega arith)))
    (both_held (shown_piece two d.char (take d.size text)) (shown_after h (one && h) (drop d.size text))
    (piece_held two d.char (take d.size text) (take_held d.size text none))
    (after_held f h (one && h) (drop d.size text) (omega (arith, le, bounds.0, length-drop d.size text)) (drop_held d.size text none)))

pub shown_held : (s : Text) → HoldsNo 10 s → HoldsNo 10 (shown s)
shown_held s one = after_held (length s) false false s (omega arith) one
