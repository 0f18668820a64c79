-- A text is shown piece by piece, and one without special bytes as it is.
use Rattle.std.proofs.Common.{◌≡◌, ◌<◌, ◌≤◌, ◌&&◌, ◌||◌, ◌==◌, ℕ, zero, suc, Bool, false, true, Some, None, List, [], ◌∷◌, ◌++◌, length, length-drop, slice_index, take, drop, refl, sym, ap, append-nil, append_assoc, ◌∙◌, arith}
use Rattle.std.proofs.Math.Bool.{and-false}
use Rattle.std.proofs.lemmas.Bool.{cond-false, cond-true, lt-ltb, or_parts}
use Rattle.std.proofs.lemmas.Bool.Decides.{nat_tests}
use Rattle.std.proofs.lemmas.List.{drop-append-le, take-append-le}
use Rattle.std.specs.List.{flat_map, list_any}
use Rattle.bstr.specs.Utf8.{Decoded, bad, continues, decoded, good, pieces}
use Rattle.bstr.proofs.lemmas.PieceLemmas.{continuation-alone, piece-bounds, pieces-append, pieces-nil, pieces-step, size-within, tail-continues, value-1}
use Rattle.shown_text.specs.Shown.{is_control, is_hash, is_special, shown, shown_after, shown_byte, shown_piece, shown_pieces}

pub nothing_shown : (one two : Bool) → shown_after one two [] ≡ []
nothing_shown one two = ap (λ ps. shown_pieces one two ps []) pieces-nil

-- what is shown of a text that begins with this piece
abbrev with_first : Bool → Bool → Decoded → List ℕ → List ℕ
with_first one two d bs = shown_piece two d.char (take d.size bs) ++ shown_after (is_hash d.char) (one && is_hash d.char) (drop d.size bs)

pub shown-step : (one two : Bool) (bs : List ℕ) → 0 < length bs → shown_after one two bs ≡ with_first one two (decoded bs) bs
shown-step one two bs some = ap (λ ps. shown_pieces one two ps bs) (pieces-step bs some)

-- ---- bytes that aren't special

-- such a byte is a character, which is shown as it is
plain_byte : (one two : Bool) (b : ℕ) (bs : List ℕ) → is_special b ≡ false → (two && b == 91) ≡ false → shown_after one two (b ∷ bs) ≡ b ∷ shown bs
plain_byte one two b bs none other =
    let text = b ∷ bs in
    let some : 0 < length text = omega arith in
    let low : b < 128 = grind (arith, nat_tests) in
    let printable : is_control b ≡ false = grind (arith, nat_tests) in
    let no_hash : (b == 35) ≡ false = grind (arith, nat_tests) in
    let at = slice_index text in
    let first : decoded text ≡ good b 1 = value-1 (length text) b (at 1) (at 2) (at 3) (some, low) in
    let same : shown_piece two (Some b) (b ∷ []) ≡ b ∷ [] =
    cond-true _ _ _ (lt-ltb b 128 low) ∙ cond-false _ _ _ (ap (λ c. c || (two && b == 91)) printable ∙ other) in
    shown-step one two text some ∙ ap (λ d. with_first one two d text) first
    ∙ ap (λ h. shown_piece two (Some b) (b ∷ []) ++ shown_after h (one && h) bs) no_hash
    ∙ ap (λ t. t ++ shown_after false (one && false) bs) same ∙ ap (λ h. b ∷ shown_after false h bs) (and-false one)

pub plain : (bs : List ℕ) → list_any is_special bs ≡ false → shown bs ≡ bs
plain [] none = nothing_shown false false
plain (b ∷ bs) none =
    let both = or_parts (is_special b) (list_any is_special bs) none in
    plain_byte false false b bs both.0 refl ∙ ap (λ t. b ∷ t) (plain bs both.1)

-- ---- a text before a byte that isn't special

abbrev head_or : Decoded → List Decoded → Decoded
head_or d [] = d
head_or d (p ∷ ps) = p

-- the first piece doesn't depend on what follows such a byte
same_first : (l r : List ℕ) → 0 < length l → (0 < length r → continues (slice_index r 0) ≡ false) → decoded (l ++ r) ≡ decoded l
same_first (x ∷ l) r some clean =
    let both = pieces-append (length (x ∷ l)) (x ∷ l) r (omega arith) clean in
    ap (head_or (bad 0)) (sym (pieces-step (x ∷ l ++ r) (omega arith)) ∙ both ∙ ap (λ ps. ps ++ pieces r) (pieces-step (x ∷ l) some))
same_first [] r some clean = absurd (omega arith)

-- what comes before it and what comes after it are shown one after another
parted : (f : ℕ) (one two : Bool) (xs : List ℕ) (b : ℕ) (ys : List ℕ) → length xs ≤ f → is_special b ≡ false → (b == 91) ≡ false → shown_after one two (xs ++ b ∷ ys) ≡ shown_after one two xs ++ b ∷ shown ys
parted f one two [] b ys le none other =
    plain_byte one two b ys none (ap (λ c. two && c) other ∙ and-false two) ∙ ap (λ t. t ++ b ∷ shown ys) (sym (nothing_shown one two))
parted zero one two (x ∷ xs) b ys le none other = absurd (omega arith)
parted (suc f) one two (x ∷ xs) b ys le none other =
    let l = x ∷ xs in
    let r = b ∷ ys in
    let some : 0 < length l = omega arith in
    let clean : continues b ≡ false = grind (arith, nat_tests) in
    let d = decoded l in
    let h = is_hash d.char in
    let fits = size-within l in
    let bounds = piece-bounds l some in
    let left = length-drop d.size l in
    shown-step one two (l ++ r) (omega arith) ∙ ap (λ p. with_first one two p (l ++ r)) (same_first l r some (λ _. clean))
    ∙ (λ i. shown_piece two d.char (take-append-le d.size l r fits i) ++ shown_after h (one && h) (drop-append-le d.size l r fits i))
    ∙ ap (λ t. shown_piece two d.char (take d.size l) ++ t) (parted f h (one && h) (drop d.size l) b ys (omega arith) none other)
    ∙ sym (append_assoc (shown_piece two d.char (take d.size l)) (shown_after h (one && h) (drop d.size l)) (b ∷ shown ys))
    ∙ ap (λ t. t ++ b ∷ shown ys) (sym (shown-step one two l some))

pub shown_parted : (xs : List ℕ) (b : ℕ) (ys : List ℕ) → is_special b ≡ false → (b == 91) ≡ false → shown (xs ++ b ∷ ys) ≡ shown xs ++ b ∷ shown ys
shown_parted xs b ys none other = parted (length xs) false false xs b ys (omega arith) none other

-- ---- bytes that are no characters

-- a byte that continues a character, but has none before it, is shown by itself
continued : (one two : Bool) (b : ℕ) (bs : List ℕ) → continues b ≡ true → shown_after one two (b ∷ bs) ≡ shown_byte b ++ shown bs
continued one two b bs is =
    let text = b ∷ bs in
    let at = slice_index text in
    let first : decoded text ≡ bad 1 = continuation-alone (length text) b (at 1) (at 2) (at 3) (omega arith) is in
    shown-step one two text (omega arith) ∙ ap (λ d. with_first one two d text) first
    ∙ ap (λ t. t ++ shown_after false (one && false) bs) (append-nil (shown_byte b)) ∙ ap (λ h. shown_byte b ++ shown_after false h bs) (and-false one)

run : (n : ℕ) (bs : List ℕ) → n ≤ length bs → ((k : ℕ) → k < n → continues (slice_index bs k) ≡ true) → flat_map shown_byte (take n bs) ++ shown (drop n bs) ≡ shown bs
run zero bs le all = refl
run (suc n) [] le all = absurd (omega arith)
run (suc n) (b ∷ bs) le all =
    append_assoc (shown_byte b) (flat_map shown_byte (take n bs)) (shown (drop n bs))
    ∙ ap (λ t. shown_byte b ++ t) (run n bs (omega arith) (λ k l. all (suc k) (omega arith)))
    ∙ sym (continued false false b bs (all 0 (omega arith)))

-- the bytes of a piece after the first continue it
rest_continues : (b : ℕ) (bs : List ℕ) (k : ℕ) → suc k < (decoded (b ∷ bs)).size → continues (slice_index bs k) ≡ true
rest_continues b bs k below = by k below
  where
    size : ℕ
    size = (decoded (b ∷ bs)).size

    tail : (2 ≤ size → continues (slice_index bs 0) ≡ true) × (3 ≤ size → continues (slice_index bs 1) ≡ true) × (4 ≤ size → continues (slice_index bs 2) ≡ true)
    tail = tail-continues (length (b ∷ bs)) b (slice_index bs 0) (slice_index bs 1) (slice_index bs 2)

    by : (k : ℕ) → suc k < (decoded (b ∷ bs)).size → continues (slice_index bs k) ≡ true
    by zero below = tail.0 (omega (arith, below))
    by (suc zero) below = tail.1 (omega (arith, below))
    by (suc (suc zero)) below = tail.2 (omega (arith, below))
    by (suc (suc (suc k))) below = absurd (omega (arith, below, (piece-bounds (b ∷ bs) (omega arith)).1))

-- so the first byte of a piece that is no character is shown by itself
pub bad-step : (one two : Bool) (bs : List ℕ) → 0 < length bs → (decoded bs).char ≡ None → shown_after one two bs ≡ shown_byte (slice_index bs 0) ++ shown (drop 1 bs)
bad-step one two [] some none = absurd (omega (arith, some))
bad-step one two (b ∷ bs) some none =
    let text = b ∷ bs in
    let s = (decoded text).size in
    let bounds = piece-bounds text some in
    shown-step one two text some
    ∙ ap (λ c. shown_piece two c (take s text) ++ shown_after (is_hash c) (one && is_hash c) (drop s text)) none
    ∙ ap (λ h. flat_map shown_byte (take s text) ++ shown_after false h (drop s text)) (and-false one)
    ∙ by s bounds.0 bounds.2 (rest_continues b bs)
  where
    by : (s : ℕ) → 1 ≤ s → s ≤ length (b ∷ bs) → ((k : ℕ) → suc k < s → continues (slice_index bs k) ≡ true)
        → flat_map shown_byte (take s (b ∷ bs)) ++ shown (drop s (b ∷ bs)) ≡ shown_byte b ++ shown bs
    by zero one le all = absurd (omega (arith, one))
    by (suc m) one le all = append_assoc (shown_byte b) (flat_map shown_byte (take m bs)) (shown (drop m bs))
        ∙ ap (λ t. shown_byte b ++ t) (run m bs (omega (arith, le)) (λ k l. all k (omega (arith, l))))

pub first_byte : (bs : List ℕ) → 0 < length bs → take 1 bs ≡ slice_index bs 0 ∷ []
first_byte [] some = absurd (omega (arith, some))
first_byte (b ∷ bs) some = refl
