-- What the bytes at the ends of a text tell about trimming it.
use Rattle.std.proofs.lemmas.Grind.{common_steps}
use Rattle.std.proofs.Common.{◌≡◌, ◌+◌, ◌-◌, ◌<◌, ◌≤◌, ℕ, true, List, [], ◌∷◌, ◌++◌, length, take, drop, get_or, length-append, refl, sym, ap, ◌∙◌, arith, ⊎_elim}
use Rattle.std.proofs.lemmas.Bool.{cases_lt}
use Rattle.std.proofs.lemmas.Bool.Decides.{nat_tests}
use Rattle.std.proofs.lemmas.List.{take_more, get_or-append-add, nil_from_length}
use Rattle.std.proofs.lemmas.Str.{encode_ascii}
use Rattle.std.proofs.Math.Seq.{drop-cons}
use Rattle.std.specs.Char.{is_whitespace, encode_utf8}
use Rattle.mailmap_grammar.specs.Trimming.{trim, BeginsWhite, EndsWhite}
use Rattle.mailmap_grammar.proofs.Trimmed.{trim-nil, trim-stays, trim-white_start, trim-white_end}
use Rattle.mailmap_grammar.proofs.Trimmed.{some_bytes}

pub first_at : (s : List ℕ) (i j x : ℕ) → i < length s → j ≡ i + 1 → get_or s i 0 ≡ x → drop i s ≡ x ∷ drop j s
first_at s i j x lt next is = grind (arith, common_steps, drop-cons)

pub last_at : (s : List ℕ) (i j x : ℕ) → i < length s → j ≡ i + 1 → get_or s i 0 ≡ x → take j s ≡ take i s ++ x ∷ []
last_at s i j x lt next is = ap (λ k. take k s) next ∙ take_more s i 0 lt ∙ ap (λ y. take i s ++ y ∷ []) is

-- white space of ASCII at either end is trimmed
pub trim-ascii_start : (c : ℕ) (s : List ℕ) → is_whitespace c ≡ true → c < 128 → trim (c ∷ s) ≡ trim s
trim-ascii_start c s white small = rw (encode_ascii c small) at (trim-white_start c s white)

pub trim-ascii_end : (c : ℕ) (s : List ℕ) → is_whitespace c ≡ true → c < 128 → trim (s ++ c ∷ []) ≡ trim s
trim-ascii_end c s white small = rw (encode_ascii c small) at (trim-white_end c s white)

pub first_blank : (s : List ℕ) (i : ℕ) → i < length s → is_whitespace (get_or s i 0) ≡ true → get_or s i 0 < 128 → trim (drop (i + 1) s) ≡ trim (drop i s)
first_blank s i lt white small = sym (ap trim (first_at s i (i + 1) _ lt refl refl) ∙ trim-ascii_start _ (drop (i + 1) s) white small)

pub last_blank : (s : List ℕ) (n : ℕ) → 0 < n → n ≤ length s → is_whitespace (get_or s (n - 1) 0) ≡ true → get_or s (n - 1) 0 < 128 → trim (take (n - 1) s) ≡ trim (take n s)
last_blank s n some within white small = grind (arith, common_steps, last_at, trim-ascii_end)

-- characters outside ASCII begin and end with bytes outside ASCII
high-last : (c : ℕ) → 128 ≤ c → 128 ≤ get_or (encode_utf8 c) (length (encode_utf8 c) - 1) 0
unfolding encode_utf8
high-last c high = grind (arith, nat_tests)

visible-no_white : (c : ℕ) → 32 < c → c < 128 → is_whitespace c ≡ true → ⊥
visible-no_white c low high white = grind (arith, nat_tests)

-- if a text begins or ends with white space, an ASCII byte there is all of that character
pub first-white : (s : List ℕ) → get_or s 0 0 < 128 → BeginsWhite s → is_whitespace (get_or s 0 0) ≡ true
unfolding encode_utf8
first-white s small h = let first = ap (λ t. get_or t 0 0) h.3 in let white = h.2 in grind (arith, nat_tests)

pub last-white : (s : List ℕ) → get_or s (length s - 1) 0 < 128 → EndsWhite s → is_whitespace (get_or s (length s - 1) 0) ≡ true
last-white s small h =
    let bs = encode_utf8 h.0 in
    let index : length s - 1 ≡ length h.1 + (length bs - 1) = omega (arith, some_bytes h.0, ap length h.3, length-append h.1 bs) in
    let last : get_or s (length s - 1) 0 ≡ get_or bs (length bs - 1) 0 = cc (h.3, index, get_or-append-add h.1 bs (length bs - 1) 0) in
    ⊎_elim (λ ascii. rw (last ∙ ap (λ t. get_or t (length t - 1) 0) (encode_ascii h.0 ascii)) h.2)
    (λ high. absurd (omega (arith, last, high-last h.0 high))) (cases_lt h.0 128)

-- if the first and the last byte are visible ASCII, trimming changes nothing
pub plain : (s : List ℕ) → 32 < get_or s 0 0 → get_or s 0 0 < 128 → 32 < get_or s (length s - 1) 0 → get_or s (length s - 1) 0 < 128 → trim s ≡ s
plain s low high low' high' =
    trim-stays s (λ h. visible-no_white _ low high (first-white s high h)) (λ h. visible-no_white _ low' high' (last-white s high' h))

pub plain_nil : (s : List ℕ) → length s ≡ 0 → trim s ≡ s
plain_nil s none = rw (nil_from_length s none) trim-nil
