-- Names of ASCII: no table is needed to read them.
use Rattle.std.proofs.Common.{◌≡◌, ◌∙◌, ◌+◌, ◌<◌, ◌≤◌, ◌==◌, ◌&&◌, ◌||◌, ℕ, zero, suc, Bool, true, false, not, cond, if◌then◌else◌, List, [], ◌∷◌, ◌++◌, All, ap, ap₂, arith, chars, drop, filter, get_or, length, map, ne_eqb, refl, subst, suc-le-suc, sym, zero-le}
use Rattle.std.specs.Char.{is_ascii_alphanumeric, to_ascii_lowercase}
use Rattle.std.specs.List.{list_all, onto_first, slice_split}
use Rattle.std.proofs.lemmas.Bool.{agree_below, agree_below_at, and_parts}
use Rattle.std.proofs.lemmas.Bool.Decides.{nat_tests}
use Rattle.std.proofs.lemmas.Str.{IsUtf8-from_ascii, chars-IsAscii}
use Rattle.std.proofs.lemmas.Str.Ascii.{IsAscii-from_all}
use Rattle.ucd_category.proofs.Computing.{ucd_category}
use Rattle.unicode_normalization.specs.Forms.{nfkd}
use Rattle.unicode_normalization.specs.declared.Form.TheVariants.{Nfkd}
use Rattle.unicode_normalization.proofs.FormsLemmas.{normalize-ascii}
use Rattle.caseless.specs.Caseless.{default_case_fold}
use Rattle.caseless.proofs.CaselessLemmas.{default_case_fold-ascii}
use Rattle.mailmap_names.specs.Private.{ascii_runs, is_plain}
use Rattle.mailmap_names.specs.Words.{aside_len, before_via, begins_with_via, is_letter, is_mark, letter, letters, normalized, plain_words, runs, text_words, without_asides, words}
use Rattle.mailmap_names.proofs.WordLemmas.{before_via-here, before_via-later, before_via-nil, plain_words-is, text_words-none, text_words-some, without_asides-cons, without_asides-nil, words-text}

abbrev AreAscii : List ℕ → Type 0
AreAscii cs = All (λ c. c < 128) cs

head_is : (c : ℕ) (cs : List ℕ) → AreAscii (c ∷ cs) → c < 128
head_is c cs all = all zero 0 (suc-le-suc zero-le)

tail_is : (c : ℕ) (cs : List ℕ) → AreAscii (c ∷ cs) → AreAscii cs
tail_is c cs all = λ k d lt. all (suc k) d (suc-le-suc lt)

joined : (c : ℕ) (cs : List ℕ) → c < 128 → AreAscii cs → AreAscii (c ∷ cs)
joined c cs below all zero d lt = below
joined c cs below all (suc k) d lt = all k d (omega (arith, lt))

-- ---- one character

letter_at : (c : ℕ) → c < 128 → is_letter c ≡ is_ascii_alphanumeric c
unfolding ucd_category
letter_at c below = agree_below_at is_letter is_ascii_alphanumeric 128 c refl below

mark_at : (c : ℕ) → c < 128 → is_mark c ≡ false
unfolding ucd_category
mark_at c below = agree_below_at is_mark (λ c. false) 128 c refl below

other : (c n : ℕ) → c < 128 → 128 ≤ n → (c == n) ≡ false
other c n below above = ne_eqb c n (λ e. omega arith)

letter_is : (c : ℕ) → c < 128 → letter c ≡ c ∷ []
letter_is c below = rw (
  mark_at c below,
  other c 0xF8 below (omega arith),
  other c 0x111 below (omega arith),
  other c 0xF0 below (omega arith),
  other c 0xFE below (omega arith),
  other c 0x142 below (omega arith),
  other c 0x127 below (omega arith),
  other c 0x131 below (omega arith),
  other c 0xE6 below (omega arith),
  other c 0x153 below (omega arith),
  other c 0x167 below (omega arith),
  other c 0x14B below (omega arith),
)

-- ---- texts

lower_below : (c : ℕ) → c < 128 → to_ascii_lowercase c < 128
lower_below c below = grind (arith, nat_tests)

all_lower : (cs : List ℕ) → AreAscii cs → AreAscii (map to_ascii_lowercase cs)
all_lower [] all = λ k d lt. absurd (omega (arith, lt))
all_lower (c ∷ cs) all = joined (to_ascii_lowercase c) (map to_ascii_lowercase cs) (lower_below c (head_is c cs all)) (all_lower cs (tail_is c cs all))

letters_are : (cs : List ℕ) → AreAscii cs → letters cs ≡ cs
letters_are [] all = refl
letters_are (c ∷ cs) all = ap₂ ◌++◌ (letter_is c (head_is c cs all)) (letters_are cs (tail_is c cs all))

split_same : (p q : ℕ → Bool) (cs : List ℕ) → ((c : ℕ) → c < 128 → p c ≡ q c) → AreAscii cs → slice_split p cs ≡ slice_split q cs
split_same p q [] same all = refl
split_same p q (c ∷ cs) same all =
    ap₂ (λ b rest. cond b ([] ∷ rest) (onto_first c rest)) (same c (head_is c cs all)) (split_same p q cs same (tail_is c cs all))

runs_are : (cs : List ℕ) → AreAscii cs → runs cs ≡ ascii_runs cs
runs_are cs all =
    ap (filter (λ run. not (length run == 0)))
    (split_same (λ c. not (is_letter c)) (λ b. not (is_ascii_alphanumeric b)) cs (λ c below. ap not (letter_at c below)) all)

normalized_is : (cs : List ℕ) → AreAscii cs → normalized cs ≡ map to_ascii_lowercase cs
normalized_is cs all =
    ap (λ l. nfkd (default_case_fold l)) (normalize-ascii Nfkd cs all) ∙ ap nfkd (default_case_fold-ascii cs all)
    ∙ normalize-ascii Nfkd (map to_ascii_lowercase cs) (all_lower cs all)

plain_ascii : (cs : List ℕ) → list_all is_plain cs ≡ true → AreAscii cs
plain_ascii [] all = λ k d lt. absurd (omega arith)
plain_ascii (c ∷ cs) all =
    let parts = and_parts (is_plain c) (list_all is_plain cs) all in
    joined c cs (ascii_of c parts.0) (plain_ascii cs parts.1)
  where
    ascii_of : (c : ℕ) → is_plain c ≡ true → c < 128
    ascii_of c is = grind (arith, nat_tests, is)

-- the words of a plain text are its runs in lower case
pub plain_runs : (cs : List ℕ) → list_all is_plain cs ≡ true → ascii_runs (map to_ascii_lowercase cs) ≡ plain_words cs
plain_runs cs plain =
    let all : AreAscii cs = plain_ascii cs plain in
    let low : AreAscii (map to_ascii_lowercase cs) = all_lower cs all in
    sym (plain_words-is cs ∙ ap (λ l. runs (letters l)) (normalized_is cs all) ∙ ap runs (letters_are (map to_ascii_lowercase cs) low) ∙ runs_are (map to_ascii_lowercase cs) low)

-- ---- asides

no_aside : (c : ℕ) (cs : List ℕ) → is_plain c ≡ true → aside_len c cs ≡ 0
no_aside c cs is = rw (
  eq_no c 40 (grind (arith, nat_tests, is)),
  eq_no c 91 (grind (arith, nat_tests, is)),
  eq_no c 34 (grind (arith, nat_tests, is)),
)
  where
    eq_no : (c n : ℕ) → (c == n) ≡ false → (c == n) ≡ false
    eq_no c n is = is

pub no_asides : (cs : List ℕ) → list_all is_plain cs ≡ true → without_asides cs ≡ cs
no_asides [] all = without_asides-nil
no_asides (c ∷ cs) all =
    let parts = and_parts (is_plain c) (list_all is_plain cs) all in
    without_asides-cons c cs ∙ ap (λ n. (if n == 0 then c else 32) ∷ without_asides (drop n cs)) (no_aside c cs parts.0) ∙ ap (λ rest. c ∷ rest) (no_asides cs parts.1)

-- what is before ` via ` is plain, too
via_plain : (cs : List ℕ) → list_all is_plain cs ≡ true → list_all is_plain (before_via cs) ≡ true
via_plain [] all = ap (list_all is_plain) before_via-nil
via_plain (c ∷ cs) all =
    let parts = and_parts (is_plain c) (list_all is_plain cs) all in
    elim (begins_with_via (c ∷ cs)) as (λ b. begins_with_via (c ∷ cs) ≡ b → list_all is_plain (before_via (c ∷ cs)) ≡ true) [
      | true ↦ λ here. ap (list_all is_plain) (before_via-here (c ∷ cs) here)
      | false ↦ λ later. ap (list_all is_plain) (before_via-later c cs later) ∙ ap (λ b. b && list_all is_plain (before_via cs)) parts.0 ∙ via_plain cs parts.1
    ] refl

-- ---- names

module _ (name : List ℕ) (plain : list_all is_plain name ≡ true) where
  pub bare_plain : list_all is_plain (before_via name) ≡ true
  bare_plain = via_plain name plain

  words_are : words name ≡ text_words name
  words_are =
      let ascii = IsAscii-from_all name (plain_ascii name plain) in
      words-text name (IsUtf8-from_ascii name ascii) ∙ ap text_words (chars-IsAscii name ascii)

  bare_is : plain_words (before_via name) ≡ plain_words (before_via (without_asides name))
  bare_is = ap (λ l. plain_words (before_via l)) (sym (no_asides name plain))

  pub words_without : length (plain_words (before_via name)) ≡ 0 → plain_words name ≡ words name
  words_without none = sym (words_are ∙ text_words-none name (sym (ap length bare_is) ∙ none))

  pub words_with : (length (plain_words (before_via name)) ≡ 0 → ⊥) → plain_words (before_via name) ≡ words name
  words_with some = bare_is ∙ sym (words_are ∙ text_words-some name (λ none. some (ap length bare_is ∙ none)))
