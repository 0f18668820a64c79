-- Lemmas on the words of a name: characters of strings, asides, ` via `, and the cases of the words.
use Rattle.std.proofs.Common.{◌≡◌, ◌≢◌, ◌⊎◌, ℕ, zero, suc, ◌+◌, ◌<◌, ◌≤◌, ◌==◌, Bool, true, false, cond, ◌&&◌}
use Rattle.std.proofs.Common.{if◌then◌else◌, Some, None, List, [], ◌∷◌, ◌++◌, length, get_or, take, drop, String}
use Rattle.std.proofs.Common.{string_bytes, chars, encode_utf8_all, sym, ◌∙◌, ap, subst, refl, inl, inr, ⊎_elim, arith}
use Rattle.std.proofs.Common.{eq-eqb}
use Rattle.std.proofs.lemmas.Bool.Decides.{eqb_tells, nat_tests}
use Rattle.std.proofs.lemmas.List.{drop_more, take_more, take_all, drop_all, append_assoc, append-nil}
use Rattle.std.proofs.lemmas.Str.{chars_from_encodes, IsUtf8-string_bytes, IsUtf8-from_is_utf8, is_utf8-from_IsUtf8}
use Rattle.std.specs.Char.{to_ascii_lowercase}
use Rattle.std.specs.Prelude.{◌||◌, position}
use Rattle.std.specs.Str.{is_utf8, IsUtf8}
use Rattle.mailmap_names.specs.Words.{aside_len, len_to_closing, without_asides, without_asides_after}
use Rattle.mailmap_names.specs.Words.{before_via, begins_with_via, letters, normalized, plain_words, runs, text_words}
use Rattle.mailmap_names.specs.Words.{words}

differs : (m n : ℕ) → m ≢ n → (m == n) ≡ false
differs m n apart = ⊎_elim (λ t. absurd (apart t.1)) (λ t. t.0) (eqb_tells m n)

-- a string that encodes code points has these as its characters
pub chars-string : {Z : Type 0} (t : String Z) (cs : List ℕ) →
    string_bytes t ≡ encode_utf8_all cs → chars (string_bytes t) ≡ cs
chars-string t cs e = sym (chars_from_encodes cs (string_bytes t) (IsUtf8-string_bytes t) (sym e))

-- what is skipped may be dropped first
without_asides_after-drop : (n : ℕ) (cs : List ℕ) → without_asides_after n cs ≡ without_asides (drop n cs)
unfolding without_asides_after
without_asides_after-drop zero cs = refl
without_asides_after-drop (suc n) [] = refl
without_asides_after-drop (suc n) (c ∷ cs) = without_asides_after-drop n cs

-- one step over a character, or over an aside
pub without_asides-cons : (c : ℕ) (cs : List ℕ) → without_asides (c ∷ cs)
    ≡ (if aside_len c cs == 0 then c else 32) ∷ without_asides (drop (aside_len c cs) cs)
unfolding without_asides_after
without_asides-cons c cs =
    ap (λ rest. (if aside_len c cs == 0 then c else 32) ∷ rest) (without_asides_after-drop (aside_len c cs) cs)

pub without_asides-nil : without_asides [] ≡ []
unfolding without_asides_after
without_asides-nil = refl

-- what stands for a character c: itself, or a space if an aside follows
abbrev StandsFor : ℕ → ℕ → ℕ → Type 0
StandsFor skipped c d = ((skipped ≡ 0) × (d ≡ c)) ⊎ ((skipped ≢ 0) × (d ≡ 32))

stands_for : (skipped c d : ℕ) → StandsFor skipped c d → (if skipped == 0 then c else 32) ≡ d
stands_for skipped c d (inl (none, same)) = ap (λ n. if n == 0 then c else 32) none ∙ sym same
stands_for skipped c d (inr (some, space)) = ap (λ b. if b then c else 32) (differs skipped 0 some) ∙ sym space

-- the loop over characters and asides: one turn, where d stands for the first character c of the rest, and the end
module _ (text kept : List ℕ) where
  pub without_asides-more : (rest after next : List ℕ) (c d skipped : ℕ) →
      1 ≤ length rest → c ≡ get_or rest 0 c → after ≡ drop 1 rest →
      skipped ≡ aside_len c after → StandsFor skipped c d → next ≡ drop skipped after →
      without_asides text ≡ kept ++ without_asides rest →
      without_asides text ≡ (kept ++ d ∷ []) ++ without_asides next
  without_asides-more [] after next c d skipped some _ _ _ _ _ _ = absurd (omega arith)
  without_asides-more (x ∷ xs) after next c d skipped some first others skips stands rest so_far =
      let cut : without_asides (x ∷ xs) ≡ without_asides (c ∷ after) =
      ap (λ y. without_asides (y ∷ xs)) (sym first) ∙ ap (λ ys. without_asides (c ∷ ys)) (sym others) in
      let step : without_asides (c ∷ after) ≡ d ∷ without_asides next =
      without_asides-cons c after
      ∙ ap (λ n. (if n == 0 then c else 32) ∷ without_asides (drop n after)) (sym skips)
      ∙ ap (λ y. y ∷ without_asides (drop skipped after)) (stands_for skipped c d stands)
      ∙ ap (λ r. d ∷ without_asides r) (sym rest) in
      so_far ∙ ap (λ r. kept ++ r) (cut ∙ step) ∙ sym (append_assoc kept (d ∷ []) _)

  pub without_asides-end : (rest : List ℕ) → length rest < 1 →
      without_asides text ≡ kept ++ without_asides rest → kept ≡ without_asides text
  without_asides-end [] none so_far = sym (so_far ∙ ap (λ r. kept ++ r) without_asides-nil ∙ append-nil kept)
  without_asides-end (x ∷ xs) none so_far = absurd (omega arith)

-- a text up to its first bracket of a kind: there is none, it closes, or it doesn't
module _ (opening closing : ℕ) (cs : List ℕ) where
  pub len_to_closing-none : position (λ x. x == opening || x == closing) cs ≡ None →
      len_to_closing opening closing cs ≡ 0
  unfolding len_to_closing
  len_to_closing-none found = rw found

  pub len_to_closing-closed : (end : ℕ) → position (λ x. x == opening || x == closing) cs ≡ Some end →
      get_or cs end 0 ≡ closing → len_to_closing opening closing cs ≡ end + 1
  unfolding len_to_closing
  len_to_closing-closed end found same = rw (found, eq-eqb (get_or cs end 0) closing same)

  pub len_to_closing-other : (end : ℕ) → position (λ x. x == opening || x == closing) cs ≡ Some end →
      get_or cs end 0 ≢ closing → len_to_closing opening closing cs ≡ 0
  unfolding len_to_closing
  len_to_closing-other end found other = rw (found, differs (get_or cs end 0) closing other)

-- ` via ` begins here, or later; or the text is at its end
pub before_via-here : (cs : List ℕ) → begins_with_via cs ≡ true → before_via cs ≡ []
unfolding before_via
before_via-here [] here = refl
before_via-here (c ∷ cs) here = ap (λ b. cond b [] (c ∷ before_via cs)) here

pub before_via-later : (c : ℕ) (cs : List ℕ) → begins_with_via (c ∷ cs) ≡ false → before_via (c ∷ cs) ≡ c ∷ before_via cs
unfolding before_via
before_via-later c cs later = ap (λ b. cond b [] (c ∷ before_via cs)) later

pub before_via-nil : before_via [] ≡ []
unfolding before_via
before_via-nil = refl

-- the loop over the places where ` via ` may begin, of which those before i have passed
module _ (cs : List ℕ) (i : ℕ) (so_far : before_via cs ≡ take i cs ++ before_via (drop i cs)) where
  pub before_via-found : begins_with_via (drop i cs) ≡ true → before_via cs ≡ take i cs
  before_via-found here =
      so_far ∙ ap (λ rest. take i cs ++ rest) (before_via-here (drop i cs) here) ∙ append-nil (take i cs)

  pub before_via-more : i < length cs → begins_with_via (drop i cs) ≡ false →
      before_via cs ≡ take (i + 1) cs ++ before_via (drop (i + 1) cs)
  before_via-more below later =
      let P : List ℕ → Type 0 = λ t. begins_with_via t ≡ false in
      let split = drop_more cs i 0 below in
      let rest = ap before_via split ∙ before_via-later _ _ (subst P split later) in
      so_far ∙ ap (λ r. take i cs ++ r) rest ∙ sym (append_assoc (take i cs) (get_or cs i 0 ∷ []) _)
      ∙ ap (λ t. t ++ before_via (drop (i + 1) cs)) (sym (take_more cs i 0 below))

  pub before_via-end : length cs ≤ i → before_via cs ≡ cs
  before_via-end all =
      so_far ∙ ap (λ rest. take i cs ++ before_via rest) (drop_all i cs all)
      ∙ ap (λ rest. take i cs ++ rest) before_via-nil ∙ append-nil (take i cs) ∙ take_all i cs all

lowercase-space : (c : ℕ) → (to_ascii_lowercase c == 32) ≡ (c == 32)
lowercase-space c = grind (arith, nat_tests)

regroup : (p q r s t : Bool) → p && (q && (r && (s && (t && true)))) ≡ p && q && r && s && t
regroup false q r s t = refl
regroup true false r s t = refl
regroup true true false s t = refl
regroup true true true false t = refl
regroup true true true true true = refl
regroup true true true true false = refl

-- the tests of the five characters of ` via `, of which v, i and a are in lower case
abbrev is_via : ℕ → ℕ → ℕ → ℕ → ℕ → Bool
is_via before v i a after = (before == 32) && (v == 118) && (i == 105) && (a == 97) && (after == 32)

first_five : (f g h j k : ℕ) (cs : List ℕ) → begins_with_via (f ∷ g ∷ h ∷ j ∷ k ∷ cs)
    ≡ is_via f (to_ascii_lowercase g) (to_ascii_lowercase h) (to_ascii_lowercase j) k
first_five f g h j k cs =
    regroup (to_ascii_lowercase f == 32) (to_ascii_lowercase g == 118) (to_ascii_lowercase h == 105)
    (to_ascii_lowercase j == 97) (to_ascii_lowercase k == 32)
    ∙ simp lowercase-space

pub begins_with_via-five : (b c d e f v i a : ℕ) (cs : List ℕ) → 5 ≤ length cs →
    b ≡ get_or cs 0 b → c ≡ get_or cs 1 c → d ≡ get_or cs 2 d → e ≡ get_or cs 3 e → f ≡ get_or cs 4 f →
    v ≡ to_ascii_lowercase c → i ≡ to_ascii_lowercase d → a ≡ to_ascii_lowercase e →
    is_via b v i a f ≡ begins_with_via cs
begins_with_via-five b c d e f v i a (x ∷ y ∷ z ∷ s ∷ t ∷ cs) five at0 at1 at2 at3 at4 lower_v lower_i lower_a =
    rw (at0, lower_v, at1, lower_i, at2, lower_a, at3, at4) (sym (first_five x y z s t cs))
begins_with_via-five b c d e f v i a _ five _ _ _ _ _ _ _ _ = absurd (omega arith)

pub plain_words-is : (cs : List ℕ) → plain_words cs ≡ runs (letters (normalized cs))
unfolding plain_words
plain_words-is cs = refl

-- the words of a text: if no word is left without the asides, and else
module _ (cs : List ℕ) where
  pub text_words-none : length (plain_words (before_via (without_asides cs))) ≡ 0 → text_words cs ≡ plain_words cs
  unfolding text_words
  text_words-none none = ap (λ n. if n == 0 then plain_words cs else plain_words (before_via (without_asides cs))) none

  pub text_words-some : length (plain_words (before_via (without_asides cs))) ≢ 0 →
      text_words cs ≡ plain_words (before_via (without_asides cs))
  unfolding text_words
  text_words-some some =
      let found = plain_words (before_via (without_asides cs)) in
      ap (λ b. if b then plain_words cs else found) (differs (length found) 0 some)

-- the words of a name that is UTF-8, or not
module _ (name : List ℕ) where
  pub words-text : IsUtf8 name → words name ≡ text_words (chars name)
  unfolding words
  words-text valid = ap (λ b. if b then text_words (chars name) else []) (is_utf8-from_IsUtf8 name valid)

  pub words-none : ¬ (IsUtf8 name) → words name ≡ []
  unfolding words
  words-none invalid =
      let at = λ (b : Bool). if b then text_words (chars name) else [] in
      elim (is_utf8 name) as (λ b. is_utf8 name ≡ b → at b ≡ [])
      [ true ↦ λ valid. absurd (invalid (IsUtf8-from_is_utf8 name valid)) | false ↦ λ _. refl ] refl
