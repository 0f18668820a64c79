-- The lines of a buffer concatenate to it, and concatenating some of them gives a text with exactly these lines.
use Rattle.std.proofs.Common.{◌≡◌, ◌≢◌, ◌⊎◌, ℕ, Bool, List, [], ◌∷◌, ◌++◌, map, filter, inl, inr, ⊎_elim, refl, ap, arith, rules}
use Rattle.std.specs.List.{flat_map}
use Rattle.std.proofs.lemmas.Bool.{cond-false, cond_both, ne_eqb, eqb-false, eqb-true}
use Rattle.mailmap_entries.specs.Folding.{Text}
use Rattle.mailmap_grammar.specs.Lines.{HoldsNo, with_first}
use Rattle.mailmap_findings.specs.Positions.{Line, whole_lines}

abbrev pub joined : List Text → Text
joined ts = flat_map (λ t. t) ts

-- ---- lines concatenate to their buffer

pub joined-whole_lines : (s : Text) → joined (whole_lines s) ≡ s
unfolding whole_lines
joined-whole_lines [] = refl
joined-whole_lines (b ∷ s) = grind (arith, cond_both, (joined-whole_lines s), (joined-whole_lines s))

-- ---- when texts are the lines of their concatenation

-- the text has a line feed at its end, and nowhere else
abbrev IsEnded : Text → Type 0
IsEnded t = (front : Text) × HoldsNo 10 front × (t ≡ front ++ 10 ∷ [])

-- the text is not empty, and has no line feed
abbrev IsOpen : Text → Type 0
IsOpen t = (t ≢ []) × HoldsNo 10 t

-- each text ends in its only line feed, which the last text may lack
abbrev pub AreWhole : List Text → Type 0
AreWhole [] = Unit {0}
AreWhole (t ∷ ts) = (IsEnded t ⊎ (IsOpen t × (ts ≡ []))) × AreWhole ts

first_byte : (b : ℕ) (ts : List Text) → b ≢ 10 → AreWhole ts → AreWhole (with_first b ts)
first_byte b [] other are = (inr (((λ e. cc), (other, tt)), refl), tt)
first_byte b (t ∷ ts) other are = (
  ⊎_elim (λ w. inl (b ∷ w.0, (other, w.1), ap (λ x. b ∷ x) w.2)) (λ w. inr (((λ e. cc), (other, w.0.1)), w.1)) are.0,
  are.1,
)

pub are_whole : (s : Text) → AreWhole (whole_lines s)
unfolding whole_lines
are_whole [] = tt
are_whole (b ∷ s) = grind (arith, cond_both, eqb-true, first_byte, eqb-false, (are_whole s))

lines-ended : (front rest : Text) → HoldsNo 10 front → whole_lines ((front ++ 10 ∷ []) ++ rest) ≡ (front ++ 10 ∷ []) ∷ whole_lines rest
unfolding whole_lines
lines-ended [] rest free = refl
lines-ended (b ∷ front) rest free = grind (arith, (lines-ended front rest free.1))

lines-open : (t : Text) → HoldsNo 10 t → t ≢ [] → whole_lines t ≡ t ∷ []
unfolding whole_lines
lines-open [] free some = absurd (some refl)
lines-open (b ∷ []) free some = cond-false _ _ _ (ne_eqb b 10 free.0)
lines-open (b ∷ c ∷ t) free some = grind (arith, (lines-open (c ∷ t) free.1))

lines-nil : whole_lines [] ≡ []
unfolding whole_lines
lines-nil = refl

pub whole_lines-joined : (ts : List Text) → AreWhole ts → whole_lines (joined ts) ≡ ts
whole_lines-joined [] are = lines-nil
whole_lines-joined (t ∷ ts) are = search (rules, lines-ended, lines-open, (whole_lines-joined ts are.1))

-- ---- some of the lines

abbrev pub texts : List Line → List Text
texts ls = map (λ l. l.text) ls

none_left : (test : Line → Bool) (ls : List Line) → texts ls ≡ [] → texts (filter test ls) ≡ []
none_left test [] e = refl
none_left test (l ∷ ls) e = cc

pub some_whole : (test : Line → Bool) (ls : List Line) → AreWhole (texts ls) → AreWhole (texts (filter test ls))
some_whole test [] are = tt
some_whole test (l ∷ ls) are = grind (arith, none_left, (some_whole test ls are.1))

-- a list with a line in it has a text in it
some_there : (a c : List Line) (l : Line) → texts (a ++ l ∷ c) ≢ []
some_there [] c l = λ e. cc
some_there (k ∷ a) c l = λ e. cc

pub without_one : (a c : List Line) (l : Line) → AreWhole (texts (a ++ l ∷ c)) → AreWhole (texts (a ++ c))
without_one [] c l are = are.1
without_one (k ∷ a) c l are = grind (arith, some_there, (without_one a c l are.1))
