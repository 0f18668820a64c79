-- A text spells at most one time: it is split at its first space, and each part has one value.
use Rattle.std.proofs.Common.{◌≡◌, ◌≢◌, ◌+◌, ◌*◌, ◌^◌, ◌<◌, ◌≤◌, ℕ, ℤ, pos, neg_ℤ, Bool, true, false, cond, ◌==◌, Result, MatchResult, Option, MatchOption, ◌∷◌, ◌++◌, length, get_or, take, drop, refl, sym, ap, ◌∙◌, arith, rules, ⊎_elim, w64, FitsSigned}
use Rattle.std.specs.Prelude.{◌↔◌}
use Rattle.std.proofs.lemmas.Bool.{eq-eqb, ne_eqb}
use Rattle.std.proofs.lemmas.List.{take_at, drop_at}
use Rattle.std.proofs.lemmas.Str.Parse.{IsNumeralModel, numerals_by_weight, parse_signed_minus, parse_signed_plain}
use Rattle.std.specs.Result.{OkIff, result_ok}
use Rattle.std.specs.Str.Parse.{ParsesSigned}
use Rattle.mailmap_entries.specs.Folding.{Text}
use Rattle.mailmap_entries.proofs.Parts.{all_tail, all_weaker}
use Rattle.mailmap_grammar.specs.Lines.{HoldsNo}
use Rattle.mailmap_grammar.proofs.SplitOnce.{none_held, once-some}
use Rattle.mailmap_snapshot.specs.Times.{AreDigits, decimal_value, signed, SpellsSeconds, SpellsOffset, Spells, IsTimeOf}
use Rattle.mailmap_snapshot.specs.declared.date.Time.{Time}

-- `parse` reads decimal digits as this number
decimals : IsNumeralModel AreDigits decimal_value
decimals = numerals_by_weight _ (search rules) _ (search rules)

-- digits contain no byte below `0`
HoldsNo-digits : (x : ℕ) (ds : Text) → x < 48 → AreDigits ds → HoldsNo x ds
HoldsNo-digits x ds small are = all_weaker ds (λ d digit is. let low : 48 ≤ d = digit.0 in omega arith) are

-- texts that are equal have the same parts before and after their first x
same_cut : (x : ℕ) (a b c d : Text) → HoldsNo x a → HoldsNo x b → a ++ x ∷ c ≡ b ++ x ∷ d → (a ≡ b) × (c ≡ d)
same_cut x a b c d p q e = grind (arith, once-some x a c p, once-some x b d q)

-- the digits of a text that spells seconds
abbrev digits_in : Text → Text
digits_in text = cond (get_or text 0 0 == 45) (drop 1 text) text

-- a text determines the seconds that it spells: only a sign is a `-` in front
record AreSeconds (negative : Bool) (digits : Text) (seconds : ℤ) : Type 0 where
  are : AreDigits digits × (0 < length digits)
  value : seconds ≡ signed negative (decimal_value digits)
  fits : FitsSigned w64 seconds

seconds_spelled : (text : Text) (seconds : ℤ) → SpellsSeconds text seconds → AreSeconds (get_or text 0 0 == 45) (digits_in text) seconds
seconds_spelled text seconds s = grind (arith, ne_eqb, HoldsNo-digits)

-- a text whose first byte is a `-`
minus_first : (text : Text) → get_or text 0 0 ≡ 45 → text ≡ 45 ∷ drop 1 text
minus_first text h = grind arith

-- seconds contain no space
HoldsNo-seconds : (text : Text) (seconds : ℤ) → SpellsSeconds text seconds → HoldsNo 32 text
HoldsNo-seconds text seconds s = grind (arith, HoldsNo-digits)

-- the offset of a text, depending on its sign
abbrev offset_at : Text → ℤ
offset_at text = signed (get_or text 0 0 == 45) ((decimal_value (take 2 (drop 1 text)) * 60 + decimal_value (drop 3 text)) * 60)

offset-cases : (negative : Bool) (hours minutes : Text) → length hours ≡ 2 → signed negative ((decimal_value hours * 60 + decimal_value minutes) * 60) ≡ offset_at (cond negative 45 43 ∷ (hours ++ minutes))
offset-cases true hours minutes two = rw (take_at hours minutes 2 two, drop_at hours minutes 2 two)
offset-cases false hours minutes two = rw (take_at hours minutes 2 two, drop_at hours minutes 2 two)

-- a text determines its offset
offset-value : (text : Text) (offset : ℤ) → SpellsOffset text offset → offset ≡ offset_at text
offset-value text offset o = o.value ∙ offset-cases o.negative o.hours o.minutes o.are_hours.1 ∙ ap offset_at (sym o.whole)

-- a result is the seconds that the text spells, or an error if it spells none
abbrev pub IsSecondsOf : {E : Type 0} → Text → Result ℤ E → Type 0
IsSecondsOf text r = MatchResult r (SpellsSeconds text) (λ _. (seconds : ℤ) → ¬ SpellsSeconds text seconds)

-- the least 64-bit number is one further from zero than the greatest
fits_minus : (n : ℕ) → (n ≤ 2 ^ 63) ↔ FitsSigned w64 (neg_ℤ (pos n))
fits_minus n = grind arith

-- what `parse` gives for a text with this sign, if P says that the number fits
parsed : {E : Type 0} (P : Type 0) (text : Text) (r : Result ℤ E) (negative : Bool) → (get_or text 0 0 == 45) ≡ negative → let digits = cond negative (drop 1 text) text in text ≡ cond negative (45 ∷ digits) digits
    → (P ↔ FitsSigned w64 (signed negative (decimal_value digits))) → OkIff r (AreDigits digits × (0 < length digits) × P) (signed negative (decimal_value digits)) → IsSecondsOf text r
parsed P text r negative h i j k = grind (arith, seconds_spelled)

-- `parse` gives the seconds that the text spells, unless it begins with `+`
pub seconds-parse : {E : Type 0} (text : Text) (r : Result ℤ E) → ParsesSigned w64 10 text r → get_or text 0 0 ≢ 43 → IsSecondsOf text r
seconds-parse text r p no_plus =
    grind (arith, parsed, eq-eqb, minus_first, fits_minus, parse_signed_minus, decimals, ne_eqb, parse_signed_plain)

-- the result without its error is the seconds that the text spells
pub seconds-ok : {E : Type 0} (text : Text) (r : Result ℤ E) (o : Option ℤ) → IsSecondsOf text r → o ≡ result_ok r → MatchOption o ((seconds : ℤ) → ¬ SpellsSeconds text seconds) (SpellsSeconds text)
seconds-ok text r o h i = grind arith

abbrev time_of : ℤ → ℤ → Time
time_of seconds offset = record { seconds = seconds; offset = offset }

-- a text spells at most one time
pub spells_unique : (text : Text) (a b : Time) → Spells text a → Spells text b → a ≡ b
spells_unique text a b s t =
    let cut = same_cut 32 s.front t.front s.back t.back (HoldsNo-seconds s.front a.seconds s.seconds) (HoldsNo-seconds t.front b.seconds t.seconds) (sym s.whole ∙ t.whole) in
    let seconds : a.seconds ≡ b.seconds = cc ((seconds_spelled s.front a.seconds s.seconds).value, (seconds_spelled t.front b.seconds t.seconds).value) in
    let offset : a.offset ≡ b.offset = cc (offset-value s.back a.offset s.offset, offset-value t.back b.offset t.offset) in
    λ i. time_of (seconds i) (offset i)

-- a signature's text determines its time
pub time_of_unique : (text : Text) (a b : Time) → IsTimeOf text a → IsTimeOf text b → a ≡ b
time_of_unique text a b s t = ⊎_elim
    (λ spelled. ⊎_elim (λ other. spells_unique text a b spelled other) (λ none. absurd (none.0 a spelled)) t)
    (λ none. ⊎_elim (λ spelled. absurd (none.0 b spelled)) (λ other. none.1 ∙ sym other.1) t) s

-- a text without a space spells no time
pub Spells-no_space : (text : Text) → ((i : ℕ) → i < length text → get_or text i 0 ≢ 32) → (time : Time) → ¬ Spells text time
Spells-no_space text lacks time s = (all_tail _ s.front (32 ∷ s.back) (rw s.whole at (none_held 32 text lacks))).0 refl

-- a text spells a time if the parts before and after the space spell its fields
pub Spells-cut : {text front back : Text} → (text ≡ front ++ 32 ∷ back) × ((i : ℕ) → i < length front → get_or front i 0 ≢ 32)
    → (time : Time) → Spells text time → SpellsSeconds front time.seconds × SpellsOffset back time.offset
Spells-cut {front = front} {back = back} (whole, lacks) time s =
    let cut = same_cut 32 s.front front s.back back (HoldsNo-seconds s.front time.seconds s.seconds) (none_held 32 front lacks) (sym s.whole ∙ whole) in
    (rw cut.0 at s.seconds, rw cut.1 at s.offset)
