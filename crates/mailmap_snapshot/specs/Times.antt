-- The time that a text such as `1711398853 +0800` spells.
use Rattle.std.specs.Prelude.{◌≡◌, ◌⊎◌, ◌+◌, ◌*◌, ◌-◌, ◌^◌, ◌<◌, ℕ, ℤ, pos, neg_ℤ, Bool, if◌then◌else◌, Option}
use Rattle.std.specs.Prelude.{MatchOption, [], ◌∷◌, ◌++◌, length, FitsSigned}
use Rattle.std.specs.Char.{IsAsciiDigit}
use Rattle.std.specs.Int.{w64}
use Rattle.std.specs.List.{AllByRecursion}
use Rattle.std.specs.Ordering.{int_cmp, ordering_then}
use Rattle.std.specs.declared.cmp.Ordering.{Ordering}
use Rattle.mailmap_entries.specs.Folding.{Text}
use Rattle.mailmap_snapshot.specs.declared.date.Time.{Time}

-- decimal digits and nothing else
abbrev pub AreDigits : Text → Type 0
AreDigits = AllByRecursion IsAsciiDigit

-- the number that decimal digits spell
abbrev pub decimal_value : Text → ℕ
decimal_value [] = 0
decimal_value (d ∷ ds) = (d - 48) * 10 ^ length ds + decimal_value ds

abbrev pub signed : Bool → ℕ → ℤ
signed negative n = if negative then neg_ℤ (pos n) else pos n

-- one or more digits, with any number of leading zeros, and a `-` in front or nothing; the value fits 64 bits
pub record SpellsSeconds (text : Text) (seconds : ℤ) : Type 0 where
  pub negative : Bool
  pub digits : Text
  pub whole : text ≡ (if negative then 45 ∷ digits else digits)
  pub are_digits : AreDigits digits × (0 < length digits)
  pub value : seconds ≡ signed negative (decimal_value digits)
  pub fits : FitsSigned w64 seconds

-- a `-` or a `+`, any two digits of hours and any two digits of minutes
pub record SpellsOffset (text : Text) (offset : ℤ) : Type 0 where
  pub negative : Bool
  pub hours : Text
  pub minutes : Text
  pub whole : text ≡ (if negative then 45 else 43) ∷ (hours ++ minutes)
  pub are_hours : AreDigits hours × (length hours ≡ 2)
  pub are_minutes : AreDigits minutes × (length minutes ≡ 2)
  pub value : offset ≡ signed negative ((decimal_value hours * 60 + decimal_value minutes) * 60)

-- seconds, one space and an offset
pub record Spells (text : Text) (time : Time) : Type 0 where
  pub front : Text
  pub back : Text
  pub whole : text ≡ front ++ 32 ∷ back
  pub seconds : SpellsSeconds front time.seconds
  pub offset : SpellsOffset back time.offset

-- parsing a text gives the time that it spells, or None if it spells none
abbrev pub ParsesTime : Text → Option Time → Type 0
ParsesTime text read = MatchOption read ((time : Time) → ¬ Spells text time) (Spells text)

-- zero in both fields: the beginning of 1970, on a clock set to UTC
abbrev pub epoch : Time
epoch = record { seconds = pos 0; offset = pos 0 }

-- the time of a signature: the one that its text spells, or the epoch if that spells none
abbrev pub IsTimeOf : Text → Time → Type 0
IsTimeOf text time = Spells text time ⊎ (((other : Time) → ¬ Spells text other) × (time ≡ epoch))

-- the seconds decide, and the offsets if the seconds are equal
abbrev pub time_cmp : Time → Time → Ordering
time_cmp a b = ordering_then (int_cmp a.seconds b.seconds) (int_cmp a.offset b.offset)
