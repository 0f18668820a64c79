-- An offset has five bytes: the sign and two pairs of digits.
use Rattle.std.proofs.Common.{◌≡◌, ◌+◌, ◌*◌, ℤ, Bool, true, false, cond, [], ◌∷◌, length, get_or, refl, sym, arith}
use Rattle.std.proofs.lemmas.Int.{ints}
use Rattle.std.proofs.lemmas.Slice.Eq.{text_from_reads}
use Rattle.mailmap_entries.specs.Folding.{Text}
use Rattle.mailmap_snapshot.specs.Times.{AreDigits, decimal_value, signed, SpellsOffset}
use Rattle.mailmap_snapshot.proofs.date.read_offset.Goals as goal

-- a sign and four digits spell an offset
SpellsOffset-bytes : (bytes : Text) (negative : Bool) (offset : ℤ) → length bytes ≡ 5 → get_or bytes 0 0 ≡ cond negative 45 43 →
    let hours = get_or bytes 1 0 ∷ get_or bytes 2 0 ∷ [] in
    let minutes = get_or bytes 3 0 ∷ get_or bytes 4 0 ∷ [] in
    AreDigits hours → AreDigits minutes → offset ≡ signed negative ((decimal_value hours * 60 + decimal_value minutes) * 60) → SpellsOffset bytes offset
SpellsOffset-bytes bytes negative offset five sign hours minutes value = record {
  negative = negative;
  hours = get_or bytes 1 0 ∷ get_or bytes 2 0 ∷ [];
  minutes = get_or bytes 3 0 ∷ get_or bytes 4 0 ∷ [];
  whole = text_from_reads bytes _ five (sign, (refl, (refl, (refl, (refl, tt)))));
  are_hours = (hours, refl);
  are_minutes = (minutes, refl);
  value = value;
}

pub returns-in-43 : goal.returns-in-43
returns-in-43 c =
    let digits = c.in_ok-seconds.ensures.0 in
    rw (sym c.as_bytes.ensures.value)
    (SpellsOffset-bytes c.as_bytes.result.now false _ (omega arith) c.in-43.is digits.0 digits.1 (omega (arith, ints, c.in_ok-seconds.ensures.1)))

pub returns-in-45 : goal.returns-in-45
returns-in-45 c =
    let digits = c.in_ok-seconds.ensures.0 in
    rw (sym c.as_bytes.ensures.value)
    (SpellsOffset-bytes c.as_bytes.result.now true _ (omega arith) c.in-45.is digits.0 digits.1 (omega (arith, ints, c.in_ok-seconds.ensures.1)))
