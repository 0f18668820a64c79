-- Texts without the white space at their ends, as Unicode defines white space, in UTF-8.
use Rattle.std.specs.Prelude.{◌≡◌, ℕ, true, List, ◌++◌}
use Rattle.std.specs.List.{AllByRecursion}
use Rattle.std.specs.Char.{is_whitespace, encode_utf8}
use Rattle.std.specs.Str.{encode_utf8_all}
use Rattle.bstr.specs.Trim.{trim_start_by, trim_end_by}
use Rattle.mailmap_entries.specs.Folding.{Text}

-- the trimmed text, as it is computed; IsTrimmed describes it without a computation
unfoldable pub trim : Text → Text
trim s = trim_end_by is_whitespace (trim_start_by is_whitespace s)

-- the text begins with the UTF-8 of a white space character
abbrev pub BeginsWhite : Text → Type 0
BeginsWhite s = (c : ℕ) × (rest : Text) × (is_whitespace c ≡ true) × (s ≡ encode_utf8 c ++ rest)

-- the text ends with the UTF-8 of a white space character
abbrev pub EndsWhite : Text → Type 0
EndsWhite s = (c : ℕ) × (front : Text) × (is_whitespace c ≡ true) × (s ≡ front ++ encode_utf8 c)

abbrev pub AreWhite : List ℕ → Type 0
AreWhite = AllByRecursion (λ c. is_whitespace c ≡ true)

-- left is s without its longest prefix that is the UTF-8 of white space
pub record IsTrimmedStart (s left : Text) : Type 0 where
  pub white : List ℕ
  pub are_white : AreWhite white
  pub whole : s ≡ encode_utf8_all white ++ left
  pub longest : BeginsWhite left → ⊥

-- left is s without its longest suffix that is the UTF-8 of white space
pub record IsTrimmedEnd (s left : Text) : Type 0 where
  pub white : List ℕ
  pub are_white : AreWhite white
  pub whole : s ≡ left ++ encode_utf8_all white
  pub longest : EndsWhite left → ⊥

-- t is s trimmed: first at the start, then at the end of what is left
abbrev pub IsTrimmed : Text → Text → Type 0
IsTrimmed s t = (left : Text) × IsTrimmedStart s left × IsTrimmedEnd left t
