-- Texts, and how they compare without the case of ASCII letters.
use Rattle.std.specs.Prelude.{◌≡◌, ◌<◌, ◌⊎◌, ℕ, List, [], ◌∷◌}
use Rattle.std.specs.Cmp.Lexicographic.{slice_cmp}
use Rattle.std.specs.Ordering.{nat_cmp}
use Rattle.std.specs.Str.{str_to_ascii_lowercase}
use Rattle.std.specs.declared.cmp.Ordering.{Ordering}

-- the bytes of a name, an email, a line or a buffer
abbrev pub Text : Type 0
Text = List ℕ

-- in lower case: the capital letters of ASCII become small ones, and other bytes stay as they are
abbrev pub folded : Text → Text
folded s = str_to_ascii_lowercase s

-- byte by byte; a proper prefix comes first
abbrev pub text_cmp : Text → Text → Ordering
text_cmp = slice_cmp nat_cmp

-- the first bytes that differ decide; a proper prefix is smaller
abbrev pub IsSmaller : Text → Text → Type 0
IsSmaller xs [] = ⊥
IsSmaller [] (y ∷ ys) = Unit {0}
IsSmaller (x ∷ xs) (y ∷ ys) = (x < y) ⊎ ((x ≡ y) × IsSmaller xs ys)

-- smaller without regard to case
abbrev pub IsBelow : Text → Text → Type 0
IsBelow a b = IsSmaller (folded a) (folded b)
