-- An input split into a mailmap and lines with contacts, at its first line `--`.
use Rattle.std.specs.Prelude.{◌≡◌, ℕ, ◌≤◌, ◌⊎◌, List, [], ◌∷◌, ◌++◌, length}
use Rattle.mailmap_grammar.specs.LineParts.{EndsLine}

-- the line `--` with its line end: a line feed, a carriage return and a line feed, or nothing in the last line
abbrev pub IsDividerLine : List ℕ → Type 0
IsDividerLine line = (line ≡ 45 ∷ 45 ∷ 10 ∷ []) ⊎ ((line ≡ 45 ∷ 45 ∷ 13 ∷ 10 ∷ []) ⊎ (line ≡ 45 ∷ 45 ∷ []))

-- such a line in front of the bytes `after`, of which there are none if the line has no line end
abbrev pub IsDivider : List ℕ → List ℕ → Type 0
IsDivider line after = IsDividerLine line × (line ≡ 45 ∷ 45 ∷ [] → after ≡ [])

-- the input is `before`, a line `--`, and `after`
pub record PartsAt (input before after : List ℕ) : Type 0 where
  pub line : List ℕ
  pub whole : input ≡ before ++ line ++ after
  pub starts : EndsLine before
  pub divides : IsDivider line after

-- the input is split at its first line `--`
pub record IsFirstParting (input before after : List ℕ) : Type 0 where
  pub parts : PartsAt input before after
  pub first : (p r : List ℕ) → PartsAt input p r → length before ≤ length p

-- no line of the input is `--`, and `after` is the whole input
pub record IsUndivided (input before after : List ℕ) : Type 0 where
  pub none : (p r : List ℕ) → PartsAt input p r → ⊥
  pub nothing : before ≡ []
  pub all : after ≡ input

-- the parts before and after the first line `--`; without such a line, nothing and the whole input
abbrev pub IsSplit : List ℕ → List ℕ → List ℕ → Type 0
IsSplit input before after = IsFirstParting input before after ⊎ IsUndivided input before after
