-- Lines in the cache, with their answers.
use Rattle.std.specs.Prelude.{◌≡◌, ◌⊎◌, ◌<◌, ℕ, List, [], ◌∷◌, ◌++◌, length, slice_set}

-- a line and its answer
pub record CachedLine : Type 0 where
  pub line : List ℕ
  pub answer : List ℕ

-- one line was added, after the others or in place of one of them
abbrev pub Inserts : List CachedLine → CachedLine → List CachedLine → Type 0
Inserts old line new = (new ≡ old ++ line ∷ []) ⊎ ((k : ℕ) × (k < length old) × (new ≡ slice_set old k line))
