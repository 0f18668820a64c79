-- The place of a key in a list with strictly ascending keys, by the answers of a search.
use Rattle.std.specs.Prelude.{◌≡◌, ◌≤◌, ℕ, List, map, length, Option, None, Some, Result, Ok, Err, slice_get, slice_set}
use Rattle.std.specs.List.{insert}
use Rattle.std.specs.List.Sorted.{IsPartitionPoint}
use Rattle.std.specs.declared.cmp.Ordering.{Ordering}
use Rattle.std.specs.declared.cmp.Ordering.TheVariants.{Less, Equal, Greater}
use Rattle.mailmap_entries.specs.Folding.{Text, text_cmp}

-- each key, compared to k
abbrev pub compared : {X : Type 0} → (X → Text) → Text → List X → List Ordering
compared f k xs = map (λ x. text_cmp (f x) k) xs

-- the key at the index is k
abbrev pub IsFound : {X : Type 0} → (X → Text) → Text → List X → ℕ → Type 0
IsFound f k xs i = slice_get (compared f k xs) i ≡ Some Equal

-- k could be inserted at the index: all keys before it are smaller than k, and all from it on are larger
abbrev pub IsMissing : {X : Type 0} → (X → Text) → Text → List X → ℕ → Type 0
IsMissing f k xs i = IsPartitionPoint (λ a. a ≡ Less) (λ a. a ≡ Greater) (compared f k xs) i

-- ---- places: an index at which a search found something, or one to insert it at

-- k has this place
abbrev pub IsPlace : {X : Type 0} → (X → Text) → Text → List X → Result ℕ ℕ → Type 0
IsPlace f k xs (Ok i) = IsFound f k xs i
IsPlace f k xs (Err i) = (i ≤ length xs) × IsMissing f k xs i

-- what was found
abbrev pub found_in : {X : Type 0} → List X → Result ℕ ℕ → Option X
found_in xs (Ok i) = slice_get xs i
found_in xs (Err i) = None

-- an element in place of what was found, or inserted
abbrev pub placed : {X : Type 0} → List X → Result ℕ ℕ → X → List X
placed xs (Ok i) x = slice_set xs i x
placed xs (Err i) x = insert xs i x
