-- Classes of items that have marks in common, directly or through others.
use Rattle.std.specs.Prelude.{◌≡◌, ◌<◌, ◌≤◌, ℕ, List, length, slice_index}
use Rattle.std.specs.List.{Contains}
use Rattle.mailmap_entries.specs.Folding.{Text}

-- a function of items that is the same for two with a mark in common; each link is a mark and an item that has it
abbrev pub AgreesOn : List (Text × ℕ) → (ℕ → ℕ) → Type 0
AgreesOn links f = (mark : Text) (i j : ℕ) → Contains links (mark, i) → Contains links (mark, j) → f i ≡ f j

abbrev pub class_of : List ℕ → ℕ → ℕ
class_of classes item = slice_index classes item

-- These are the classes of the items below `count`: items with a mark in common have one class, and items have one only
-- if they must. A class is named after its least item.
pub record AreClasses (count : ℕ) (links : List (Text × ℕ)) (classes : List ℕ) : Type 0 where
  pub length : length classes ≡ count
  pub joined : AgreesOn links (class_of classes)
  -- whatever is the same for items with a mark in common is the same for items of one class
  pub finest : (f : ℕ → ℕ) → AgreesOn links f
      → (i j : ℕ) → i < count → j < count → class_of classes i ≡ class_of classes j → f i ≡ f j
  pub least : (i : ℕ) → i < count → class_of classes i ≤ i
  pub named : (i : ℕ) → i < count → class_of classes (class_of classes i) ≡ class_of classes i
