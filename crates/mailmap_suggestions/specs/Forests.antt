-- Classes as the code has them while it joins them: each item has a parent in its class, and a root is its own.
use Rattle.std.specs.Prelude.{◌≡◌, ◌<◌, ◌≤◌, ◌+◌, ◌↔◌, ℕ, List, [], length, slice_index, slice_index_or, map}
use Rattle.mailmap_entries.specs.Folding.{Text}
use Rattle.mailmap_suggestions.specs.declared.classes.Link.{Link}

abbrev pub link_of : Link → Text × ℕ
link_of link = (link.mark.text.items, link.item)

abbrev pub links_of : List Link → List (Text × ℕ)
links_of links = map link_of links

-- no parent is greater than its item
abbrev pub IsForest : List ℕ → Type 0
IsForest parents = (i : ℕ) → i < length parents → slice_index parents i ≤ i

abbrev pub IsRoot : List ℕ → ℕ → Type 0
IsRoot parents i = slice_index parents i ≡ i

-- a function of items that is the same for each item and its parent, and so for all of a class
abbrev pub AgreesAlong : List ℕ → (ℕ → ℕ) → Type 0
AgreesAlong parents f = (i : ℕ) → i < length parents → f (slice_index parents i) ≡ f i

-- the classes stay as they are, and so do the roots
pub record KeepsClasses (old new : List ℕ) : Type 0 where
  pub length : length new ≡ length old
  pub forest : IsForest new
  pub roots : (i : ℕ) → IsRoot old i → IsRoot new i
  pub same : (f : ℕ → ℕ) → AgreesAlong new f ↔ AgreesAlong old f

-- the classes of two items become one
pub record Joins (old : List ℕ) (a b : ℕ) (new : List ℕ) : Type 0 where
  pub length : length new ≡ length old
  pub forest : IsForest new
  pub both : (f : ℕ → ℕ) → AgreesAlong new f ↔ (AgreesAlong old f × (f a ≡ f b))

-- the link at an index
abbrev pub link_at : List (Text × ℕ) → ℕ → Text × ℕ
link_at links k = slice_index_or links k ([], 0)

-- a function of items that is the same for neighbours below an index with one mark
abbrev pub AgreesBelow : List (Text × ℕ) → ℕ → (ℕ → ℕ) → Type 0
AgreesBelow links n f = (k : ℕ) → k + 1 < n → (link_at links k).0 ≡ (link_at links (k + 1)).0
    → f (link_at links k).1 ≡ f (link_at links (k + 1)).1

-- the classes are those of `start`, joined where neighbours below an index have one mark
abbrev pub IsJoined : List ℕ → List ℕ → List (Text × ℕ) → ℕ → Type 0
IsJoined start parents links n = (f : ℕ → ℕ) → AgreesAlong parents f ↔ (AgreesAlong start f × AgreesBelow links n f)
