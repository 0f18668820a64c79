-- What a search for a key finds in a list with ascending keys, and an element at the place of its key.
use Rattle.std.proofs.Common.{◌≡◌, List, [], ◌∷◌, ◌++◌, map, set, take, drop, Less, Greater, sym, ap, subst}
use Rattle.std.proofs.Common.{◌∙◌, ◌+◌, ◌≤◌, ℕ, zero, suc, get_or, length, option_map, Some, Result, Ok, Err, arith}
use Rattle.std.proofs.Math.Seq.{map-set_same}
use Rattle.std.proofs.lemmas.Grind.{common_steps}
use Rattle.std.proofs.lemmas.List.{drop-map, length-set, map-append, map-set, set_split, take-append-drop, take-map}
use Rattle.std.proofs.lemmas.List.Elements.{All-from_recursion, All-set, recursion_from_All}
use Rattle.std.proofs.lemmas.List.Edits.{get_or-insert_at, length-insert}
use Rattle.std.specs.Cmp.{tied_itself}
use Rattle.std.specs.Cmp.Lexicographic.{nat_list_cmp_total}
use Rattle.std.specs.List.{AllByRecursion, AllWithin, cons_option, insert, slice_get}
use Rattle.std.specs.List.Sorted.{IsSearchInRange, IsStrictlySortedBy}
use Rattle.std.specs.Option.{ForSome}
use Rattle.std.specs.Ordering.{ordering_reverse}
use Rattle.std.specs.Int.{from_bool}
use Rattle.std.specs.Result.{IfErr, IfOk, is_err}
use Rattle.std.proofs.lemmas.Map.Lookups.{exact_bytes}
use Rattle.std.proofs.lemmas.Option.{get_or_from_slice_get, slice_get-get_or, slice_get-map, slice_get_within}
use Rattle.mailmap_entries.specs.Folding.{Text, text_cmp}
use Rattle.mailmap_entries.proofs.Lookups.{found-at, missing-above, missing-below}
use Rattle.mailmap_entries.proofs.Parts.{all_weaker}
use Rattle.mailmap_tables.specs.KeySearch.{IsFound, IsMissing, IsPlace, found_in, placed}

-- what is read at an index
pub ruleset reads = (common_steps, slice_get-map, slice_get-get_or, slice_get_within)

-- ---- an element at a place

module _ {X : Type 0} (P : X → Type 0) where
  all_insert : (xs : List X) (i : ℕ) (x : X) → AllByRecursion P xs → P x → AllByRecursion P (insert xs i x)
  all_insert xs zero x all p = (p, all)
  all_insert [] (suc i) x all p = (p, tt)
  all_insert (y ∷ xs) (suc i) x all p = (all.0, all_insert xs i x all.1 p)

  pub all_placed : (xs : List X) (r : Result ℕ ℕ) (x : X) → AllByRecursion P xs → P x → AllByRecursion P (placed xs r x)
  all_placed xs (Ok i) x all p = recursion_from_All P (set xs i x) (All-set P xs i x p (All-from_recursion P xs all))
  all_placed xs (Err i) x all p = all_insert xs i x all p

pub map-placed : {X Y : Type 0} (f : X → Y) (xs : List X) (r : Result ℕ ℕ) (x : X)
    → map f (placed xs r x) ≡ placed (map f xs) r (f x)
map-placed f xs (Ok i) x = map-set f xs i x
map-placed f xs (Err i) x = grind (arith, map-append, take-map, drop-map)

pub length-placed : {X : Type 0} (xs : List X) (r : Result ℕ ℕ) (x : X) → IsSearchInRange r (length xs)
    → length (placed xs r x) ≡ length xs + from_bool (is_err r)
length-placed xs (Ok i) x lt = omega (arith, length-set xs i x)
length-placed xs (Err i) x le = length-insert xs i x le

-- the index of a place, whether something is there or not
abbrev pub index_of : Result ℕ ℕ → ℕ
index_of (Ok i) = i
index_of (Err i) = i

-- the elements after a place
abbrev pub after : {X : Type 0} → List X → Result ℕ ℕ → List X
after xs (Ok i) = drop (i + 1) xs
after xs (Err i) = drop i xs

module _ {X : Type 0} (x : X) (xs : List X) where
  pub old_parts : (r : Result ℕ ℕ) → IsSearchInRange r (length xs)
      → xs ≡ take (index_of r) xs ++ cons_option (found_in xs r) (after xs r)
  old_parts (Ok i) lt = grind (arith, common_steps, slice_get-get_or xs i x)
  old_parts (Err i) le = sym (take-append-drop i xs)

  pub new_parts : (r : Result ℕ ℕ) → IsSearchInRange r (length xs)
      → placed xs r x ≡ take (index_of r) xs ++ x ∷ after xs r
  new_parts (Ok i) lt = grind (arith, set_split)
  new_parts (Err i) le = grind arith

  placed_there : (r : Result ℕ ℕ) → IsSearchInRange r (length xs) → slice_get (placed xs r x) (index_of r) ≡ Some x
  placed_there (Ok i) lt = grind (arith, common_steps, slice_get-get_or (set xs i x) i x)
  placed_there (Err i) le = grind (arith, common_steps, slice_get-get_or (insert xs i x) i x, get_or-insert_at, length-insert)

-- ---- the place of a key

module _ {X : Type 0} (f : X → Text) (k : Text) where
  found_there : (xs : List X) (i : ℕ) → IsFound f k xs i → (d : X) → f (get_or xs i d) ≡ k
  found_there xs i found d = exact_bytes (f (get_or xs i d)) k ((found-at text_cmp f k xs i found).1 d)

  pub found_key : (xs : List X) (i : ℕ) → IsFound f k xs i → (x : X) → x ≡ get_or xs i x → f x ≡ k
  found_key xs i found x read = ap f read ∙ found_there xs i found x

  -- what a search answers is a place
  pub is_place : (xs : List X) (r : Result ℕ ℕ) → IsSearchInRange r (length xs) → IfOk r (IsFound f k xs)
      → IfErr r (IsMissing f k xs) → IsPlace f k xs r
  is_place xs (Ok i) lt found missing = found
  is_place xs (Err i) le found missing = (le, missing)

  pub place_within : (xs : List X) (r : Result ℕ ℕ) → IsPlace f k xs r → IsSearchInRange r (length xs)
  place_within xs (Ok i) found = (found-at text_cmp f k xs i found).0
  place_within xs (Err i) missing = missing.0

  pub found_same : (xs : List X) (r : Result ℕ ℕ) → IsPlace f k xs r → ForSome (found_in xs r) (λ x. f x ≡ k)
  found_same xs (Ok i) found x at = found_key xs i found x (sym (get_or_from_slice_get xs i x x at))
  found_same xs (Err i) missing x at = cc

  sorted-insert : (xs : List X) (i : ℕ) (x : X) → f x ≡ k → IsStrictlySortedBy text_cmp (map f xs)
      → AllWithin (λ y. text_cmp (f y) k ≡ Less) xs 0 i → AllWithin (λ y. text_cmp (f y) k ≡ Greater) xs i (length xs)
      → i ≤ length xs → IsStrictlySortedBy text_cmp (map f (insert xs i x))
  unfolding IsStrictlySortedBy
  sorted-insert [] zero x is up low high le = (tt, tt)
  sorted-insert [] (suc i) x is up low high le = absurd (omega arith)
  sorted-insert (y ∷ xs) zero x is up low high le =
      let less : text_cmp (f x) (f y) ≡ Less = ap (λ t. text_cmp t (f y)) is ∙ nat_list_cmp_total.antisymm k (f y)
      ∙ ap ordering_reverse (high 0 y (omega arith) (omega arith)) in
      ((less, all_weaker (map f xs) (λ z. nat_list_cmp_total.trans (f x) (f y) z less) up.0), up)
  sorted-insert (y ∷ xs) (suc i) x is up low high le = (
    subst (AllByRecursion (λ z. text_cmp (f y) z ≡ Less)) (sym (map-placed f xs (Err i) x)) (all_insert _ (map f xs) i
        (f x) up.0
        (ap (text_cmp (f y)) is ∙ low 0 y (omega arith) (omega arith))),
    sorted-insert xs i x is up.1 (λ m d from to. low (suc m) d (omega arith) (omega arith))
        (λ m d from to. high (suc m) d (omega arith) (omega arith)) (omega arith),
  )

  -- an element with the key at its place
  pub placed_sorted : (xs : List X) (r : Result ℕ ℕ) (x : X) → f x ≡ k → IsStrictlySortedBy text_cmp (map f xs)
      → IsPlace f k xs r → IsStrictlySortedBy text_cmp (map f (placed xs r x))
  placed_sorted xs (Ok i) x is up found = rw (map-set_same f xs i x x (is ∙ sym (found_there xs i found x))) up
  placed_sorted xs (Err i) x is up missing = sorted-insert xs i x is up
      (missing-below text_cmp f k xs i missing.0 missing.1) (missing-above text_cmp f k xs i missing.1) missing.0

  pub placed_found : (xs : List X) (r : Result ℕ ℕ) (x : X) → f x ≡ k → IsSearchInRange r (length xs)
      → IsFound f k (placed xs r x) (index_of r)
  placed_found xs r x is within =
      let compare = λ (y : X). text_cmp (f y) k in
      slice_get-map compare (placed xs r x) (index_of r) ∙ ap (option_map compare) (placed_there x xs r within)
      ∙ ap (λ t. Some (text_cmp t k)) is ∙ ap (λ o. Some o) (tied_itself nat_list_cmp_total k)
