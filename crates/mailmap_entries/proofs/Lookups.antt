-- Results of a binary search by key, in a table whose keys strictly ascend.
use Rattle.std.proofs.Common.{◌≡◌, ◌≢◌, ℕ, ◌<◌, ◌≤◌, List, [], ◌∷◌, length, map, Some, Ordering, Less, Equal, Greater, refl, sym, ap, ◌∙◌, arith}
use Rattle.std.specs.List.{slice_get, AllByRecursion, AllWithin, HoldsAt}
use Rattle.std.specs.List.Sorted.{IsStrictlySortedBy, IsPartitionPoint}
use Rattle.std.specs.Ordering.{ordering_reverse}
use Rattle.std.specs.Cmp.{IsTotalOrder}
use Rattle.std.proofs.lemmas.List.{get_or-map, length-map}
use Rattle.std.proofs.lemmas.Option.{slice_get_within, get_or_from_slice_get}
use Rattle.mailmap_entries.specs.Search.{IsPartitioned}

module _ {K : Type 0} {R : K → K → Ordering} (o : IsTotalOrder R) where
  -- if q is below y, y is above q
  above : (y q : K) → R q y ≡ Less → R y q ≡ Greater
  above y q e = o.antisymm y q ∙ ap ordering_reverse e

  -- if k is not below q and y is above k, y is above q
  above_other : (k y q : K) (a : Ordering) → R k q ≡ a → a ≢ Less → R k y ≡ Less → R y q ≡ Greater
  above_other k y q a is other up = grind (arith, o.congr k q y, o.trans q k y, o.antisymm q k, o.antisymm y q)

  module _ {X : Type 0} (key : X → K) (q : K) where
    -- after a key that is not below q, all keys are above q
    greater_behind : (k : K) (a : Ordering) → R k q ≡ a → a ≢ Less → (xs : List X) → AllByRecursion (λ y. R k y ≡ Less) (map key xs) → AllByRecursion (λ a. a ≡ Greater) (map (λ x. R (key x) q) xs)
    greater_behind k a is other [] all = tt
    greater_behind k a is other (x ∷ xs) all = (above_other k (key x) q a is other all.0, greater_behind k a is other xs all.1)

    -- the first answer, followed by a partitioned list, or by `Greater` only
    parted_on : (k : K) (a : Ordering) → R k q ≡ a → (xs : List X) → AllByRecursion (λ y. R k y ≡ Less) (map key xs) → IsPartitioned (map (λ x. R (key x) q) xs) → IsPartitioned (a ∷ map (λ x. R (key x) q) xs)
    unfolding IsPartitioned
    parted_on k Less is xs all parted = parted
    parted_on k Equal is xs all parted = greater_behind k Equal is (λ e. cc) xs all
    parted_on k Greater is xs all parted = greater_behind k Greater is (λ e. cc) xs all

    -- strictly ascending keys are partitioned by any q
    pub IsPartitioned-from_ascending : (xs : List X) → IsStrictlySortedBy R (map key xs) → IsPartitioned (map (λ x. R (key x) q) xs)
    unfolding IsPartitioned IsStrictlySortedBy
    IsPartitioned-from_ascending [] up = tt
    IsPartitioned-from_ascending (x ∷ xs) up = parted_on (key x) (R (key x) q) refl xs up.0 (IsPartitioned-from_ascending xs up.1)

module _ {X K : Type 0} (R : K → K → Ordering) (key : X → K) (q : K) where
  -- a found index is in the table, and its key compares as equal
  pub found-at : (xs : List X) (i : ℕ) → slice_get (map (λ x. R (key x) q) xs) i ≡ Some Equal → (i < length xs) × HoldsAt (λ x. R (key x) q ≡ Equal) xs i
  found-at xs i found =
      let compare : X → Ordering = λ x. R (key x) q in
      let within : i < length (map compare xs) = slice_get_within (map compare xs) i Equal found in
      let inside : i < length xs = omega (arith, length-map xs compare) in
      (inside, λ d. sym (get_or-map compare xs i d Equal inside) ∙ get_or_from_slice_get (map compare xs) i Equal Equal found)

  -- all keys before the insertion index are lower
  pub missing-below : (xs : List X) (i : ℕ) → i ≤ length xs → IsPartitionPoint (λ a. a ≡ Less) (λ a. a ≡ Greater) (map (λ x. R (key x) q) xs) i → AllWithin (λ x. R (key x) q ≡ Less) xs 0 i
  missing-below xs i le missing = λ k d low high.
      sym (get_or-map (λ x. R (key x) q) xs k d Less (omega arith)) ∙ missing.0 k Less low high

  -- all keys from the insertion index on are higher
  pub missing-above : (xs : List X) (i : ℕ) → IsPartitionPoint (λ a. a ≡ Less) (λ a. a ≡ Greater) (map (λ x. R (key x) q) xs) i → AllWithin (λ x. R (key x) q ≡ Greater) xs i (length xs)
  missing-above xs i missing = λ k d low high.
      sym (get_or-map (λ x. R (key x) q) xs k d Less high) ∙ missing.1 k Less low (omega (arith, length-map xs (λ x. R (key x) q)))
