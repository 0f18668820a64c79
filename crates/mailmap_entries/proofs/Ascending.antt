-- Lists of keys that strictly ascend, and of entries with such keys.
use Rattle.std.proofs.Common.{◌≡◌, Bool, true, false, cond, ◌||◌, List, [], ◌∷◌, ◌++◌, map, filter, Ordering, Less, Equal, Greater, is_eq, refl, sym, ap, ◌∙◌, true≢false, arith, ⊎_elim}
use Rattle.std.specs.Cmp.{IsTotalOrder, tied_itself, both_ways}
use Rattle.std.specs.Ordering.{eq_by_cmp, match_ordering, ordering_reverse}
use Rattle.std.specs.List.{AllByRecursion, list_any}
use Rattle.std.specs.List.Sorted.{IsStrictlySortedBy}
use Rattle.std.proofs.lemmas.Bool.{cases_Bool, or_right}
use Rattle.mailmap_entries.proofs.Parts.{all_map, all_tail, all_weaker}
use Rattle.std.proofs.lemmas.Map.Keys.{sorted_head, sorted_tail}
use Rattle.std.proofs.lemmas.Map.Lookups.{btree_set_from_contains}
use Rattle.std.proofs.lemmas.List.Elements.{All-from_recursion, recursion_from_All}
use Rattle.std.specs.BTreeSet.{insert_key}
use Rattle.std.proofs.lemmas.Map.Views.{All-insert_key, tells_apart}

module _ {K : Type 0} {R : K → K → Ordering} (o : IsTotalOrder R) (exact : (x y : K) → R x y ≡ Equal → x ≡ y) where
  abbrev has : List K → K → Bool
  has ks q = list_any (eq_by_cmp R q) ks

  -- a key that is below all others of a list is not in it
  pub below_lacks : (q : K) (ks : List K) → AllByRecursion (λ y. R q y ≡ Less) ks → has ks q ≡ false
  below_lacks q [] a = refl
  below_lacks q (k ∷ ks) a = ap (λ r. is_eq r || has ks q) a.0 ∙ below_lacks q ks a.1

  pub has_itself : (k : K) (ks : List K) → has (k ∷ ks) k ≡ true
  has_itself k ks = ap (λ r. is_eq r || has ks k) (tied_itself o k)

  pub same_keys : (ks js : List K) → IsStrictlySortedBy R ks → IsStrictlySortedBy R js → ((q : K) → has ks q ≡ has js q) → ks ≡ js
  same_keys ks js s t h = btree_set_from_contains o (record { keys = ks }) (record { keys = js }) s t h exact

  -- ---- lists with the same keys

  found_key : (p : K → Bool) (ks : List K) → list_any p ks ≡ true → (k : K) × (p k ≡ true) × (has ks k ≡ true)
  found_key p [] e = absurd (true≢false (sym e))
  found_key p (k ∷ ks) e = ⊎_elim (λ passes. (k, passes, has_itself k ks))
      (λ fails. let w = found_key p ks (rw fails at e) in (w.0, w.1, or_right _ _ w.2)) (cases_Bool (p k))

  pub finds_key : (p : K → Bool) (k : K) (ks : List K) → p k ≡ true → has ks k ≡ true → list_any p ks ≡ true
  finds_key p k [] passes h = absurd (true≢false (sym h))
  finds_key p k (j ∷ ks) passes h = grind (arith, finds_key p k ks passes, tells_apart exact k j)

  -- a predicate finds a key in both lists, or in neither
  pub same_any : (p : K → Bool) (ks js : List K) → ((k : K) → has ks k ≡ has js k) → list_any p ks ≡ list_any p js
  same_any p ks js h = both_ways _ _ (λ e. let w = found_key p ks e in finds_key p w.0 js w.1 (sym (h w.0) ∙ w.2))
      (λ e. let w = found_key p js e in finds_key p w.0 ks w.1 (h w.0 ∙ w.2))

  -- what holds for each key of a list
  pub of_each : (P : K → Type 0) (ks : List K) → ((k : K) → has ks k ≡ true → P k) → AllByRecursion P ks
  of_each P [] f = tt
  of_each P (k ∷ ks) f = (f k (has_itself k ks), of_each P ks (λ j h. f j (or_right _ _ h)))

  module _ {E : Type 0} (key : E → K) (v : K → E) where
    -- if each entry is determined by its key, the keys determine the list
    pub from_keys : (es : List E) → AllByRecursion (λ e. e ≡ v (key e)) es → es ≡ map v (map key es)
    from_keys [] a = refl
    from_keys (e ∷ es) a = λ i. a.0 i ∷ from_keys es a.1 i

    -- what holds for each key of the list holds for the key of each entry
    pub each_key : (P : K → Type 0) (es : List E) → ((k : K) → has (map key es) k ≡ true → P k) → AllByRecursion (λ e. P (key e)) es
    each_key P es f = all_map key P es (of_each P (map key es) f)

    -- the list has exactly one entry for each of its keys
    pub one_at : (k : K) (es : List E) → IsStrictlySortedBy R (map key es) → AllByRecursion (λ e. e ≡ v (key e)) es
        → filter (λ e. eq_by_cmp R k (key e)) es ≡ cond (has (map key es) k) (v k ∷ []) []
    one_at k [] s a = refl
    one_at k (e ∷ es) s a =
        let rest = one_at k es (sorted_tail R (key e) (map key es) s) a.1 in
        let none = below_lacks (key e) (map key es) (sorted_head R (key e) (map key es) s) in
        grind (arith, a.0, tells_apart exact k (key e))

  -- ---- sort a list, and keep each key once

  abbrev pub ordered : List K → List K
  ordered [] = []
  ordered (k ∷ ks) = insert_key R (ordered ks) k

  below_insert : (j k : K) (js : List K) → R j k ≡ Less → AllByRecursion (λ y. R j y ≡ Less) js → AllByRecursion (λ y. R j y ≡ Less) (insert_key R js k)
  below_insert j k js p a = recursion_from_All _ _ (All-insert_key R k (λ y. R j y ≡ Less) js (All-from_recursion _ js a) p)

  sorted_insert : (k : K) (js : List K) → IsStrictlySortedBy R js → IsStrictlySortedBy R (insert_key R js k)
  unfolding IsStrictlySortedBy
  sorted_insert k [] s = (tt, tt)
  sorted_insert k (j ∷ js) s =
      elim (R k j) as (λ r. R k j ≡ r → IsStrictlySortedBy R (match_ordering r (k ∷ j ∷ js) (j ∷ js) (j ∷ insert_key R js k))) [
        | Less ↦ λ p. ((p, all_weaker js (λ y q. o.trans k j y p q) s.0), s)
        | Equal ↦ λ p. s
        | Greater ↦ λ p. (below_insert j k js (o.antisymm j k ∙ ap ordering_reverse p) s.0, sorted_insert k js s.1)
      ] refl

  has_insert : (k : K) (js : List K) (q : K) → has (insert_key R js k) q ≡ (eq_by_cmp R q k || has js q)
  has_insert k [] q = refl
  has_insert k (j ∷ js) q = grind (arith, has_insert k js q, exact k j)

  pub ordered_sorted : (ks : List K) → IsStrictlySortedBy R (ordered ks)
  unfolding IsStrictlySortedBy
  ordered_sorted [] = tt
  ordered_sorted (k ∷ ks) = sorted_insert k (ordered ks) (ordered_sorted ks)

  pub has_ordered : (ks : List K) (q : K) → has (ordered ks) q ≡ has ks q
  has_ordered [] q = refl
  has_ordered (k ∷ ks) q = has_insert k (ordered ks) q ∙ ap (λ b. eq_by_cmp R q k || b) (has_ordered ks q)

  -- in an ascending list, what is before a key is below it, and what is after it is above it
  pub before : (xs : List K) (k : K) (ys : List K) → IsStrictlySortedBy R (xs ++ k ∷ ys) → AllByRecursion (λ x. R x k ≡ Less) xs
  before [] k ys s = tt
  before (x ∷ xs) k ys s = ((all_tail (λ y. R x y ≡ Less) xs (k ∷ ys) (sorted_head R x (xs ++ k ∷ ys) s)).0, before xs k ys (sorted_tail R x (xs ++ k ∷ ys) s))

  pub after : (xs : List K) (k : K) (ys : List K) → IsStrictlySortedBy R (xs ++ k ∷ ys) → AllByRecursion (λ y. R k y ≡ Less) ys
  after [] k ys s = sorted_head R k ys s
  after (x ∷ xs) k ys s = after xs k ys (sorted_tail R x (xs ++ k ∷ ys) s)
