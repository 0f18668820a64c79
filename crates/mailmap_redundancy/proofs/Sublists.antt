-- Lists that have some elements of another list, in its order.
use Rattle.std.proofs.Common.{◌≡◌, Less, List, [], ◌∷◌, ◌++◌, map, Ordering}
use Rattle.std.specs.List.{AllByRecursion, Contains}
use Rattle.std.specs.List.Sorted.{IsStrictlySortedBy}
use Rattle.std.proofs.lemmas.List.Elements.{All-contains, All-contains_itself, All-from_recursion, recursion_from_All}
use Rattle.std.proofs.lemmas.Map.Keys.{sorted_head, sorted_tail}
use Rattle.mailmap_redundancy.specs.Redundancy.{IsSublist, none, skips, keeps}

module _ {X : Type 0} where
  pub sublist_itself : (xs : List X) → IsSublist xs xs
  sublist_itself [] = none
  sublist_itself (x ∷ xs) = keeps x xs xs (sublist_itself xs)

  pub sublist_skip : (ks xs : List X) (x : X) → IsSublist ks xs → IsSublist ks (xs ++ x ∷ [])
  sublist_skip _ _ x none = skips x [] [] none
  sublist_skip _ _ x (skips y ks xs s) = skips y ks (xs ++ x ∷ []) (sublist_skip ks xs x s)
  sublist_skip _ _ x (keeps y ks xs s) = keeps y ks (xs ++ x ∷ []) (sublist_skip ks xs x s)

  pub sublist_keep : (ks xs : List X) (x : X) → IsSublist ks xs → IsSublist (ks ++ x ∷ []) (xs ++ x ∷ [])
  sublist_keep _ _ x none = keeps x [] [] none
  sublist_keep _ _ x (skips y ks xs s) = skips y (ks ++ x ∷ []) (xs ++ x ∷ []) (sublist_keep ks xs x s)
  sublist_keep _ _ x (keeps y ks xs s) = keeps y (ks ++ x ∷ []) (xs ++ x ∷ []) (sublist_keep ks xs x s)

  pub sublist_trans : (js ks xs : List X) → IsSublist js ks → IsSublist ks xs → IsSublist js xs
  sublist_trans js _ _ s none = s
  sublist_trans js _ _ s (skips x ks xs t) = skips x js xs (sublist_trans js ks xs s t)
  sublist_trans _ _ _ (skips _ js _ s) (keeps x ks xs t) = skips x js xs (sublist_trans js ks xs s t)
  sublist_trans _ _ _ (keeps _ js _ s) (keeps x ks xs t) = keeps x js xs (sublist_trans js ks xs s t)

  pub sublist_map : {Y : Type 0} (f : X → Y) (ks xs : List X) → IsSublist ks xs → IsSublist (map f ks) (map f xs)
  sublist_map f _ _ none = none
  sublist_map f _ _ (skips x ks xs s) = skips (f x) (map f ks) (map f xs) (sublist_map f ks xs s)
  sublist_map f _ _ (keeps x ks xs s) = keeps (f x) (map f ks) (map f xs) (sublist_map f ks xs s)

  pub sublist_all : (P : X → Type 0) (ks xs : List X) → IsSublist ks xs → AllByRecursion P xs → AllByRecursion P ks
  sublist_all P _ _ none a = tt
  sublist_all P _ _ (skips x ks xs s) a = sublist_all P ks xs s a.1
  sublist_all P _ _ (keeps x ks xs s) a = (a.0, sublist_all P ks xs s a.1)

  pub sublist_contains : (ks xs : List X) (x : X) → IsSublist ks xs → Contains ks x → Contains xs x
  sublist_contains ks xs x s =
      All-contains (Contains xs) ks x (All-from_recursion (Contains xs) ks (sublist_all (Contains xs) ks xs s (recursion_from_All (Contains xs) xs (All-contains_itself xs))))

  module _ {K : Type 0} (cmp : K → K → Ordering) (f : X → K) where
    below : (k : K) (ks xs : List X) → IsSublist ks xs → AllByRecursion (λ y. cmp k y ≡ Less) (map f xs)
        → AllByRecursion (λ y. cmp k y ≡ Less) (map f ks)
    below k _ _ none a = tt
    below k _ _ (skips x ks xs s) a = below k ks xs s a.1
    below k _ _ (keeps x ks xs s) a = (a.0, below k ks xs s a.1)

    pub sublist_sorted : (ks xs : List X) → IsSublist ks xs → IsStrictlySortedBy cmp (map f xs)
        → IsStrictlySortedBy cmp (map f ks)
    unfolding IsStrictlySortedBy
    sublist_sorted _ _ none a = tt
    sublist_sorted _ _ (skips x ks xs s) a = sublist_sorted ks xs s (sorted_tail cmp (f x) (map f xs) a)
    sublist_sorted _ _ (keeps x ks xs s) a = (below (f x) ks xs s (sorted_head cmp (f x) (map f xs) a), sublist_sorted ks xs s (sorted_tail cmp (f x) (map f xs) a))
