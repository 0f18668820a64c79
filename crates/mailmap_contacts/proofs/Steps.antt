-- Steps of loops over lists, and lists with the same elements.
use Rattle.std.proofs.lemmas.Grind.{common_steps}
use Rattle.std.proofs.Common.{◌≡◌, ◌∙◌, ◌+◌, ◌<◌, ◌≤◌, ◌⊎◌, ℕ, suc, Bool, true, false, true≢false, cond, List, [], ◌∷◌, ◌++◌, Ordering, Less, add-one, ap, append-nil, arith, filter, flat_map, get_or, inl, inr, length, map, refl, sym, take, ⊎_elim, rules}
use Rattle.std.specs.Cmp.{IsTotalOrder}
use Rattle.std.specs.List.{AllByRecursion, IsDistinct}
use Rattle.std.specs.Prelude.{⊤}
use Rattle.std.specs.List.Sorted.{IsPermutation, IsSortedBy, IsSortedByKey, IsStrictlySortedBy}
use Rattle.std.specs.Ordering.{is_lt}
use Rattle.std.proofs.lemmas.Cmp.{tied_itself}
use Rattle.std.proofs.lemmas.Grind.{flat_map-append}
use Rattle.std.proofs.lemmas.List.{get_or-map, length-map, map-append}
use Rattle.std.proofs.lemmas.List.Elements.{All-from_recursion, recursion_from_All}
use Rattle.std.proofs.lemmas.List.Sorted.{All-permutation, IsPermutation-sym, ranks_by, sorted_far}
use Rattle.std.proofs.Math.Seq.{take-suc}
use Rattle.mailmap_entries.proofs.Parts.{all_apply, all_mapped, all_weaker}

-- one more element
pub mapped_more : {X Y : Type 0} (f : X → Y) (xs : List X) (i : ℕ) (d : X) → i < length xs
    → map f (take (i + 1) xs) ≡ map f (take i xs) ++ f (get_or xs i d) ∷ []
mapped_more f xs i d lt = grind (arith, common_steps, add-one, map-append, take-suc)

pub made_more : {X Y : Type 0} (f : X → List Y) (xs all : List X) (x : X) → all ≡ xs ++ x ∷ [] → flat_map f all ≡ flat_map f xs ++ f x
made_more f xs all x is = search (rules, append-nil, flat_map-append)

-- ---- what passes a test

pub all_filtered : {X : Type 0} (p : X → Bool) (P Q : X → Type 0) → ((x : X) → P x → p x ≡ true → Q x) → (xs : List X) → AllByRecursion P xs → AllByRecursion Q (filter p xs)
all_filtered p P Q f [] a = tt
all_filtered p P Q f (x ∷ xs) a = search (rules, all_filtered p P Q f xs a.1)

pub all_unfiltered : {X : Type 0} (p : X → Bool) (P : X → Type 0) (xs : List X) → AllByRecursion P (filter p xs) → AllByRecursion (λ x. p x ≡ true → P x) xs
all_unfiltered p P [] a = tt
all_unfiltered p P (x ∷ xs) a = search (rules, all_unfiltered p P xs)

pub distinct_filter : {X : Type 0} (e : X → X → Bool) (p : X → Bool) (xs : List X) → IsDistinct e xs → IsDistinct e (filter p xs)
unfolding IsDistinct
distinct_filter e p [] once = tt
distinct_filter e p (x ∷ xs) once = elim (p x) as (λ b. IsDistinct e (cond b (x ∷ filter p xs) (filter p xs))) [
  | true ↦ (all_filtered p (λ y. e x y ≡ false) (λ y. e x y ≡ false) (λ y other _. other) xs once.0, distinct_filter e p xs once.1)
  | false ↦ distinct_filter e p xs once.1
]

-- ---- lists with the same elements

-- each element of ys is one of xs
abbrev pub HasOnly : {X : Type 0} → List X → List X → Type 1
HasOnly {X} xs ys = (P : X → Type 0) → AllByRecursion P xs → AllByRecursion P ys

pub permuted : {X : Type 0} (xs ys : List X) → IsPermutation xs ys → HasOnly xs ys
permuted xs ys moved P all = recursion_from_All P ys (All-permutation P xs ys moved (All-from_recursion P xs all))

pub permuted_back : {X : Type 0} (xs ys : List X) → IsPermutation xs ys → HasOnly ys xs
permuted_back xs ys moved = permuted ys xs (IsPermutation-sym xs ys moved)

-- ---- sorted lists

pub sorted_mapped : {X Y K : Type 0} (f : X → Y) (key : Y → K) (cmp : K → K → Ordering) (xs : List X) (e : X)
    → IsSortedByKey (λ x. key (f x)) cmp xs → IsSortedByKey key cmp (map f xs)
sorted_mapped f key cmp xs e up = λ k d le lt.
    let within : k + 1 < length xs = omega (arith, lt, length-map xs f) in
    let here = get_or-map f xs k e d (omega (arith, within)) in
    let next = get_or-map f xs (k + 1) e d within in
    (λ i. is_lt (cmp (key (next i)) (key (here i)))) ∙ up k e le within

-- none is before one that comes earlier
abbrev pub NoneBefore : {X : Type 0} → (X → X → Ordering) → List X → Type 0
NoneBefore cmp [] = ⊤
NoneBefore cmp (x ∷ xs) = AllByRecursion (λ y. is_lt (cmp y x) ≡ false) xs × NoneBefore cmp xs

-- as a sort ensures
pub none_before : {X Y : Type 0} (cmp : Y → Y → Ordering) → IsTotalOrder cmp → (f : X → Y) (xs : List X) → IsSortedBy (λ x y. is_lt (cmp (f x) (f y))) xs → NoneBefore cmp (map f xs)
none_before {X = X} cmp total f xs up = by xs (sorted_far (λ x y. is_lt (cmp (f x) (f y))) (ranks_by total f) xs up)
  where
    by : (xs : List X) → ((i j : ℕ) (d : X) → i ≤ j → j < length xs → is_lt (cmp (f (get_or xs j d)) (f (get_or xs i d))) ≡ false) → NoneBefore cmp (map f xs)
    by [] far = tt
    by (x ∷ xs) far = (
      all_mapped f (λ y. is_lt (cmp y (f x)) ≡ false) xs
          (recursion_from_All (λ y. is_lt (cmp (f y) (f x)) ≡ false) xs (λ k d lt. far 0 (suc k) d (omega arith) (omega (arith, lt)))),
      by xs (λ i j d le lt. far (suc i) (suc j) d (omega (arith, le)) (omega (arith, lt))),
    )

-- lists without their first elements, which are equal and don't come again in the second list
only_rest : {X : Type 0} (x y : X) (xs ys : List X) → HasOnly (x ∷ xs) (y ∷ ys) → AllByRecursion (λ z. z ≡ x → ⊥) ys → HasOnly xs ys
only_rest x y xs ys only others P all = all_apply (λ z. (z ≡ x) ⊎ P z) (λ z. z ≡ x → ⊥) P (λ z one other. ⊎_elim (λ same. absurd (other same)) (λ p. p) one)
    ys (only (λ z. (z ≡ x) ⊎ P z) (inl refl, all_weaker xs (λ z p. inr p) all)).1 others

module _ {X : Type 0} (cmp : X → X → Ordering) (total : IsTotalOrder cmp) (e : X → X → Bool) (itself : (x : X) → e x x ≡ true) where
  -- Two lists with the same elements are one if both are in order. If one is so strictly, the other needs distinct
  -- elements only.
  pub one_order : (xs ys : List X) → NoneBefore cmp xs → IsDistinct e xs → IsStrictlySortedBy cmp ys → HasOnly xs ys → HasOnly ys xs → xs ≡ ys
  unfolding IsDistinct IsStrictlySortedBy
  one_order [] [] up once strict to from = refl
  one_order [] (y ∷ ys) up once strict to from = absurd ((to (λ _. ⊥) tt).0)
  one_order (x ∷ xs) [] up once strict to from = absurd ((from (λ _. ⊥) tt).0)
  one_order (x ∷ xs) (y ∷ ys) up once strict to from =
      let not_below = (to (λ z. is_lt (cmp z x) ≡ false) (ap is_lt (tied_itself total x), up.0)).0 in
      let first : x ≡ y = ⊎_elim (λ same. same) (λ less. absurd (true≢false (sym (ap is_lt less) ∙ not_below)))
      (from (λ z. (z ≡ y) ⊎ (cmp y z ≡ Less)) (inl refl, all_weaker ys (λ z less. inr less) strict.0)).0 in
      λ i. first i ∷ one_order xs ys up.1 once.1 strict.1
      (only_rest x y xs ys to (all_weaker ys (λ z less same. true≢false (sym (ap is_lt (sym (ap (cmp y) (same ∙ first)) ∙ less)) ∙ ap is_lt (tied_itself total y))) strict.0))
      (only_rest y x ys xs from (all_weaker xs (λ z other same. true≢false (sym (itself x) ∙ ap (e x) (first ∙ sym same) ∙ other)) once.0)) i
