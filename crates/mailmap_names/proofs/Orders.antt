-- A list in ascending order is what `ascending` makes of each list with the same elements.
use Rattle.std.proofs.Common.{◌≡◌, ◌<◌, ℕ, zero, suc, Bool, true, false, List, [], ◌∷◌, length, map, get_or, set, Ordering, Less, Equal, Greater, refl, sym, ap, ◌∙◌, inl, inr, true≢false, add-one, arith}
use Rattle.std.specs.Cmp.{tied_itself}
use Rattle.std.specs.Cmp.Lexicographic.{nat_list_cmp_total}
use Rattle.std.specs.List.{swap}
use Rattle.std.specs.List.Sorted.{IsPermutation, IsSortedBy}
use Rattle.std.specs.Ordering.{is_le, is_lt, ordering_reverse}
use Rattle.std.proofs.lemmas.Bool.{cases_Bool, cases_eq, cond-true, cond-false}
use Rattle.std.proofs.lemmas.List.{get_or-set_other, get_or-set_same, length-set}
use Rattle.std.proofs.lemmas.List.Edits.{swap_is}
use Rattle.std.proofs.lemmas.List.Sorted.{IsPermutation-keeps, IsPermutation-map}
use Rattle.std.proofs.lemmas.Map.Lookups.{exact_bytes}
use Rattle.mailmap_entries.specs.Folding.{Text, text_cmp}
use Rattle.mailmap_names.specs.Keys.{ascending, inserted}

abbrev pub le : Text → Text → Bool
le x y = is_le (text_cmp x y)

turned : (o p : Ordering) → o ≡ ordering_reverse p → is_le o ≡ false → is_le p ≡ true
turned Less p e h = cc
turned Equal p e h = cc
turned Greater Less e h = refl
turned Greater Equal e h = refl
turned Greater Greater e h = cc

le_other : (x y : Text) → le x y ≡ false → le y x ≡ true
le_other x y h = turned (text_cmp x y) (text_cmp y x) (nat_list_cmp_total.antisymm x y) h

le_itself : (x : Text) → le x x ≡ true
le_itself x = ap is_le (tied_itself nat_list_cmp_total x)

both_le : (o p : Ordering) → o ≡ ordering_reverse p → is_le o ≡ true → is_le p ≡ true → o ≡ Equal
both_le Less Less e h k = cc
both_le Less Equal e h k = cc
both_le Less Greater e h k = cc
both_le Equal p e h k = refl
both_le Greater p e h k = cc

le_both : (x y : Text) → le x y ≡ true → le y x ≡ true → x ≡ y
le_both x y h k = exact_bytes x y (both_le (text_cmp x y) (text_cmp y x) (nat_list_cmp_total.antisymm x y) h k)

le_chain : (x y z : Text) → le x y ≡ true → le y z ≡ true → le x z ≡ true
le_chain x y z h k = chain (text_cmp x y) (text_cmp y z) refl refl h k where
  chain : (o p : Ordering) → text_cmp x y ≡ o → text_cmp y z ≡ p → is_le o ≡ true → is_le p ≡ true → le x z ≡ true
  chain Less Less e f h k = ap is_le (nat_list_cmp_total.trans x y z e f)
  chain Less Equal e f h k = ap (λ t. le x t) (sym (exact_bytes y z f)) ∙ ap is_le e
  chain Less Greater e f h k = cc
  chain Equal p e f h k = ap (λ t. le t z) (exact_bytes x y e) ∙ ap is_le f ∙ k
  chain Greater p e f h k = cc

here : (x y : Text) (l : List Text) → le x y ≡ true → inserted x (y ∷ l) ≡ x ∷ y ∷ l
here x y l h = cond-true (le x y) (x ∷ y ∷ l) (y ∷ inserted x l) h

later : (x y : Text) (l : List Text) → le x y ≡ false → inserted x (y ∷ l) ≡ y ∷ inserted x l
later x y l h = cond-false (le x y) (x ∷ y ∷ l) (y ∷ inserted x l) h

-- two texts before a list come in one order
pair : (x y : Text) (l : List Text) → (le x y ≡ true → x ∷ y ∷ l ≡ inserted y (x ∷ l)) → (le x y ≡ false → y ∷ inserted x l ≡ inserted y (x ∷ l)) → inserted x (y ∷ l) ≡ inserted y (x ∷ l)
pair x y l front back = elim (cases_Bool (le x y)) as (λ _. inserted x (y ∷ l) ≡ inserted y (x ∷ l)) [ inl h ↦ here x y l h ∙ front h | inr h ↦ later x y l h ∙ back h ]

-- x is at most y, and both stand before l
ordered : (x y : Text) (l : List Text) → le x y ≡ true → inserted y l ≡ y ∷ l → x ∷ y ∷ l ≡ inserted y (x ∷ l)
ordered x y l h first =
    elim (cases_Bool (le y x)) as (λ _. x ∷ y ∷ l ≡ inserted y (x ∷ l)) [
      | inl k ↦ let e : x ≡ y = le_both x y h k in ap (λ t. x ∷ t ∷ l) (sym e) ∙ ap (λ t. t ∷ x ∷ l) e ∙ sym (here y x l k)
      | inr k ↦ ap (λ t. x ∷ t) (sym first) ∙ sym (later y x l k)
    ]

pub inserted-inserted : (x y : Text) (l : List Text) → inserted x (inserted y l) ≡ inserted y (inserted x l)
inserted-inserted x y [] = pair x y [] (λ h. ordered x y [] h refl) (λ h. sym (here y x [] (le_other x y h)))
inserted-inserted x y (z ∷ l) =
    let G : Type 0 = inserted x (inserted y (z ∷ l)) ≡ inserted y (inserted x (z ∷ l)) in
    elim (cases_Bool (le y z)) as (λ _. G) [
      | inl b ↦ elim (cases_Bool (le x z)) as (λ _. G) [
        | inl a ↦ ap (inserted x) (here y z l b)
            ∙ pair x y (z ∷ l) (λ h. ordered x y (z ∷ l) h (here y z l b)) (λ h. ap (λ t. y ∷ t) (here x z l a) ∙ sym (here y x (z ∷ l) (le_other x y h)))
            ∙ ap (inserted y) (sym (here x z l a))
        | inr a ↦ beyond x y z l a b
      ]
      | inr b ↦ elim (cases_Bool (le x z)) as (λ _. G) [
        | inl a ↦ sym (beyond y x z l b a)
        | inr a ↦ ap (inserted x) (later y z l b) ∙ later x z (inserted y l) a ∙ ap (λ t. z ∷ t) (inserted-inserted x y l) ∙ sym (later y z (inserted x l) b) ∙ ap (inserted y) (sym (later x z l a))
      ]
    ]
  where
    beyond : (x y z : Text) (l : List Text) → le x z ≡ false → le y z ≡ true → inserted x (inserted y (z ∷ l)) ≡ inserted y (inserted x (z ∷ l))
    beyond x y z l a b =
        let apart : le x y ≡ false = elim (cases_Bool (le x y)) as (λ _. le x y ≡ false) [ inl h ↦ absurd (true≢false (sym (le_chain x y z h b) ∙ a)) | inr h ↦ h ] in
        ap (inserted x) (here y z l b) ∙ later x y (z ∷ l) apart ∙ ap (λ t. y ∷ t) (later x z l a) ∙ sym (here y z (inserted x l) b) ∙ ap (inserted y) (sym (later x z l a))

abbrev rest_of : List Text → List Text
rest_of [] = []
rest_of (x ∷ xs) = xs

abbrev first_of : Text → List Text → Text
first_of d [] = d
first_of d (x ∷ xs) = x

longer : (x z : Text) (m : List Text) → x ∷ [] ≡ inserted x (z ∷ m) → ⊥
longer x z m e = elim (cases_Bool (le x z)) as (λ _. ⊥) [ inl h ↦ cc (e ∙ here x z m h) | inr h ↦ true≢false (sym (le_itself x) ∙ ap (le x) (ap (first_of x) (e ∙ later x z m h)) ∙ h) ]

-- what an insertion makes of two lists differs if they do
pub inserted_same : (x : Text) (l m : List Text) → inserted x l ≡ inserted x m → l ≡ m
inserted_same x [] [] e = refl
inserted_same x [] (z ∷ m) e = absurd (longer x z m e)
inserted_same x (y ∷ l) [] e = absurd (longer x y l (sym e))
inserted_same x (y ∷ l) (z ∷ m) e =
    let G : Type 0 = y ∷ l ≡ z ∷ m in
    elim (cases_Bool (le x y)) as (λ _. G) [
      | inl a ↦ elim (cases_Bool (le x z)) as (λ _. G) [
        | inl b ↦ ap rest_of (sym (here x y l a) ∙ e ∙ here x z m b)
        | inr b ↦ absurd (true≢false (sym (le_itself x) ∙ ap (le x) (ap (first_of x) (sym (here x y l a) ∙ e ∙ later x z m b)) ∙ b))
      ]
      | inr a ↦ elim (cases_Bool (le x z)) as (λ _. G) [
        | inl b ↦ absurd (true≢false (sym (le_itself x) ∙ ap (le x) (ap (first_of x) (sym (here x z m b) ∙ sym e ∙ later x y l a)) ∙ a))
        | inr b ↦ let f : y ∷ inserted x l ≡ z ∷ inserted x m = sym (later x y l a) ∙ e ∙ later x z m b in
            ap (λ t. t ∷ l) (ap (first_of x) f) ∙ ap (λ t. z ∷ t) (inserted_same x l m (ap rest_of f))
      ]
    ]

-- a text in place of another one
ascending-set : (l : List Text) (i : ℕ) (v d : Text) → i < length l → inserted (get_or l i d) (ascending (set l i v)) ≡ inserted v (ascending l)
ascending-set [] i v d h = absurd (omega arith)
ascending-set (y ∷ l) zero v d h = inserted-inserted y v (ascending l)
ascending-set (y ∷ l) (suc i) v d h =
    let old = get_or l i d in
    let within : i < length l = omega arith in
    inserted-inserted old y (ascending (set l i v)) ∙ ap (inserted y) (ascending-set l i v d within) ∙ inserted-inserted y v (ascending l)

ascending-swap : (l : List Text) (i j : ℕ) → i < length l → j < length l → ascending (swap l i j) ≡ ascending l
ascending-swap l i j low high =
    let d : Text = [] in
    let a = get_or l i d in
    let b = get_or l j d in
    let m = set l i b in
    let there : get_or m j d ≡ b = elim (cases_eq j i) as (λ _. get_or m j d ≡ b) [
      | inl e ↦ ap (λ k. get_or m k d) e ∙ get_or-set_same l i b d low
      | inr apart ↦ get_or-set_other l i j b d apart
    ] in
    let second : inserted b (ascending (set m j a)) ≡ inserted a (ascending m) =
    ap (λ t. inserted t (ascending (set m j a))) (sym there) ∙ ascending-set m j a d (rw length-set high) in
    inserted_same b (ascending (swap l i j)) (ascending l)
    (ap (λ t. inserted b (ascending t)) (sym (swap_is l i j d low high)) ∙ second ∙ ascending-set l i b d low)

pub ascending-IsPermutation : (xs ys : List Text) → IsPermutation xs ys → ascending ys ≡ ascending xs
ascending-IsPermutation xs ys p = IsPermutation-keeps xs (λ l. ascending l ≡ ascending xs) refl (λ l i j low high h. ascending-swap l i j low high ∙ h) ys p

module _ {X : Type 0} (text : X → Text) where
  abbrev lt : X → X → Bool
  lt a b = is_lt (text_cmp (text a) (text b))

  not_below : (o p : Ordering) → o ≡ ordering_reverse p → is_lt o ≡ false → is_le p ≡ true
  not_below Less p e h = cc
  not_below Equal Less e h = cc
  not_below Equal Equal e h = refl
  not_below Equal Greater e h = cc
  not_below Greater Less e h = refl
  not_below Greater Equal e h = refl
  not_below Greater Greater e h = cc

  tail_sorted : (x : X) (xs : List X) → IsSortedBy lt (x ∷ xs) → IsSortedBy lt xs
  tail_sorted x xs s = λ k d low high. let h = s (suc k) d (omega arith) (omega arith) in rw add-one (rw add-one at h)

  pub ascending_sorted : (xs : List X) → IsSortedBy lt xs → ascending (map text xs) ≡ map text xs
  ascending_sorted [] s = refl
  ascending_sorted (x ∷ []) s = refl
  ascending_sorted (x ∷ y ∷ xs) s =
      let up : le (text x) (text y) ≡ true = not_below (text_cmp (text y) (text x)) (text_cmp (text x) (text y)) (nat_list_cmp_total.antisymm (text y) (text x)) (s 0 x (omega arith) (omega arith)) in
      ap (inserted (text x)) (ascending_sorted (y ∷ xs) (tail_sorted x (y ∷ xs) s)) ∙ here (text x) (text y) (map text xs) up

  pub sorted_is : (xs ys : List X) → IsPermutation xs ys → IsSortedBy lt ys → map text ys ≡ ascending (map text xs)
  sorted_is xs ys p s = sym (ascending_sorted ys s) ∙ ascending-IsPermutation (map text xs) (map text ys) (IsPermutation-map text xs ys p)
