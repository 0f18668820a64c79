-- Whether an element passes a test, of lists that are filtered, joined, or gone over twice.
use Rattle.std.proofs.Common.{◌≡◌, ◌∙◌, ◌&&◌, ◌||◌, Bool, true, false, true≢false, List, [], ◌∷◌, ap, arith, filter, flat_map, refl, sym, ⊎_elim, inl, inr}
use Rattle.std.specs.List.{AllByRecursion, list_any}
use Rattle.std.proofs.lemmas.Bool.{and_from, and_parts, cases_Bool, or_left, or_right}
use Rattle.mailmap_entries.proofs.Parts.{list_any-append}
use Rattle.mailmap_suggestions.proofs.Distinct.{◌∈◌}

-- two tests that agree
pub both_true : (a b : Bool) → (a ≡ true → b ≡ true) → (b ≡ true → a ≡ true) → a ≡ b
both_true true b to from = sym (to refl)
both_true false true to from = from refl
both_true false false to from = refl

pub any_alike : {X : Type 0} (p q : X → Bool) (xs : List X) → AllByRecursion (λ x. p x ≡ q x) xs → list_any p xs ≡ list_any q xs
any_alike p q [] all = refl
any_alike p q (x ∷ xs) all = λ i. all.0 i || any_alike p q xs all.1 i

pub any_filter : {X : Type 0} (p q : X → Bool) (xs : List X) → list_any p (filter q xs) ≡ list_any (λ x. q x && p x) xs
any_filter p q [] = refl
any_filter p q (x ∷ xs) = grind (arith, any_filter p q xs)

pub any_joined : {X Y : Type 0} (p : Y → Bool) (f : X → List Y) (xs : List X) → list_any p (flat_map f xs) ≡ list_any (λ x. list_any p (f x)) xs
any_joined p f [] = refl
any_joined p f (x ∷ xs) = list_any-append p (f x) (flat_map f xs) ∙ ap (λ b. list_any p (f x) || b) (any_joined p f xs)

-- a part of the test that is the same for all
pub any_and : {X : Type 0} (b : Bool) (p : X → Bool) (xs : List X) → list_any (λ x. b && p x) xs ≡ (b && list_any p xs)
any_and true p xs = refl
any_and false p [] = refl
any_and false p (x ∷ xs) = any_and false p xs

pub and_any : {X : Type 0} (p : X → Bool) (b : Bool) (xs : List X) → list_any (λ x. p x && b) xs ≡ (list_any p xs && b)
and_any p b [] = refl
and_any p b (x ∷ xs) = ap (λ t. (p x && b) || t) (and_any p b xs) ∙ by (p x) (list_any p xs) b
  where
    by : (s t b : Bool) → ((s && b) || (t && b)) ≡ ((s || t) && b)
    by true t true = refl
    by true true false = refl
    by true false false = refl
    by false t b = refl

-- ---- elements that pass

pub any_in : {X : Type 0} (p : X → Bool) (xs : List X) (x : X) → x ∈ xs → p x ≡ true → list_any p xs ≡ true
any_in p [] x i passes = absurd i
any_in p (y ∷ ys) x i passes = ⊎_elim (λ same. or_left (p y) (list_any p ys) (ap p same ∙ passes)) (λ later. or_right (p y) (list_any p ys) (any_in p ys x later passes)) i

pub any_of : {X : Type 0} (p : X → Bool) (xs : List X) → list_any p xs ≡ true → (x : X) × (x ∈ xs) × (p x ≡ true)
any_of p [] is = absurd (true≢false (sym is))
any_of p (x ∷ xs) is = ⊎_elim (λ yes. (x, inl refl, yes))
    (λ no. let found = any_of p xs (ap (λ b. b || list_any p xs) (sym no) ∙ is) in (found.0, inr found.1, found.2)) (cases_Bool (p x))

-- of pairs, where each element is a pair with itself
pub any_pair : {X : Type 0} (R : X → X → Bool) (p : X → Bool) → ((x : X) → R x x ≡ true) → (xs : List X) → list_any (λ x. list_any (λ y. R y x && p y) xs) xs ≡ list_any p xs
any_pair R p itself xs = both_true (list_any (λ x. list_any (λ y. R y x && p y) xs) xs) (list_any p xs)
    (λ is. let x = any_of (λ x. list_any (λ y. R y x && p y) xs) xs is in
    let y = any_of (λ y. R y x.0 && p y) xs x.2 in
    any_in p xs y.0 y.1 (and_parts (R y.0 x.0) (p y.0) y.2).1)
    (λ is. let x = any_of p xs is in
    any_in (λ x. list_any (λ y. R y x && p y) xs) xs x.0 x.1
    (any_in (λ y. R y x.0 && p y) xs x.0 x.1 (and_from (R x.0 x.0) (p x.0) (itself x.0) x.2)))
