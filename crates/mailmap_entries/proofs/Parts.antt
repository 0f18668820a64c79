-- First, last and filter of joined lists.
use Rattle.std.proofs.Common.{⊎_elim, arith, ◌≡◌, Bool, true, false, cond, ◌&&◌, ◌||◌, List, [], ◌∷◌, ◌++◌, map, filter, filter_map, Option, Some, None, is_some, unwrap_or, option_map, refl, ap}
use Rattle.std.proofs.lemmas.Bool.{cases_Bool}
use Rattle.std.specs.Option.{option_or, option_flatten, option_and_then}
use Rattle.std.specs.List.{AllByRecursion, list_any, cons_option}
pub use Rattle.std.proofs.lemmas.List.Folds.{list_any-append}
use Rattle.mailmap_entries.specs.Semantics.{first, last}

pub or-None : {X : Type 0} (o : Option X) → o ≡ option_or o None
or-None o = grind arith

pub first-append : {X : Type 0} (xs ys : List X) → first (xs ++ ys) ≡ option_or (first xs) (first ys)
first-append [] ys = refl
first-append (x ∷ xs) ys = refl

pub last-append : {X : Type 0} (xs ys : List X) → last (xs ++ ys) ≡ option_or (last ys) (last xs)
last-append [] ys = or-None (last ys)
last-append (x ∷ xs) ys = grind (arith, last-append xs ys)

pub option_map-or : {X Y : Type 0} (f : X → Y) (o p : Option X) → option_map f (option_or o p) ≡ option_or (option_map f o) (option_map f p)
option_map-or f o p = grind arith

pub filter-filter : {X : Type 0} (p q : X → Bool) (xs : List X) → filter p (filter q xs) ≡ filter (λ x. q x && p x) xs
filter-filter p q [] = refl
filter-filter p q (x ∷ xs) = grind (arith, filter-filter p q xs)

pub and_then-flatten : {X Y : Type 0} (f : X → Option Y) (o : Option X) → option_and_then f o ≡ option_flatten (option_map f o)
and_then-flatten f o = grind arith

pub first_found : {X : Type 0} (p : X → Bool) (xs : List X) → list_any p xs ≡ is_some (first (filter p xs))
first_found p [] = refl
first_found p (x ∷ xs) = elim (p x) as (λ b. (b || list_any p xs) ≡ is_some (first (cond b (x ∷ filter p xs) (filter p xs)))) [ true ↦ refl | false ↦ first_found p xs ]

pub list_any-map : {X Y : Type 0} (p : Y → Bool) (f : X → Y) (xs : List X) → list_any p (map f xs) ≡ list_any (λ x. p (f x)) xs
list_any-map p f [] = refl
list_any-map p f (x ∷ xs) = ap (λ b. p (f x) || b) (list_any-map p f xs)

-- ---- fields

pub last_of_one : {X Y : Type 0} (f : X → Option Y) (x : X) → last (filter_map f (x ∷ [])) ≡ f x
last_of_one f x = elim (f x) as (λ o. last (cons_option o []) ≡ o) [ None ↦ refl | Some y ↦ refl ]

pub some_given : {X Y : Type 0} (f : X → Option Y) (xs : List X) → is_some (last (filter_map f xs)) ≡ list_any (λ x. is_some (f x)) xs
some_given f [] = refl
some_given f (x ∷ xs) = elim (f x) as (λ o. is_some (last (cons_option o (filter_map f xs))) ≡ (is_some o || list_any (λ x. is_some (f x)) xs)) [ None ↦ some_given f xs | Some y ↦ refl ]

pub any_either : {X : Type 0} (p q : X → Bool) (xs : List X) → (list_any p xs || list_any q xs) ≡ list_any (λ x. p x || q x) xs
any_either p q [] = refl
any_either p q (x ∷ xs) = grind (arith, any_either p q xs)

-- ---- predicates that hold for all elements

pub all_last : {X : Type 0} (P : X → Type 0) (x : X) (xs : List X) → P x → AllByRecursion P xs → P (unwrap_or (last xs) x)
all_last P x [] p a = p
all_last P x (y ∷ xs) p a = all_last P y xs a.0 a.1

pub filter_all : {X : Type 0} (p : X → Bool) (xs : List X) → AllByRecursion (λ x. p x ≡ true) xs → filter p xs ≡ xs
filter_all p [] a = refl
filter_all p (x ∷ xs) a = λ i. cond (a.0 i) (x ∷ filter_all p xs a.1 i) (filter p xs)

-- if all that pass have the same field, so does the first
pub first_alike : {X Y : Type 0} (f : X → Y) (p : X → Bool) (y : Y) (xs : List X) → AllByRecursion (λ x. p x ≡ true → f x ≡ y) xs → option_map f (first (filter p xs)) ≡ cond (list_any p xs) (Some y) None
first_alike f p y [] a = refl
first_alike f p y (x ∷ xs) a = grind (arith, a.0, first_alike f p y xs a.1)

pub some_again : {X : Type 0} (o : Option X) (d : X) → cond (is_some o) (Some (unwrap_or o d)) None ≡ o
some_again o d = grind arith

pub is_some-option_map : {X Y : Type 0} (f : X → Y) (o : Option X) → is_some o ≡ is_some (option_map f o)
is_some-option_map f o = grind arith

pub first_passes : {X : Type 0} (p : X → Bool) (xs : List X) → list_any p xs ≡ true → (x : X) × (first (filter p xs) ≡ Some x) × (p x ≡ true)
first_passes p [] e = cc
first_passes p (x ∷ xs) e = ⊎_elim (λ yes. (x, rw yes refl, yes))
    (λ no. let w = first_passes p xs (rw no at e) in (w.0, rw no w.1, w.2)) (cases_Bool (p x))

pub map_back : {X Y : Type 0} (f : X → Y) (g : Y → X) (xs : List X) → AllByRecursion (λ x. g (f x) ≡ x) xs → map g (map f xs) ≡ xs
map_back f g [] a = refl
map_back f g (x ∷ xs) a = λ i. a.0 i ∷ map_back f g xs a.1 i

pub all_head : {X : Type 0} (P : X → Type 0) (xs ys : List X) → AllByRecursion P (xs ++ ys) → AllByRecursion P xs
all_head P [] ys a = tt
all_head P (x ∷ xs) ys a = (a.0, all_head P xs ys a.1)

pub all_tail : {X : Type 0} (P : X → Type 0) (xs ys : List X) → AllByRecursion P (xs ++ ys) → AllByRecursion P ys
all_tail P [] ys a = a
all_tail P (x ∷ xs) ys a = all_tail P xs ys a.1

pub all_append : {X : Type 0} (P : X → Type 0) (xs ys : List X) → AllByRecursion P xs → AllByRecursion P ys → AllByRecursion P (xs ++ ys)
all_append P [] ys a b = b
all_append P (x ∷ xs) ys a b = (a.0, all_append P xs ys a.1 b)

pub all_apply : {X : Type 0} (P Q R : X → Type 0) → ((x : X) → P x → Q x → R x) → (xs : List X) → AllByRecursion P xs → AllByRecursion Q xs → AllByRecursion R xs
all_apply P Q R f [] a b = tt
all_apply P Q R f (x ∷ xs) a b = (f x a.0 b.0, all_apply P Q R f xs a.1 b.1)

pub all_map : {X Y : Type 0} (f : X → Y) (P : Y → Type 0) (xs : List X) → AllByRecursion P (map f xs) → AllByRecursion (λ x. P (f x)) xs
all_map f P [] a = tt
all_map f P (x ∷ xs) a = (a.0, all_map f P xs a.1)

pub all_weaker : {X : Type 0} {P Q : X → Type 0} (xs : List X) → ((x : X) → P x → Q x) → AllByRecursion P xs → AllByRecursion Q xs
all_weaker [] f a = tt
all_weaker (x ∷ xs) f a = (f x a.0, all_weaker xs f a.1)

pub all_mapped : {X Y : Type 0} (f : X → Y) (P : Y → Type 0) (xs : List X) → AllByRecursion (λ x. P (f x)) xs → AllByRecursion P (map f xs)
all_mapped f P [] a = tt
all_mapped f P (x ∷ xs) a = (a.0, all_mapped f P xs a.1)

pub filter-map : {X Y : Type 0} (p : Y → Bool) (f : X → Y) (xs : List X) → filter p (map f xs) ≡ map f (filter (λ x. p (f x)) xs)
filter-map p f [] = refl
filter-map p f (x ∷ xs) = grind (arith, filter-map p f xs)

-- functions and predicates that agree on each element
pub map_alike : {X Y : Type 0} (f g : X → Y) (xs : List X) → AllByRecursion (λ x. f x ≡ g x) xs → map f xs ≡ map g xs
map_alike f g [] a = refl
map_alike f g (x ∷ xs) a = λ i. a.0 i ∷ map_alike f g xs a.1 i

pub filter_alike : {X : Type 0} (p q : X → Bool) (xs : List X) → AllByRecursion (λ x. p x ≡ q x) xs → filter p xs ≡ filter q xs
filter_alike p q [] a = refl
filter_alike p q (x ∷ xs) a = λ i. cond (a.0 i) (x ∷ filter_alike p q xs a.1 i) (filter_alike p q xs a.1 i)
