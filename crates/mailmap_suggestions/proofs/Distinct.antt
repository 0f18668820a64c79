-- Distinct texts, and lists that are joined from a part for each.
use Rattle.std.proofs.Common.{◌≡◌, ◌≢◌, Bool, true, false, true≢false, not, List, [], ◌∷◌, ◌++◌, map, filter, append-nil, bytes_eq, if◌then◌else◌, refl, sym, ap, ◌∙◌, rules, ◌⊎◌, inl, inr, subst, ⊎_elim, ◌||◌}
use Rattle.std.specs.List.{AllByRecursion, flat_map, list_any}
use Rattle.std.proofs.lemmas.Bool.{false_from_ne_true, or_right}
use Rattle.std.proofs.lemmas.Cmp.{nat_list_eq_equiv}
use Rattle.std.proofs.lemmas.List.Elements.{filter-append}
use Rattle.mailmap_entries.specs.Folding.{Text}
use Rattle.mailmap_entries.proofs.Parts.{all_append, all_weaker}
use Rattle.mailmap_suggestions.specs.Forms.{distinct}
use Rattle.mailmap_contacts.proofs.Steps.{all_filtered, all_unfiltered}
use lib.Pointwise.{bytes_decides}

pub same_bytes : (a b : Text) → bytes_eq a b ≡ true → a ≡ b
same_bytes a b = (bytes_decides a b).0

pub equal_bytes : (a b : Text) → a ≡ b → bytes_eq a b ≡ true
equal_bytes a b = (bytes_decides a b).1

pub all_of : {X : Type 0} (P : X → Type 0) → ((x : X) → P x) → (xs : List X) → AllByRecursion P xs
all_of P f [] = tt
all_of P f (x ∷ xs) = (f x, all_of P f xs)

-- ---- distinct texts

pub all_distinct : (P : Text → Type 0) (xs : List Text) → AllByRecursion P xs → AllByRecursion P (distinct xs)
all_distinct P [] all = tt
all_distinct P (x ∷ xs) all = (all.0, all_filtered (λ y. not (bytes_eq x y)) P P (λ y p _. p) (distinct xs) (all_distinct P xs all.1))

-- one more text
pub distinct_push : (xs : List Text) (k : Text) → distinct (xs ++ k ∷ []) ≡ distinct xs ++ (if list_any (bytes_eq k) xs then [] else k ∷ [])
distinct_push [] k = refl
distinct_push (x ∷ xs) k = search (rules, distinct_push xs k, filter-append, nat_list_eq_equiv.symm x k)

-- the texts that aren't empty
pub somes : (xs : List Text) → AllByRecursion (λ t. t ≢ []) (distinct (filter (λ t. not (bytes_eq t [])) xs))
somes xs = all_distinct (λ t. t ≢ []) (filter (λ t. not (bytes_eq t [])) xs)
    (all_filtered (λ t. not (bytes_eq t [])) (λ t. Unit {0}) (λ t. t ≢ []) (λ t _ passes e. true≢false (sym passes ∙ ap not (equal_bytes t [] e))) xs (all_of (λ t. Unit {0}) (λ t. tt) xs))

-- ---- joined parts

pub filter_joined : {X Y : Type 0} (p : Y → Bool) (part : X → List Y) (xs : List X) → filter p (flat_map part xs) ≡ flat_map (λ x. filter p (part x)) xs
filter_joined p part [] = refl
filter_joined p part (x ∷ xs) = filter-append p (part x) (flat_map part xs) ∙ ap (λ l. filter p (part x) ++ l) (filter_joined p part xs)

-- a part that is empty can be left out
left_out : {Y : Type 0} (part : Text → List Y) (x : Text) → part x ≡ [] → (ys : List Text) → flat_map part (filter (λ y. not (bytes_eq x y)) ys) ≡ flat_map part ys
left_out part x none [] = refl
left_out part x none (y ∷ ys) = search (rules, left_out part x none ys, same_bytes)

no_others : {Y : Type 0} (part : Text → List Y) (k : Text) → ((j : Text) → bytes_eq k j ≡ false → part j ≡ []) → (ys : List Text) → flat_map part (filter (λ y. not (bytes_eq k y)) ys) ≡ []
no_others part k none [] = refl
no_others part k none (y ∷ ys) = search (rules, no_others part k none ys)

one_part : {Y : Type 0} (part : Text → List Y) (k : Text) → ((j : Text) → bytes_eq k j ≡ false → part j ≡ []) → (xs : List Text) → list_any (bytes_eq k) xs ≡ true → flat_map part (distinct xs) ≡ part k
one_part part k none [] e = absurd (true≢false (sym e))
one_part part k none (x ∷ xs) e = search (rules, one_part part k none xs, left_out, no_others, same_bytes, append-nil)

-- what a filter keeps of the joined parts for distinct texts, if it keeps nothing of all but one
pub kept_part : {Y : Type 0} (p : Y → Bool) (part : Text → List Y) (k : Text) (xs : List Text) → list_any (bytes_eq k) xs ≡ true → ((j : Text) → bytes_eq k j ≡ false → filter p (part j) ≡ []) → filter p (flat_map part (distinct xs)) ≡ filter p (part k)
kept_part p part k xs among none = filter_joined p part (distinct xs) ∙ one_part (λ j. filter p (part j)) k none xs among

pub no_part : {X Y : Type 0} (part : X → List Y) (xs : List X) → AllByRecursion (λ x. part x ≡ []) xs → flat_map part xs ≡ []
no_part part [] all = refl
no_part part (x ∷ xs) all = (λ i. all.0 i ++ flat_map part xs) ∙ no_part part xs all.1

pub all_joined : {X Y : Type 0} (P : Y → Type 0) (part : X → List Y) (xs : List X) → AllByRecursion (λ x. AllByRecursion P (part x)) xs → AllByRecursion P (flat_map part xs)
all_joined P part [] all = tt
all_joined P part (x ∷ xs) all = all_append P (part x) (flat_map part xs) all.0 (all_joined P part xs all.1)

-- each text is among all of them
pub all_among : {X : Type 0} (text : X → Text) (xs : List X) → AllByRecursion (λ x. list_any (bytes_eq (text x)) (map text xs) ≡ true) xs
all_among text [] = tt
all_among text (x ∷ xs) = search (rules, all_among text xs, all_weaker)

-- and among those that pass a test if it passes
pub among_passing : (test : Text → Bool) (k : Text) (xs : List Text) → test k ≡ true → list_any (bytes_eq k) xs ≡ true → list_any (bytes_eq k) (filter test xs) ≡ true
among_passing test k [] passes among = among
among_passing test k (x ∷ xs) passes among = search (rules, among_passing test k xs passes)

-- ---- the elements of a list

infix 50 ◌∈◌
abbrev pub ◌∈◌ : {X : Type 0} → X → List X → Type 0
x ∈ [] = ⊥
x ∈ (y ∷ ys) = (y ≡ x) ⊎ (x ∈ ys)

pub each : {X : Type 0} (P : X → Type 0) (xs : List X) → ((x : X) → x ∈ xs → P x) → AllByRecursion P xs
each P [] f = tt
each P (x ∷ xs) f = (f x (inl refl), each P xs (λ y i. f y (inr i)))

pub each_pair : {X : Type 0} (R : X → X → Type 0) (xs : List X) → ((x y : X) → x ∈ xs → y ∈ xs → R x y) → AllByRecursion (λ x. AllByRecursion (R x) xs) xs
each_pair R xs f = each (λ x. AllByRecursion (R x) xs) xs (λ x i. each (R x) xs (λ y j. f x y i j))

pub at : {X : Type 0} (P : X → Type 0) (xs : List X) → AllByRecursion P xs → (x : X) → x ∈ xs → P x
at P [] all x i = absurd i
at P (y ∷ ys) all x i = ⊎_elim (λ same. subst P same all.0) (λ later. at P ys all.1 x later) i

pub in_filter : {X : Type 0} (p : X → Bool) (xs : List X) (x : X) → x ∈ xs → p x ≡ true → x ∈ filter p xs
in_filter p xs x i = at (λ y. p y ≡ true → y ∈ filter p xs) xs (all_unfiltered p (λ y. y ∈ filter p xs) xs (each (λ y. y ∈ filter p xs) (filter p xs) (λ y j. j))) x i

pub from_filter : {X : Type 0} (p : X → Bool) (xs : List X) (x : X) → x ∈ filter p xs → (x ∈ xs) × (p x ≡ true)
from_filter p xs x i = at (λ y. (y ∈ xs) × (p y ≡ true)) (filter p xs)
    (all_filtered p (λ y. y ∈ xs) (λ y. (y ∈ xs) × (p y ≡ true)) (λ y j passes. (j, passes)) xs (each (λ y. y ∈ xs) xs (λ y j. j))) x i

pub any_at : {X : Type 0} (p : X → Bool) (xs : List X) (x : X) → x ∈ xs → p x ≡ true → list_any p xs ≡ true
any_at p [] x i is = absurd i
any_at p (y ∷ ys) x i is = ⊎_elim (λ same. ap (λ b. b || list_any p ys) (ap p same ∙ is)) (λ later. or_right (p y) (list_any p ys) (any_at p ys x later is)) i

-- ---- an element of joined parts

pub in_left : {X : Type 0} (xs ys : List X) (x : X) → x ∈ xs → x ∈ (xs ++ ys)
in_left [] ys x i = absurd i
in_left (z ∷ xs) ys x i = ⊎_elim (λ same. inl same) (λ later. inr (in_left xs ys x later)) i

pub in_right : {X : Type 0} (xs ys : List X) (x : X) → x ∈ ys → x ∈ (xs ++ ys)
in_right [] ys x i = i
in_right (z ∷ xs) ys x i = inr (in_right xs ys x i)

pub in_joined : {X Y : Type 0} (part : X → List Y) (xs : List X) (x : X) (y : Y) → x ∈ xs → y ∈ part x → y ∈ flat_map part xs
in_joined part [] x y i j = absurd i
in_joined part (z ∷ xs) x y i j = ⊎_elim (λ same. in_left (part z) (flat_map part xs) y (subst (λ w. y ∈ part w) (sym same) j))
    (λ later. in_right (part z) (flat_map part xs) y (in_joined part xs x y later j)) i

in_distinct : (xs : List Text) (k : Text) → list_any (bytes_eq k) xs ≡ true → k ∈ distinct xs
in_distinct [] k among = absurd (true≢false (sym among))
in_distinct (x ∷ xs) k among = by (bytes_eq k x) refl among (in_distinct xs k)
  where
    by : (b : Bool) → bytes_eq k x ≡ b → (b || list_any (bytes_eq k) xs) ≡ true → (list_any (bytes_eq k) xs ≡ true → k ∈ distinct xs) → k ∈ distinct (x ∷ xs)
    by true same rest later = inl (sym (same_bytes k x same))
    by false other rest later = inr (in_filter (λ y. not (bytes_eq x y)) (distinct xs) k (later rest)
        (ap not (false_from_ne_true (bytes_eq x k) (λ same. true≢false (sym (equal_bytes k x (sym (same_bytes x k same))) ∙ other)))))

-- what holds of all of them holds of the part for a text
pub part_joined : {Y : Type 0} (P : Y → Type 0) (part : Text → List Y) (k : Text) (xs : List Text) → list_any (bytes_eq k) xs ≡ true → AllByRecursion P (flat_map part (distinct xs)) → AllByRecursion P (part k)
part_joined P part k xs among all = each P (part k) (λ y i. at P (flat_map part (distinct xs)) all y (in_joined part (distinct xs) k y (in_distinct xs k among) i))
