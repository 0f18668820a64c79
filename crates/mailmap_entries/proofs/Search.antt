-- Answers of a partitioned list, and the number of binary digits of a half.
use Rattle.std.proofs.Common.{◌≡◌, ℕ, zero, suc, ◌+◌, ◌/◌, ◌^◌, ◌<◌, ◌≤◌, List, [], ◌∷◌, length, get_or, Some, Ordering, Less, Equal, Greater, refl, subst, sym, ◌∙◌, arith}
use Rattle.std.specs.List.{slice_get, AllByRecursion}
use Rattle.std.specs.Int.Digits.{digits_of}
use Rattle.std.proofs.lemmas.Int.Digits.{length-digits_of_step, length-digits_of-le, number_lt, number_digits_of, all_below_base_digits_of}
use Rattle.std.proofs.lemmas.List.Elements.{All-from_recursion}
use Rattle.std.proofs.lemmas.Option.{get_or_from_slice_get, slice_get_within}
use Rattle.mailmap_entries.specs.Search.{IsPartitioned, digits}

-- ---- digits

-- a number below 2 ^ k has at most k digits
pub digits-le : (k n : ℕ) → n < 2 ^ k → digits n ≤ k
unfolding digits
digits-le k n h = length-digits_of-le 2 k n (omega arith) h

-- a number with k digits is below 2 ^ k
pub below_digits : (n : ℕ) → n < 2 ^ digits n
unfolding digits
below_digits n =
    let P : ℕ → Type 0 = λ m. m < 2 ^ length (digits_of 2 n) in
    subst P (number_digits_of 2 n (omega arith)) (number_lt 2 (digits_of 2 n) (all_below_base_digits_of 2 n (omega arith)))

-- a larger number has no fewer digits
pub digits-rise : (m n : ℕ) → m ≤ n → digits m ≤ digits n
digits-rise m n le = digits-le (digits n) m (omega (arith, below_digits n))

-- half a number has one digit less
pub digits-half : (n : ℕ) → 0 < n → digits n ≡ digits (n / 2) + 1
unfolding digits
digits-half n above = length-digits_of_step 2 n (omega arith) above

-- half of n or less has at least one digit less than n
pub digits-part : (m n : ℕ) → 0 < n → m + m ≤ n → digits m + 1 ≤ digits n
digits-part m n above half =
    let le : m ≤ n / 2 = omega arith in
    omega (arith, digits-half n above, digits-rise m (n / 2) le)

-- ---- partitioned lists

abbrev AreGreater : List Ordering → Type 0
AreGreater = AllByRecursion (λ a. a ≡ Greater)

greater_at : (xs : List Ordering) (k : ℕ) (a : Ordering) → AreGreater xs → slice_get xs k ≡ Some a → a ≡ Greater
greater_at xs k a all e = sym (get_or_from_slice_get xs k a a e) ∙ All-from_recursion _ xs all k a (slice_get_within xs k a e)

-- before a `Less`, all are `Less`
pub less_before : (xs : List Ordering) (k j : ℕ) (d : Ordering) → IsPartitioned xs → slice_get xs k ≡ Some Less → j ≤ k → get_or xs j d ≡ Less
unfolding IsPartitioned
less_before [] k j d parted e le = absurd (cc)
less_before (Less ∷ xs) k zero d parted e le = refl
less_before (Less ∷ xs) zero (suc j) d parted e le = absurd (omega arith)
less_before (Less ∷ xs) (suc k) (suc j) d parted e le = less_before xs k j d parted e (omega arith)
less_before (x ∷ xs) zero j d parted e le = absurd (cc)
less_before (x ∷ xs) (suc k) j d parted e le = let wrong = greater_at xs k Less parted e in absurd (cc)

-- from a `Greater` on, all are `Greater`
pub greater_from : (xs : List Ordering) (k j : ℕ) (d : Ordering) → IsPartitioned xs → slice_get xs k ≡ Some Greater → k ≤ j → j < length xs → get_or xs j d ≡ Greater
unfolding IsPartitioned
greater_from [] k j d parted e le h = absurd (cc)
greater_from (Less ∷ xs) zero j d parted e le h = absurd (cc)
greater_from (Less ∷ xs) (suc k) (suc j) d parted e le h = greater_from xs k j d parted e (omega arith) (omega arith)
greater_from (Equal ∷ xs) zero j d parted e le h = absurd (cc)
greater_from (Greater ∷ xs) k zero d parted e le h = refl
greater_from (x ∷ xs) (suc k) zero d parted e le h = absurd (omega arith)
greater_from (x ∷ xs) k (suc j) d parted e le h = All-from_recursion _ xs parted j d (omega arith)

pub ruleset search_laws = (digits-part, digits-le, less_before, greater_from)
