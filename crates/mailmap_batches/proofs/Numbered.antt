-- Entries with their indexes, and lists of keys that never descend.
use Rattle.std.proofs.Common.{◌≡◌, ◌+◌, ◌<◌, ◌≤◌, ℕ, suc, length, get_or, arith, false, List, [], ◌∷◌, ◌++◌, map}
use Rattle.std.proofs.Common.{Ordering, refl, ap}
use Rattle.std.specs.List.{AllByRecursion, enumerate_from}
use Rattle.std.specs.Ordering.{is_lt}
use Rattle.mailmap_batches.specs.Batches.{IsWeaklySortedBy}

pub enumerate_from-push : {X : Type 0} (n k : ℕ) (xs : List X) (x : X) → k ≡ n + length xs
    → enumerate_from n (xs ++ x ∷ []) ≡ enumerate_from n xs ++ (k, x) ∷ []
enumerate_from-push n k [] x e = grind arith
enumerate_from-push n k (y ∷ xs) x e = grind (arith, enumerate_from-push (n + 1) k xs x (omega (arith, e)))

pub numbered : {X : Type 0} (n : ℕ) (xs : List X) → map (λ p. p.1) (enumerate_from n xs) ≡ xs
numbered n [] = refl
numbered n (x ∷ xs) = ap (λ l. x ∷ l) (numbered (n + 1) xs)

pub mapped_twice : {X Y Z : Type 0} (f : X → Y) (g : Y → Z) (xs : List X) → map g (map f xs) ≡ map (λ x. g (f x)) xs
mapped_twice f g [] = refl
mapped_twice f g (x ∷ xs) = ap (λ l. g (f x) ∷ l) (mapped_twice f g xs)

module _ {X K : Type 0} (R : K → K → Ordering) (by : X → K) where
  -- if no element is below its predecessor, none is below any before it
  all_from : (x : X) (xs : List X) → ((k : ℕ) → k < length xs → is_lt (R (by (get_or xs k x)) (by x)) ≡ false)
      → AllByRecursion (λ y. is_lt (R y (by x)) ≡ false) (map by xs)
  all_from x [] h = tt
  all_from x (y ∷ xs) h = (h 0 (omega arith), all_from x xs (λ k lt. h (suc k) (omega arith)))

  pub ascending_from : (xs : List X) → ((i j : ℕ) (d : X) → i ≤ j → j < length xs
      → is_lt (R (by (get_or xs j d)) (by (get_or xs i d))) ≡ false) → IsWeaklySortedBy R (map by xs)
  ascending_from [] h = tt
  ascending_from (x ∷ xs) h = (
    all_from x xs (λ k lt. h 0 (suc k) x (omega arith) (omega arith)),
    ascending_from xs (λ i j d le lt. h (suc i) (suc j) d (omega arith) (omega arith)),
  )
