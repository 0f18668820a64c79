-- The first bytes of a mark as a number.
use Rattle.std.specs.Int.{from_be_bytes, w128}
use Rattle.std.proofs.Common.{◌≡◌, ◌<◌, ◌+◌, ◌*◌, ◌^◌, ◌++◌, ℕ, zero, suc, [], ◌∷◌, ap, arith, get_or, refl, replicate, take}
pub use Rattle.std.proofs.lemmas.List.{drop-replicate}
use Rattle.mailmap_entries.specs.Folding.{Text}
use Rattle.mailmap_entries.specs.Prefixes.{AreBytes, key_prefix}
use Rattle.mailmap_entries.proofs.Prefixes.{number_of}

pub number_is : (xs : Text) → from_be_bytes w128 xs ≡ key_prefix 16 xs
number_is xs = number_of xs

pub are_bytes : (xs : Text) → ((i : ℕ) → get_or xs i 0 < 256) → AreBytes xs
are_bytes [] all = tt
are_bytes (x ∷ xs) all = (all 0, are_bytes xs (λ i. all (suc i)))

-- only the first n bytes count
pub taken : (n : ℕ) (xs : Text) → key_prefix n (take n xs) ≡ key_prefix n xs
taken zero xs = refl
taken (suc n) [] = refl
taken (suc n) (x ∷ xs) = ap (λ k. x * 256 ^ n + k) (taken n xs)

-- zeros after a text don't count
zeros : (n m : ℕ) → key_prefix n (replicate m 0) ≡ 0
zeros zero m = refl
zeros (suc n) zero = refl
zeros (suc n) (suc m) = omega (arith, zeros n m)

pub padded : (n m : ℕ) (xs : Text) → key_prefix n (xs ++ replicate m 0) ≡ key_prefix n xs
padded zero m xs = refl
padded (suc n) m [] = zeros (suc n) m
padded (suc n) m (x ∷ xs) = ap (λ k. x * 256 ^ n + k) (padded n m xs)

pub ruleset first_laws = (padded, taken, drop-replicate)
