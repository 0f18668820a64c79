-- Texts whose prefixes differ are in the order of their prefixes.
use Rattle.std.proofs.lemmas.List.{drop-replicate}
use Rattle.std.proofs.Common.{◌≡◌, ◌≢◌, ◌<◌, ◌≤◌, ◌+◌, ◌*◌, ◌^◌, ℕ, zero, suc, [], ◌∷◌, ◌++◌, drop, take, map, length, replicate, get_or, Ordering, Less, Equal, Greater, refl, ap, ◌∙◌, arith}
use Rattle.std.specs.Cmp.Lexicographic.{nat_list_cmp_total}
use Rattle.std.specs.Ordering.{nat_cmp, ordering_reverse}
use Rattle.std.proofs.Math.Nat.{pow-succ', suc-mul, mul-le-mul_right}
use Rattle.std.proofs.lemmas.Cmp.{ranked}
use Rattle.std.proofs.lemmas.Bool.Decides.{nat_tests}
use Rattle.std.specs.Char.{to_ascii_lowercase}
use Rattle.std.specs.Int.{from_be_bytes, w128}
use Rattle.mailmap_entries.specs.Folding.{Text, folded, text_cmp}
use Rattle.mailmap_entries.specs.Prefixes.{key_prefix, AreBytes}

pos : (n : ℕ) → 0 < 256 ^ n
pos zero = omega arith
pos (suc n) = omega (arith, pow-succ' 256 n, pos n)

pub prefix_below : (n : ℕ) (xs : Text) → AreBytes xs → key_prefix n xs < 256 ^ n
prefix_below zero xs all = omega arith
prefix_below (suc n) [] all = pos (suc n)
prefix_below (suc n) (x ∷ xs) all =
    let digit : suc x ≤ 256 = omega (arith, all.0) in
    omega (arith, pow-succ' 256 n, suc-mul x (256 ^ n), mul-le-mul_right (256 ^ n) digit, prefix_below n xs all.1)

-- a greater digit outweighs all digits after it
outweighed : (n x y : ℕ) (xs ys : Text) → AreBytes xs → x < y → x * 256 ^ n + key_prefix n xs < y * 256 ^ n
outweighed n x y xs ys all lt = omega (arith, suc-mul x (256 ^ n), mul-le-mul_right (256 ^ n) lt, prefix_below n xs all)

pub prefix_less : (n : ℕ) (xs ys : Text) → AreBytes xs → AreBytes ys → key_prefix n xs < key_prefix n ys → text_cmp xs ys ≡ Less
prefix_less zero xs ys ps qs lt = absurd (omega arith)
prefix_less (suc n) xs [] ps qs lt = absurd (omega arith)
prefix_less (suc n) [] (y ∷ ys) ps qs lt = refl
prefix_less (suc n) (x ∷ xs) (y ∷ ys) ps qs lt =
    grind (arith, prefix_less n xs ys ps.1 qs.1, outweighed n x y xs ys ps.1, outweighed n y x ys xs qs.1)

-- texts whose prefixes differ are in the order of these
pub prefix_decides : (n : ℕ) (xs ys : Text) → AreBytes xs → AreBytes ys → (r : Ordering) → r ≡ nat_cmp (key_prefix n xs) (key_prefix n ys) → r ≢ Equal → text_cmp xs ys ≡ r
prefix_decides n xs ys ps qs Less e other = prefix_less n xs ys ps qs (ranked _ _ Less e)
prefix_decides n xs ys ps qs Equal e other = absurd (other refl)
prefix_decides n xs ys ps qs Greater e other = nat_list_cmp_total.antisymm xs ys ∙ ap ordering_reverse (prefix_less n ys xs qs ps (ranked _ _ Greater e))

-- if the prefixes are equal, the bytes after them decide
pub prefix_alike : (n : ℕ) (xs ys : Text) → AreBytes xs → AreBytes ys → n ≤ length xs → n ≤ length ys → key_prefix n xs ≡ key_prefix n ys → text_cmp xs ys ≡ text_cmp (drop n xs) (drop n ys)
prefix_alike zero xs ys ps qs lx ly e = refl
prefix_alike (suc n) [] ys ps qs lx ly e = absurd (omega arith)
prefix_alike (suc n) (x ∷ xs) [] ps qs lx ly e = absurd (omega arith)
prefix_alike (suc n) (x ∷ xs) (y ∷ ys) ps qs lx ly e =
    grind (arith, prefix_alike n xs ys ps.1 qs.1 (omega arith) (omega arith), outweighed n x y xs ys ps.1, outweighed n y x ys xs qs.1)

-- ---- the number, digit by digit

none_left : (n i : ℕ) → key_prefix n (drop i []) ≡ 0
none_left zero i = refl
none_left (suc n) zero = refl
none_left (suc n) (suc i) = refl

first_digit : (n i : ℕ) (xs : Text) → key_prefix (suc n) (drop i xs) ≡ get_or xs i 0 * 256 ^ n + key_prefix n (drop (suc i) xs)
first_digit zero zero [] = refl
first_digit (suc n) zero [] = omega arith
first_digit n (suc i) [] = omega (arith, none_left (suc n) (suc i), none_left n (suc (suc i)))
first_digit n zero (x ∷ xs) = refl
first_digit n (suc i) (x ∷ xs) = first_digit n i xs

-- the first sixteen bytes as a big-endian number
pub number_of : (xs : Text) → from_be_bytes w128 xs ≡ key_prefix 16 xs
number_of xs = omega (
  arith,
  first_digit 15 0 xs,
  first_digit 14 1 xs,
  first_digit 13 2 xs,
  first_digit 12 3 xs,
  first_digit 11 4 xs,
  first_digit 10 5 xs,
  first_digit 9 6 xs,
  first_digit 8 7 xs,
  first_digit 7 8 xs,
  first_digit 6 9 xs,
  first_digit 5 10 xs,
  first_digit 4 11 xs,
  first_digit 3 12 xs,
  first_digit 2 13 xs,
  first_digit 1 14 xs,
  first_digit 0 15 xs,
)

-- only the first n bytes count
pub prefix_take : (f : ℕ → ℕ) (n : ℕ) (xs : Text) → key_prefix n (map f (take n xs)) ≡ key_prefix n (map f xs)
prefix_take f zero xs = refl
prefix_take f (suc n) [] = refl
prefix_take f (suc n) (x ∷ xs) = ap (λ k. f x * 256 ^ n + k) (prefix_take f n xs)

-- zeros after a text don't count
zeros : (n m : ℕ) → key_prefix n (map to_ascii_lowercase (replicate m 0)) ≡ 0
zeros zero m = refl
zeros (suc n) zero = refl
zeros (suc n) (suc m) = omega (arith, zeros n m)

pub prefix_padded : (n m : ℕ) (xs : Text) → key_prefix n (map to_ascii_lowercase (xs ++ replicate m 0)) ≡ key_prefix n (folded xs)
prefix_padded zero m xs = refl
prefix_padded (suc n) m [] = zeros (suc n) m
prefix_padded (suc n) m (x ∷ xs) = ap (λ k. to_ascii_lowercase x * 256 ^ n + k) (prefix_padded n m xs)

folded_below : (x : ℕ) → x < 256 → to_ascii_lowercase x < 256
folded_below x lt = grind (arith, nat_tests)

pub folded_bytes : (xs : Text) → ((i : ℕ) → get_or xs i 0 < 256) → AreBytes (folded xs)
folded_bytes [] all = tt
folded_bytes (x ∷ xs) all = (folded_below x (all 0), folded_bytes xs (λ i. all (suc i)))

pub ruleset first_laws = (prefix_padded, prefix_take, drop-replicate)
