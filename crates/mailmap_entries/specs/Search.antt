-- What a binary search needs of a list's answers, and a bound for the number of its questions.
use Rattle.std.specs.Prelude.{◌≡◌, ℕ, List, [], ◌∷◌, length}
use Rattle.std.specs.Int.Digits.{digits_of}
use Rattle.std.specs.List.{AllByRecursion}
use Rattle.std.specs.declared.cmp.Ordering.{Ordering}
use Rattle.std.specs.declared.cmp.Ordering.TheVariants.{Less, Equal, Greater}

-- any number of `Less`, then at most one `Equal`, then any number of `Greater`
unfoldable pub IsPartitioned : List Ordering → Type 0
IsPartitioned [] = Unit {0}
IsPartitioned (Less ∷ answers) = IsPartitioned answers
IsPartitioned (Equal ∷ answers) = AllByRecursion (λ a. a ≡ Greater) answers
IsPartitioned (Greater ∷ answers) = AllByRecursion (λ a. a ≡ Greater) answers

-- the number of binary digits of a number; 0 has none
unfoldable pub digits : ℕ → ℕ
digits n = length (digits_of 2 n)
