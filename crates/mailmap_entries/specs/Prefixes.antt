-- Key prefixes: the first bytes of a text as a number. Texts whose numbers differ are in the order of these.
use Rattle.std.specs.Prelude.{◌≡◌, ◌+◌, ◌*◌, ◌^◌, ◌<◌, ℕ, zero, suc, [], ◌∷◌}
use Rattle.std.specs.List.{AllByRecursion}
use Rattle.mailmap_entries.specs.Folding.{Text}

-- the first n bytes as the digits of a number in base 256; a byte past the end counts as 0
abbrev pub key_prefix : ℕ → Text → ℕ
key_prefix zero xs = 0
key_prefix (suc n) [] = 0
key_prefix (suc n) (x ∷ xs) = x * 256 ^ n + key_prefix n xs

abbrev pub AreBytes : Text → Type 0
AreBytes xs = AllByRecursion (λ x. x < 256) xs

-- the number of the first sixteen bytes of a text
pub record IsKeyPrefix (number : ℕ) (xs : Text) : Type 0 where
  pub bytes : AreBytes xs
  pub is : number ≡ key_prefix 16 xs
