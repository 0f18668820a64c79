-- Sixteen bytes in lower case at once give the same as byte by byte.
use Rattle.std.proofs.Common.{◌≡◌, ◌+◌, ◌%◌, ℕ, Bool, cond, leb, ◌&&◌, List, [], ◌∷◌, length, map, replicate, bit_and, refl, ap₂, ◌∙◌, arith}
use Rattle.std.proofs.lemmas.Bool.Decides.{nat_tests}
use Rattle.std.specs.Char.{to_ascii_lowercase}
use Rattle.std.specs.Simd.Lanes.{zip2, sel_l, top}

pick : (a b : Bool) (u x : ℕ) → cond (top 7 (bit_and (cond {A = ℕ} a 255 0) (cond {A = ℕ} b 255 0))) u x ≡ cond (a && b) u x
pick a b u x = grind arith

one : (x : ℕ) → cond (leb 65 x && leb x 90) ((x + 32) % 256) x ≡ to_ascii_lowercase x
one x = grind (arith, nat_tests)

pub lowered : (v : List ℕ)
    → sel_l (map (top 7) (zip2 bit_and (zip2 (λ a b. cond (leb a b) 255 0) (replicate (length v) 65) v) (zip2 (λ a b. cond (leb a b) 255 0) v (replicate (length v) 90)))) (zip2 (λ a b. (a + b) % 256) v (replicate (length v) 32)) v
    ≡ map to_ascii_lowercase v
lowered [] = refl
lowered (x ∷ v) = ap₂ (λ y ys. y ∷ ys) (pick (leb 65 x) (leb x 90) ((x + 32) % 256) x ∙ one x) (lowered v)
