use Rattle.std.proofs.Common.{◌≡◌, ◌+◌, ◌%◌, ℕ, cond, leb, map, bit_and, replicate, subst}
use Rattle.std.specs.Char.{to_ascii_lowercase}
use Rattle.std.specs.Simd.Lanes.{zip2, sel_l, top}
use Rattle.mailmap_entries.proofs.Lowercase.{lowered}
use Rattle.mailmap_entries.proofs.fold.prefix.lowercase.Goals as goal

pub returns : goal.returns
returns c =
    let v = c.args.bytes.now in
    subst (λ (n : ℕ). sel_l (map (top 7) (zip2 bit_and (zip2 (λ a b. cond (leb a b) 255 0) (replicate n 65) v) (zip2 (λ a b. cond (leb a b) 255 0) v (replicate n 90)))) (zip2 (λ a b. (a + b) % 256) v (replicate n 32)) v ≡ map to_ascii_lowercase v)
    c.told-bytes (lowered v)
