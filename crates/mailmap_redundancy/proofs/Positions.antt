-- The order of positions is total, and no two different ones compare as equal.
use Rattle.std.proofs.Common.{◌≡◌, Equal, arith}
use Rattle.std.specs.Cmp.{IsTotalOrder}
use Rattle.std.proofs.lemmas.Cmp.{nat_cmp_total, on_total, then_total}
use Rattle.std.proofs.lemmas.Map.Lookups.{exact_pairs, exact_unsigned}
use Rattle.mailmap_redundancy.specs.Redundancy.{position_cmp}
use Rattle.mailmap_redundancy.specs.declared.located.Position.{Position}

pub positions_total : IsTotalOrder position_cmp
positions_total = then_total (on_total (λ p. p.buffer) nat_cmp_total) (on_total (λ p. p.line) nat_cmp_total)

pub positions_exact : (x y : Position) → position_cmp x y ≡ Equal → x ≡ y
positions_exact x y e = grind (arith, exact_pairs, exact_unsigned)
