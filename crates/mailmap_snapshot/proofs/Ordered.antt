-- The orders of times and of signatures are total, and no two different ones compare as equal.
use Rattle.std.proofs.Common.{arith}
use Rattle.std.proofs.Common.{◌≡◌, Equal}
use Rattle.std.specs.Prelude.{◌↔◌}
use Rattle.std.specs.Cmp.{IsTotalOrder}
use Rattle.std.specs.Cmp.Lexicographic.{nat_list_cmp_total}
use Rattle.std.proofs.lemmas.Cmp.{int_cmp_total, on_total, then_total}
use Rattle.std.proofs.lemmas.Map.Lookups.{exact_signed}
use Rattle.mailmap_entries.proofs.Folding.{equal-same}
use Rattle.mailmap_entries.proofs.Keys.{both_equal, exactly}
use Rattle.mailmap_snapshot.specs.SignatureFields.{SignatureFields, signature_cmp}
use Rattle.mailmap_snapshot.specs.Times.{time_cmp}
use Rattle.mailmap_snapshot.specs.declared.date.Time.{Time}

same_time : (a b : Time) → time_cmp a b ≡ Equal → a ≡ b
same_time a b e = grind (arith, both_equal, exact_signed)

pub times_total : IsTotalOrder time_cmp
times_total = then_total (on_total (λ (t : Time). t.seconds) int_cmp_total) (on_total (λ (t : Time). t.offset) int_cmp_total)

pub times_exact : (a b : Time) → (time_cmp a b ≡ Equal) ↔ (a ≡ b)
times_exact = exactly times_total same_time

same_signature : (a b : SignatureFields) → signature_cmp a b ≡ Equal → a ≡ b
same_signature a b e =
    grind (arith, equal-same a.name b.name, equal-same a.email b.email, same_time a.time b.time)

pub signatures_total : IsTotalOrder signature_cmp
signatures_total = then_total (on_total (λ (s : SignatureFields). s.name) nat_list_cmp_total)
    (then_total (on_total (λ (s : SignatureFields). s.email) nat_list_cmp_total) (on_total (λ (s : SignatureFields). s.time) times_total))

pub signatures_exact : (a b : SignatureFields) → (signature_cmp a b ≡ Equal) ↔ (a ≡ b)
signatures_exact = exactly signatures_total same_signature
