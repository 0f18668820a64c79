use Rattle.std.proofs.Common.{◌≡◌, take}
use Rattle.std.specs.List.{All}
use Rattle.mailmap_batches.specs.Batches.{folded_email_at}
use Rattle.mailmap_batches.proofs.groups.email_group_len.Given as goal

abbrev pub invariant-loop-i : goal.invariant-loop-i
invariant-loop-i l = All (λ p. folded_email_at p ≡ folded_email_at l.first) (take l.i l.batch)
