-- All slots so far are unused.
use Rattle.std.proofs.Common.{◌≡◌, [], length}
use Rattle.std.specs.Prelude.{All}
use Rattle.mailmap_contacts.proofs.counter.empty_slots.Given as goal

abbrev pub invariant-loop : goal.invariant-loop
invariant-loop l = All (λ slot. slot.line.items ≡ []) l.slots.items × (length l.slots.items ≡ l.counter)
