-- The slots so far are added to the map.
use Rattle.std.proofs.Common.{◌≡◌, ◌++◌}
use Rattle.std.specs.List.{flat_map}
use Rattle.mailmap_contacts.specs.Counts.{SameTallies, slot_tally}
use Rattle.mailmap_contacts.proofs.counter.ContactCounter.into_contacts.Given as goal

abbrev pub invariant-loop-slot : goal.invariant-loop-slot
invariant-loop-slot l = SameTallies l.contacts.tallies (l.initial.contacts.tallies ++ flat_map slot_tally l.yielded)
    × (l.contacts.lines_without_contact ≡ l.initial.contacts.lines_without_contact)
