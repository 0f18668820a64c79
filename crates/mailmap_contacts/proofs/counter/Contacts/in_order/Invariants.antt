-- The contacts so far, trimmed.
use Rattle.std.proofs.Common.{map}
use Rattle.mailmap_contacts.specs.Contacts.{read_by, trimmed}
use Rattle.mailmap_contacts.specs.Counts.{SameTallies, answer_key_tally}
use Rattle.mailmap_contacts.proofs.Entries.{item_tally}
use Rattle.mailmap_contacts.proofs.counter.Contacts.in_order.Given as goal

abbrev pub invariant-loop-name : goal.invariant-loop-name
invariant-loop-name l = SameTallies (map answer_key_tally l.tallies.entries) (map (read_by trimmed) (map item_tally l.yielded))
