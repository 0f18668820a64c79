-- The answers so far, and what is left of the map.
use Rattle.std.proofs.Common.{◌≡◌, ◌++◌, map}
use Rattle.mailmap_contacts.proofs.Entries.{entry_of}
use Rattle.mailmap_contacts.proofs.answers.answers_in.Given as goal

abbrev pub invariant-loop-name : goal.invariant-loop-name
invariant-loop-name l = map entry_of l.answers.items ++ l.name-iterator ≡ l.fn.tallies.entries
