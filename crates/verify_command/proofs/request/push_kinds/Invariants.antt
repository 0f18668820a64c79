-- The kinds so far are appended, and the remaining names are in the iterator.
use Rattle.std.proofs.Common.{◌≡◌}
use Rattle.verify_command.specs.Arguments.{kinds_after, names_in}
use Rattle.verify_command.proofs.request.push_kinds.Given as goal

abbrev pub invariant-loop-name : goal.invariant-loop-name
invariant-loop-name l = (goal.iterator-loop-name).can_next l.name-iterator
    × (goal.iterator-loop-name).is_finite l.name-iterator
    × (kinds_after l.initial.kinds.items (names_in l.fn.names) ≡ kinds_after l.kinds.items l.name-iterator)
