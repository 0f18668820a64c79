-- The paths so far are added, and the remaining ones are in the iterator.
use Rattle.std.proofs.Common.{◌≡◌, length, map}
use Rattle.std.specs.Vec.Iter.{into_iter_items, into_iter_len}
use Rattle.verify_command.specs.Arguments.{wanted_of, with_paths}
use Rattle.verify_command.proofs.asked.Request.end_with.Given as goal

abbrev pub invariant-loop-word : goal.invariant-loop-word
invariant-loop-word l = (into_iter_len l.word-iterator ≡ length (into_iter_items l.word-iterator))
    × (with_paths (wanted_of l.initial.self) (map (λ w. w.items) (into_iter_items l.fn.words))
    ≡ with_paths (wanted_of l.self) (map (λ w. w.items) (into_iter_items l.word-iterator)))
