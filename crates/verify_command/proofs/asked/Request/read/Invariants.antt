-- The request for all arguments is that for the remaining ones, after what the earlier ones gave.
use Rattle.std.proofs.Common.{◌≡◌, None, length, map}
use Rattle.std.specs.Vec.Iter.{into_iter_items, into_iter_len}
use Rattle.verify_command.specs.Arguments.{asked_in, wanted_of}
use Rattle.verify_command.proofs.asked.Request.read.Given as goal

abbrev pub invariant-loop-argument : goal.invariant-loop-argument
invariant-loop-argument l = (into_iter_len l.words ≡ length (into_iter_items l.words))
    × (asked_in (map (λ w. w.items) (into_iter_items l.initial.words)) (wanted_of l.initial.self) None
    ≡ asked_in (map (λ w. w.items) (into_iter_items l.words)) (wanted_of l.self) None)

abbrev pub decreases-loop-argument : goal.decreases-loop-argument
decreases-loop-argument l = into_iter_len l.words
