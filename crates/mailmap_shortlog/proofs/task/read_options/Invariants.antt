-- The task for all arguments is the task for the remaining ones, with the options so far.
use Rattle.std.proofs.Common.{◌≡◌, length, map}
use Rattle.mailmap_shortlog.specs.Task.{asked, no_options}
use Rattle.mailmap_shortlog.proofs.task.read_options.Given as goal

abbrev pub invariant-loop-left : goal.invariant-loop-left
invariant-loop-left l = asked no_options (map (λ a. a.items) l.initial.left) ≡ asked l.options (map (λ a. a.items) l.left)

abbrev pub decreases-loop-left : goal.decreases-loop-left
decreases-loop-left l = length l.left
