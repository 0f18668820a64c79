-- The parents so far are roots.
use Rattle.std.proofs.Common.{◌<◌, ℕ, slice_index}
use Rattle.mailmap_suggestions.specs.Forests.{IsRoot, KeepsClasses}
use Rattle.mailmap_suggestions.proofs.classes.flatten.Given as goal

abbrev pub invariant-loop-item : goal.invariant-loop-item
invariant-loop-item l = KeepsClasses l.initial.parents l.parents × ((k : ℕ) → k < l.item → IsRoot l.parents (slice_index l.parents k))
