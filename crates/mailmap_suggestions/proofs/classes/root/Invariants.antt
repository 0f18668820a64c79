-- The classes stay, and those on the way are of the item's class.
use Rattle.std.proofs.Common.{◌≡◌, ◌<◌, ℕ, length}
use Rattle.mailmap_suggestions.specs.Forests.{AgreesAlong, KeepsClasses}
use Rattle.mailmap_suggestions.proofs.classes.root.Given as goal

abbrev pub invariant-loop-parents : goal.invariant-loop-parents
invariant-loop-parents l = KeepsClasses l.initial.parents l.parents × (l.at < length l.parents) × ((f : ℕ → ℕ) → AgreesAlong l.parents f → f l.at ≡ f l.item)

abbrev pub decreases-loop-parents : goal.decreases-loop-parents
decreases-loop-parents l = l.at
