-- Each item so far is its own parent.
use Rattle.std.proofs.Common.{◌≡◌, ◌<◌, ℕ, length}
use Rattle.mailmap_suggestions.specs.Forests.{IsRoot}
use Rattle.mailmap_suggestions.proofs.classes.roots.Given as goal

abbrev pub invariant-loop-item : goal.invariant-loop-item
invariant-loop-item l = (length l.parents.items ≡ l.item) × ((i : ℕ) → i < l.item → IsRoot l.parents.items i)
