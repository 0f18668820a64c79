-- The first strangers so far.
use Rattle.std.proofs.Common.{◌≡◌, map, take}
use Rattle.mailmap_suggestions.specs.Shared as spec
use Rattle.mailmap_suggestions.specs.SharedViews.{names_in}
use Rattle.mailmap_suggestions.proofs.shared.strangers.Given as goal

abbrev pub invariant-loop-name : goal.invariant-loop-name
invariant-loop-name l = names_in l.known.items ≡ take 4 (spec.strangers (map (λ n. n.now) (take l.name-index l.names)))
