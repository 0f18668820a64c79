-- The rest of the name decides.
use Rattle.std.proofs.Common.{◌≡◌, drop}
use Rattle.mailmap_suggestions.specs.Shared.{has_via}
use Rattle.mailmap_suggestions.proofs.shared.has_via.Given as goal

abbrev pub invariant-loop-start : goal.invariant-loop-start
invariant-loop-start l = has_via (drop l.start l.name) ≡ has_via l.name
