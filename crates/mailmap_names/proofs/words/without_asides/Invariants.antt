use Rattle.std.proofs.Common.{◌≡◌, ◌++◌, length}
use Rattle.mailmap_names.specs.Words.{without_asides}
use Rattle.mailmap_names.proofs.words.without_asides.Given as goal

abbrev pub invariant-loop-rest : goal.invariant-loop-rest
invariant-loop-rest l = without_asides l.text ≡ l.kept.items ++ without_asides l.rest

abbrev pub decreases-loop-rest : goal.decreases-loop-rest
decreases-loop-rest l = length l.rest
