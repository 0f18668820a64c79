use Rattle.mailmap_redundancy.proofs.Rows.{IsPassing}
use Rattle.mailmap_redundancy.proofs.passes.drop_redundant_once.Given as goal

abbrev pub invariant-loop-x : goal.invariant-loop-x
invariant-loop-x l = IsPassing l.keys l.entries l.x-index l.later_ones.items l.table l.kept.items
