use Rattle.std.proofs.Common.{◌-◌, length}
use Rattle.mailmap_batches.proofs.SortedRuns.{IsSortedTo}
use Rattle.mailmap_batches.proofs.batch.sort_runs.Given as goal

abbrev pub decreases-loop-start : goal.decreases-loop-start
decreases-loop-start l = length l.batch - l.start

abbrev pub invariant-loop-start : goal.invariant-loop-start
invariant-loop-start l = IsSortedTo l.start l.fn.batch l.batch
