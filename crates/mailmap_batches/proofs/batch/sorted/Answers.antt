use Rattle.std.proofs.Common.{map}
use Rattle.mailmap_entries.proofs.Results.{if_ok_map}
use Rattle.mailmap_batches.proofs.SortedRuns.{sorted_from}
use Rattle.mailmap_batches.proofs.batch.sorted.Goals as goal

pub returns : goal.returns
returns g c =
    if_ok_map c.sorted_runs.result _ _ (λ made sorted. sorted_from (map g.T.HasEntry.mapping c.args.entries.now)
    c.in_ok-indexed.field-0.items c.in_ok-batch.batch.items made.items c.in_ok-indexed.ensures
    c.in_ok-batch.ensures.kept (rw c.deref_mut.ensures.value at sorted)) c.sorted_runs.ensures
