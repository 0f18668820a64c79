use Rattle.std.proofs.Common.{◌∙◌, ◌++◌, ap, subst, sym}
use Rattle.mailmap_batches.specs.Batches.{IsSortedFrom}
use Rattle.mailmap_batches.proofs.batch.sorted_runs.Goals as goal

pub returns : goal.returns
returns c =
    let copied = c.in_ok-extend_from_slice.ensures.items ∙ ap (λ l. l ++ c.sort_runs.new.batch) c.requires.empty in
    subst (IsSortedFrom c.args.batch.now) (sym copied) c.in_ok-sort_runs.ensures
