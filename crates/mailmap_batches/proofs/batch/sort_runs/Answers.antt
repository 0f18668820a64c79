use Rattle.std.proofs.Common.{◌≡◌, ◌≤◌, ◌-◌, arith, length, take_all}
use Rattle.std.proofs.lemmas.List.Sorted.{length_permutation}
use borrow.Rule.Slice.PartMut.{mid_len}
use Rattle.mailmap_batches.proofs.SortedRuns.{run_sorted, none_sorted}
use Rattle.mailmap_batches.proofs.batch.sort_runs.Goals as goal

pub loop-start-init : goal.loop-start-init
loop-start-init c = none_sorted c.args.batch.now

pub loop-start-preserved : goal.loop-start-preserved
loop-start-preserved c =
    let end = c.run_end-end.ensures in
    let sorted = c.in_ok-sort_run.ensures in
    let count : length c.sort_run.new.run ≡ c.run_end-end.result - c.loop-start.start =
    omega (arith, length_permutation _ _ sorted.kept.moved, mid_len c.loop-start.start c.run_end-end.result c.loop-start.batch end.within) in
    run_sorted c.args.batch.now c.loop-start.batch c.sort_run.new.run c.loop-start.start c.run_end-end.result end.after
    end.within count c.requires end.greater c.loop-start.invariant sorted

pub returns : goal.returns
returns c =
    let old = c.args.batch.now in
    let new = c.loop-start.batch in
    let whole = c.loop-start.invariant.sorted in
    let end : length old ≤ c.loop-start.start = omega (arith, c.loop-start.invariant.len) in
    rw (take_all c.loop-start.start old end, take_all c.loop-start.start new (omega arith)) at whole
