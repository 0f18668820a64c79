use Rattle.std.proofs.Common.{[], rules}
use Rattle.std.proofs.lemmas.List.{places, with_items_is}
use Rattle.std.proofs.lemmas.Result.{on_ok_weaker}
use Rattle.mailmap_snapshot.proofs.Sources.{marked_more, marked_one}
use Rattle.caller_promises.proofs.calls.make.Goals as goal

pub returns-in_ok-push-in-Merge : goal.returns-in_ok-push-in-Merge
returns-in_ok-push-in-Merge c = λ sources before.
    rw (c.in-Merge.is, c.in_ok-push-in-Merge.ensures.items, c.is_ok.ensures.value)
    (marked_one [] sources c.in-Merge.source.now _ _ _ c.merge_source.result before (on_ok_weaker c.merge_source.result (λ m. m.history) c.merge_source.ensures.ok) c.merge_source.ensures.err c.merge_source.ensures.out_of_memory)

pub returns-in_ok-extend_from_slice-in-MergeSources : goal.returns-in_ok-extend_from_slice-in-MergeSources
returns-in_ok-extend_from_slice-in-MergeSources c = λ sources before.
    let marks = c.merge_sources.new.made in
    rw (c.in-MergeSources.is, c.in_ok-extend_from_slice-in-MergeSources.ensures.items, c.as_slice.ensures.value, with_items_is c.in_ok-marks-in-MergeSources.marks marks (search (rules, places)))
    (marked_more [] sources c.in-MergeSources.sources.now _ marks _ _ before c.merge_sources.ensures.merged.history c.merge_sources.ensures.never_out_of_memory)

pub returns-in_ok-push-in-MergeSnapshot : goal.returns-in_ok-push-in-MergeSnapshot
returns-in_ok-push-in-MergeSnapshot c = λ sources before.
    rw (c.in-MergeSnapshot.is, c.in_ok-push-in-MergeSnapshot.ensures.items, c.is_ok-in-MergeSnapshot.ensures.value)
    (marked_one [] sources c.in-MergeSnapshot.source.now _ _ _ c.merge_snapshot.result before c.merge_snapshot.ensures.ok c.merge_snapshot.ensures.err c.merge_snapshot.ensures.out_of_memory)
