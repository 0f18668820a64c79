use Rattle.std.proofs.Common.{◌++◌, [], ap, append-nil}
use Rattle.std.proofs.lemmas.Iterator.Consumers.{YieldsList-from_first}
use Rattle.std.proofs.lemmas.Result.{on_err_weaker, on_ok_weaker}
use Rattle.gix_mailmap.specs.Building.{IsMerged}
use Rattle.gix_mailmap.specs.Entries.{mapping_of}
use Rattle.gix_mailmap.specs.Semantics.{accepted}
use Rattle.gix_mailmap.specs.Sources.{source_mappings}
use Rattle.mailmap_snapshot.proofs.Sources.{merged_all, out_of_memory_some}
use Rattle.caller_promises.proofs.NormalLists.{nothing_listed}
use Rattle.caller_promises.proofs.calls.merge_snapshot.Goals as goal

pub returns-clause-ok : goal.returns-clause-ok
returns-clause-ok c =
    let said = source_mappings c.args.source.now in
    let new = c.merge.new.self in
    let listed = c.in_ok-apart.apart in
    on_ok_weaker c.merge.result (λ (m : IsMerged c.args.snapshot.now listed new) h d.
    rw (append-nil (h ++ said)) at ((c.law_condense.ensures h said [] listed new c.in_ok-apart.ensures.ok).1 (rw (append-nil (h ++ listed)) (m.history h d))))
    (merged_all (YieldsList-from_first mapping_of (λ s. s) listed c.iter.ensures.listing) c.merge.result c.args.snapshot.now new c.merge.ensures.ok)

pub returns-clause-out_of_memory : goal.returns-clause-out_of_memory
returns-clause-out_of_memory c =
    let said = source_mappings c.args.source.now in
    let listed = c.in_ok-apart.apart in
    let some = out_of_memory_some (YieldsList-from_first mapping_of (λ s. s) listed c.iter.ensures.listing) c.merge.result c.merge.ensures.out_of_memory in
    on_err_weaker c.merge.result (λ some none. some (ap accepted (nothing_listed c.law_reorder.ensures c.law_shortest.ensures said listed none c.in_ok-apart.ensures.ok))) some
