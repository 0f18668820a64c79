use Rattle.std.proofs.Common.{◌≡◌, ap, map, ◌∙◌}
use Rattle.std.proofs.lemmas.Iterator.{YieldsList-from_slice}
use Rattle.std.proofs.lemmas.Iterator.Consumers.{YieldsList-from_copied}
use Rattle.std.proofs.lemmas.Result.{on_ok_weaker}
use Rattle.gix_mailmap.specs.Building.{IsMerged}
use Rattle.gix_mailmap.specs.Entries.{mapping_of}
use Rattle.mailmap_snapshot.proofs.Sources.{merged_all, yields_entries}
use Rattle.caller_promises.proofs.NormalLists.{either_way}
use Rattle.caller_promises.proofs.rebuilding.merge_copied.Goals as goal

pub returns : goal.returns
returns c =
    let old = c.args.snapshot.now in
    let new = c.merge.new.self in
    let entries = c.deref.result.now in
    let says : map mapping_of entries ≡ old =
    ap (map mapping_of) c.deref.ensures.value ∙ c.in_ok-entries.ensures.listing ∙ c.in_ok-copy.ensures in
    let own = rw c.in_ok-copy.ensures at c.in_ok-entries.ensures.own.own in
    let merged = merged_all (yields_entries (YieldsList-from_copied (YieldsList-from_slice entries (cc)))) c.merge.result old new c.merge.ensures.ok in
    either_way c.merge.result (new ≡ old)
    (on_ok_weaker c.merge.result (λ (m : IsMerged old (map mapping_of entries) new). c.law_unique.ensures _ new old (rw says at m.normal) (c.law_own_entries.ensures old old own)) merged)
    c.merge.ensures.err
