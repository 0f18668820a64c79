use Rattle.std.proofs.Common.{◌≡◌, ap, map, ◌∙◌}
use Rattle.std.proofs.lemmas.Iterator.{YieldsList-from_slice}
use Rattle.std.proofs.lemmas.Iterator.Consumers.{YieldsList-from_copied}
use Rattle.std.proofs.lemmas.Result.{IfOk-weaker}
use Rattle.gix_mailmap.specs.Entries.{mapping_of}
use Rattle.mailmap_snapshot.proofs.Sources.{normal_all, yields_entries}
use Rattle.caller_promises.proofs.rebuilding.rebuilt.Goals as goal

pub returns : goal.returns
returns c =
    let listed = c.args.snapshot.now in
    let entries = c.deref.result.now in
    let says : map mapping_of entries ≡ listed = ap (map mapping_of) c.deref.ensures.value ∙ c.in_ok-entries.ensures.listing in
    IfOk-weaker c.new.result _ (λ again. again ≡ listed) (λ again d. c.law_unique.ensures listed again listed (rw says at d) c.in_ok-entries.ensures.own.own)
    (normal_all (yields_entries (YieldsList-from_copied (YieldsList-from_slice entries (cc)))) c.new.result c.new.ensures.ok)
