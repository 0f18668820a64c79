use Rattle.std.proofs.Common.{[], map, subst, sym, take}
use Rattle.gix_mailmap.specs.Building.{nothing}
use Rattle.gix_mailmap.specs.Semantics.{IsNormal}
use Rattle.caller_promises.specs.Suggested.{mappings_in}
use Rattle.caller_promises.proofs.Appending.{merged_more}
use Rattle.caller_promises.proofs.suggesting.merged.Goals as goal

pub loop-mailmap-init : goal.loop-mailmap-init
loop-mailmap-init c = rw c.empty-snapshot.ensures (c.law_headline.ensures [] [] nothing).normal

pub loop-mailmap-preserved : goal.loop-mailmap-preserved
loop-mailmap-preserved c =
    let all = c.args.mailmaps.now in
    let index = c.loop-mailmap.mailmap-index in
    subst (λ h. IsNormal h c.merge.new.snapshot) (sym (merged_more all index _ c.loop-mailmap-test.true))
    (c.in_ok-merge.ensures (mappings_in (map (λ b. b.now) (take index all))) c.loop-mailmap.invariant)
