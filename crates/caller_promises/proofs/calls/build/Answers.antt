use Rattle.std.proofs.Common.{[], arith, sym, take, take_all}
use Rattle.std.specs.List.{flat_map}
use Rattle.std.proofs.lemmas.List.{flat_map_more, take_more}
use Rattle.gix_mailmap.specs.Building.{merged, nothing}
use Rattle.gix_mailmap.specs.Sources.{IsMarked, merged_mappings}
use Rattle.caller_promises.specs.Calls.{sources_of}
use Rattle.caller_promises.proofs.calls.build.Goals as goal

pub loop-call-init : goal.loop-call-init
unfolding merged_mappings
loop-call-init c =
    let start : IsMarked [] [] [] [] = record { normal = (c.law_headline.ensures [] [] nothing).normal; marks = tt } in
    rw (c.new-made.ensures.items, c.empty-snapshot.ensures) start

pub loop-call-preserved : goal.loop-call-preserved
loop-call-preserved c =
    let calls = c.args.calls.now in
    let k = c.loop-call.call-index in
    let call = c.call-item.result in
    rw (take_more calls k call c.loop-call-test.true, sym c.call-item.is, sym (flat_map_more sources_of [] (take k calls) call))
    (c.in_ok-make.ensures (flat_map sources_of (take k calls)) c.loop-call.invariant)

pub returns : goal.returns
returns c =
    let done = rw (take_all c.loop-call.call-index c.args.calls.now (omega arith)) at c.loop-call.invariant in
    record { headline = c.law_headline.ensures _ _ (merged [] [] _ _ nothing done.normal); marks = done.marks }
