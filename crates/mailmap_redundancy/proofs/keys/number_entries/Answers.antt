use Rattle.std.proofs.Common.{map, refl, subst, sym, arith}
use Rattle.mailmap_batches.specs.Batches.{IsSorted, indexed_mapping}
use Rattle.mailmap_redundancy.proofs.Numbered.{all_numbered, none_walked, reached, row_within, entry_mappings, walked}
use Rattle.mailmap_redundancy.proofs.keys.number_entries.Goals as goal

pub loop-at-init : goal.loop-at-init
loop-at-init c = none_walked _ _ _ _ c.in_ok-with_capacity.ensures.items c.requires.located
    (subst (λ l. IsSorted (entry_mappings c.args.entries.now) (map indexed_mapping l)) (sym c.deref-at-items.ensures.value)
    c.in_ok-order.ensures)

pub add-requires-clause-up : goal.add-requires-clause-up
add-requires-clause-up c = reached _ _ _ _ _ _ c.loop-at.invariant _ (omega (arith, c.loop-at-test.true)) c.at-item.is

pub bounds-rows-at : goal.bounds-rows-at
bounds-rows-at c = row_within _ _ _ _ _ _ c.loop-at.invariant _ (omega (arith, c.loop-at-test.true)) c.at-item.is

pub offset_bounds-rows-at : goal.offset_bounds-rows-at
offset_bounds-rows-at c =
    let within = row_within _ _ _ _ _ _ c.loop-at.invariant _ (omega (arith, c.loop-at-test.true)) c.at-item.is in
    omega arith

pub loop-at-preserved : goal.loop-at-preserved
loop-at-preserved c =
    let added = c.in_ok-add.ensures in
    walked _ _ _ _ _ _ c.loop-at.invariant _ (omega (arith, c.loop-at-test.true)) c.at-item.is _ _ _ c.index-rows-at.result
    added.ascending added.last added.keeps refl (omega (arith, c.len.ensures)) refl

pub returns-clause-numbered : goal.returns-clause-numbered
returns-clause-numbered c =
    all_numbered _ _ _ _ _ _ c.loop-at.invariant (omega (arith, c.loop-at-test.false)) c.requires.accepted
