use Rattle.std.proofs.Common.{◌<◌, length, subst, sym, arith}
use Rattle.mailmap_redundancy.specs.Summaries.{IsNumbered}
use Rattle.mailmap_redundancy.proofs.Rows.{located_mappings_more}
use Rattle.mailmap_redundancy.proofs.table.Table.of.Goals as goal

pub loop-x-preserved : goal.loop-x-preserved
loop-x-preserved c =
    let all = c.args.entries.now in
    let x = c.x-item.result in
    let within : c.loop-x.x-index < length all = omega arith in
    let n = subst (IsNumbered c.args.keys.now) (sym c.x-item.is) (c.requires.numbered _ x within) in
    rw (located_mappings_more all _ x within c.x-item.is) (c.append.ensures _ _ c.requires.ascending n c.loop-x.invariant)
