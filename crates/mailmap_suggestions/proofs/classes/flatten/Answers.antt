use Rattle.std.proofs.Common.{◌<◌, arith, length}
use Rattle.mailmap_suggestions.proofs.Forests.{flat_more, halved, keeps_trans}
use Rattle.mailmap_suggestions.proofs.classes.flatten.Goals as goal

pub loop-item-preserved : goal.loop-item-preserved
loop-item-preserved c =
    let p = c.loop-item.parents in
    let item = c.loop-item.item in
    let h = c.loop-item.invariant in
    let below : item < length p = omega arith in
    (keeps_trans c.args.parents.now p _ h.0 (halved p item h.0.forest below), flat_more p item h.0.forest below h.1)
