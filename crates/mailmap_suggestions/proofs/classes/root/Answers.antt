use Rattle.std.proofs.Common.{◌∙◌, ◌<◌, arith, length, set, get_or}
use Rattle.mailmap_suggestions.proofs.Forests.{halved, keeps_trans}
use Rattle.mailmap_suggestions.proofs.classes.root.Goals as goal

pub loop-parents-preserved : goal.loop-parents-preserved
loop-parents-preserved c =
    let p = c.loop-parents.parents in
    let at = c.loop-parents.at in
    let h = c.loop-parents.invariant in
    let more = halved p at h.0.forest h.1 in
    let below : at < length (set p at (get_or p (get_or p at 0) 0)) = omega (arith, more.length, h.1) in
    (keeps_trans c.args.parents.now p _ h.0 more, omega (arith, more.forest at below, below), λ f along. along at below ∙ h.2 f ((more.same f).0 along))
