use Rattle.std.proofs.Common.{◌<◌, arith, length, max, set, subst, sym}
use Rattle.mailmap_suggestions.specs.Forests.{Joins}
use Rattle.mailmap_suggestions.proofs.Forests.{joins_max, joins_roots}
use Rattle.mailmap_suggestions.proofs.classes.join.Goals as goal

pub returns : goal.returns
returns c =
    let first = c.root-first in
    let second = c.root-second in
    let q = first.new.parents in
    let r = second.new.parents in
    let x = first.result in
    let y = second.result in
    let below : x < length r = omega (arith, second.ensures.keeps.length, first.ensures.below) in
    joins_roots c.args.parents.now q r (set r c.max.result c.min.result) c.args.a c.args.b x y first.ensures.keeps second.ensures.keeps first.ensures.same second.ensures.same
    (subst (λ k. Joins r x y (set r k c.min.result)) (sym c.max.ensures) (subst (λ k. Joins r x y (set r (max x y) k)) (sym c.min.ensures)
    (joins_max r x y second.ensures.keeps.forest below second.ensures.below (second.ensures.keeps.roots x first.ensures.root) second.ensures.root)))
