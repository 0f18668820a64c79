use Rattle.std.proofs.Common.{◌∙◌, ◌<◌, arith, length, subst, sym, true}
use Rattle.std.proofs.lemmas.List.{length-set}
use Rattle.mailmap_suggestions.specs.declared.classes.Link.{Link}
use Rattle.mailmap_suggestions.proofs.Classed.{linked_more}
use Rattle.mailmap_suggestions.proofs.links.linked.Goals as goal

pub loop-link-preserved : goal.loop-link-preserved
loop-link-preserved c =
    let links = c.args.links.now in
    let found = c.loop-link.linked.items in
    let k = c.loop-link.link-index in
    let l = c.link-item.result in
    let long = c.loop-link.invariant.0 in
    let within : k < length links = omega arith in
    let item : l.item < c.args.count = subst (λ (x : Link). x.item < c.args.count) (sym c.link-item.is) (c.requires k l within) in
    let below : l.item < length found = omega (arith, long, item) in (
      length-set found l.item true ∙ long,
      λ i lt. linked_more found links k l within c.link-item.is below (λ i lt. c.loop-link.invariant.1 i (omega (arith, long, lt))) i (omega (arith, long, lt)),
    )
