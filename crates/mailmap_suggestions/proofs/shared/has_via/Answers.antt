use Rattle.std.proofs.Common.{◌≡◌, ◌∙◌, ◌<◌, ap, arith, drop, false, length, sym}
use Rattle.std.proofs.lemmas.List.{take_rest}
use Rattle.mailmap_suggestions.specs.Shared.{begins_with_via}
use Rattle.mailmap_suggestions.proofs.Strangers.{via_more}
use Rattle.mailmap_suggestions.proofs.shared.has_via.Goals as goal

pub loop-start-preserved : goal.loop-start-preserved
loop-start-preserved c =
    let start = c.loop-start.start in
    let lt : start < length c.args.name.now = omega arith in
    let none : begins_with_via (drop start c.args.name.now) ≡ false = ap begins_with_via (sym (take_rest c.args.name.now start)) ∙ sym c.begins_with_via.ensures ∙ c.if-begins_with_via.false in
    sym (via_more c.args.name.now start lt none) ∙ c.loop-start.invariant
