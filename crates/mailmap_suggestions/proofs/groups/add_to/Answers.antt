use Rattle.std.proofs.Common.{◌∙◌, ◌++◌, ◌∷◌, [], ap, arith}
use Rattle.mailmap_suggestions.proofs.Numbered.{added, added_last}
use Rattle.mailmap_suggestions.proofs.groups.add_to.Goals as goal
use Rattle.mailmap_suggestions.proofs.groups.add_to.Goals.{then-number-len+in_ok-with_capacity+in_ok-push, else-number-len}

pub returns : goal.returns
returns c =
    let old = c.args.groups.now.items in
    let groups = c.if-number-len.groups.items in
    let t = c.args.contact.now in
    let is = c.in_ok-push-2.ensures.items ∙ ap (λ g. g.items ++ t ∷ []) c.index_mut.ensures.value in
    elim c.if-number-len.branch [
      | then-number-len+in_ok-with_capacity+in_ok-push w ↦ added_last old groups w.in_ok-with_capacity.field-0 c.push-2.new.self c.index_mut.result.now t c.args.number
          (w.if-number-len.true ∙ c.len.ensures ∙ c.args.groups.now.ok.0) (ap (λ v. v.items) w.groups-is ∙ w.in_ok-push.ensures.items) w.in_ok-with_capacity.ensures.items is
      | else-number-len w ↦ added old groups c.push-2.new.self c.index_mut.result.now t c.args.number
          (omega (arith, c.requires, c.len.ensures, c.args.groups.now.ok.0, w.if-number-len.false)) (ap (λ v. v.items) w.groups-is) is
    ]
