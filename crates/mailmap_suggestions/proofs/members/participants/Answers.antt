use Rattle.std.proofs.Common.{◌∙◌, ap, filter, subst, sym, take_all}
use Rattle.std.proofs.lemmas.List.Elements.{Contains-get_or}
use Rattle.mailmap_suggestions.specs.Links.{takes_part}
use Rattle.mailmap_suggestions.specs.LinkViews.{AreRespelled, AreUnnamed, answer_in}
use Rattle.mailmap_suggestions.proofs.Participating.{filter_no, filter_yes}
use Rattle.mailmap_suggestions.proofs.members.participants.Goals as goal
use Rattle.mailmap_suggestions.proofs.members.participants.Goals.{then-takes_part+in_ok-push, else-takes_part}

pub loop-member-preserved : goal.loop-member-preserved
loop-member-preserved c = λ h ts are.
    let ms = c.args.members.now in
    let k = c.loop-member.member-index in
    let lt = c.loop-member-test.true in
    let here = c.takes_part.ensures h ts ms are
    (λ some. subst (λ l. AreUnnamed l c.in_ok-unnamed.unnamed) (c.those_apart-apart.ensures some) c.in_ok-unnamed.ensures)
    (λ some. subst (λ l. AreRespelled l c.in_ok-respelled.respelled) (c.those_apart-apart.ensures some) c.in_ok-respelled.ensures) (Contains-get_or ms k _ lt) in
    elim c.if-takes_part.branch [
      | then-takes_part+in_ok-push w ↦ ap (λ v. v.items) w.found-is
          ∙ filter_yes (λ m. takes_part c.args.shared.now h ts (answer_in m)) ms k _ c.loop-member.found.items w.push.new.self.items lt
          (c.loop-member.invariant h ts are) (sym here ∙ w.if-takes_part.true) w.in_ok-push.ensures.items
      | else-takes_part w ↦ ap (λ v. v.items) w.found-is
          ∙ filter_no (λ m. takes_part c.args.shared.now h ts (answer_in m)) ms k _ c.loop-member.found.items lt
          (c.loop-member.invariant h ts are) (sym here ∙ w.if-takes_part.false)
    ]

pub returns : goal.returns
returns c = λ h ts are. c.loop-member.invariant h ts are
    ∙ ap (filter (λ m. takes_part c.args.shared.now h ts (answer_in m))) (take_all c.loop-member.member-index c.args.members.now c.loop-member-test.false)
