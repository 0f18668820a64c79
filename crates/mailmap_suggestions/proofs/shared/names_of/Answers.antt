use Rattle.std.proofs.Common.{◌∙◌, ap, map, subst, sym, take, take_all}
use Rattle.std.specs.BTreeMap.{is_at}
use Rattle.std.specs.Cmp.Lexicographic.{slice_cmp}
use Rattle.std.specs.List.{list_any}
use Rattle.std.specs.Ordering.{nat_cmp}
use Rattle.mailmap_suggestions.specs.Forms.{distinct}
use Rattle.mailmap_suggestions.specs.Private.{contacts_of}
use Rattle.mailmap_suggestions.specs.SharedViews.{AreDistinct}
use Rattle.mailmap_suggestions.proofs.Strangers.{names_more}
use Rattle.mailmap_suggestions.proofs.shared.names_of.Goals as goal

pub loop-answer-init : goal.loop-answer-init
loop-answer-init c = record {
  all = λ name. ap (list_any (is_at (λ b. slice_cmp nat_cmp name.now b.now))) c.new-seen.ensures.empty;
  once = ap (map (λ n. n.now)) c.new-names.ensures.items;
}

pub loop-answer-preserved : goal.loop-answer-preserved
loop-answer-preserved c =
    let group = c.args.group.now in
    let k = c.loop-answer.answer-index in
    subst (λ l. AreDistinct l c.push_unseen.new.seen c.push_unseen.new.names.items) (sym (names_more group k _ c.loop-answer-test.true))
    (c.in_ok-push_unseen.ensures (map (λ c. c.name) (contacts_of (take k group))) c.loop-answer.invariant)

pub returns : goal.returns
returns c = c.loop-answer.invariant.once ∙ ap (λ l. distinct (map (λ c. c.name) (contacts_of l))) (take_all c.loop-answer.answer-index c.args.group.now c.loop-answer-test.false)
