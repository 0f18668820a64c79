use Rattle.std.proofs.Common.{◌∙◌, List, ap, map, subst, sym}
use Rattle.mailmap_contacts.specs.Answers.{tally_of}
use Rattle.mailmap_contacts.specs.Contacts.{Tally}
use Rattle.mailmap_suggestions.specs.LinkViews.{AreWhole}
use Rattle.mailmap_suggestions.specs.Private.{tallies_in}
use Rattle.mailmap_suggestions.specs.Stages.{kind_by}
use Rattle.mailmap_suggestions.specs.Suggestions.{Suggestion, suggestion}
use Rattle.mailmap_suggestions.specs.Views.{suggestion_of}
use Rattle.mailmap_suggestions.proofs.Grouping.{each_whole}
use Rattle.mailmap_suggestions.proofs.Suggested.{all_pushed, one_pushed}
use Rattle.mailmap_suggestions.proofs.suggestions.suggest_for_each.Goals as goal

pub loop-group-preserved : goal.loop-group-preserved
loop-group-preserved c = λ ts class keys are.
    let shared = c.args.shared.now in
    let h = c.args.answers.now in
    let g = map tally_of c.as_slice-group.result.now in
    let made = suggestion shared c.args.base.now h in
    let of : List Tally → Suggestion = λ g. made (kind_by c.args.common.now shared h ts g) g in
    let all = each_whole class h ts c.args.grouped.now are in
    let whole = subst (λ g. AreWhole h ts (tallies_in g)) (sym c.group-item.is) (all c.loop-group.group-index c.group-item.result c.loop-group-test.true) in
    let kind = c.in_ok-kind.ensures ts keys (subst (λ l. AreWhole h ts (map tally_of l)) (sym c.as_slice-group.ensures.value) whole) in
    one_pushed suggestion_of (λ g. of (tallies_in g)) c.loop-group.found.items _ c.in_ok-suggestion.suggestion c.args.grouped.now c.loop-group.group-index c.group-item.result
    c.in_ok-push.ensures.items (c.loop-group.invariant ts class keys are)
    (c.in_ok-suggestion.ensures ∙ ap (λ k. made k g) kind ∙ ap (λ l. of (map tally_of l)) c.as_slice-group.ensures.value ∙ ap (λ v. of (tallies_in v)) c.group-item.is) c.loop-group-test.true

pub returns : goal.returns
returns c = λ ts class keys are.
    let shared = c.args.shared.now in
    let h = c.args.answers.now in
    let of : List Tally → Suggestion = λ g. suggestion shared c.args.base.now h (kind_by c.args.common.now shared h ts g) g in
    all_pushed suggestion_of tallies_in of c.loop-group.found.items c.args.grouped.now c.loop-group.group-index _ (c.loop-group.invariant ts class keys are) c.loop-group-test.false are
