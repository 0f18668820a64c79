use Rattle.std.proofs.Common.{◌≡◌, ◌∙◌, ap, map, subst, sym}
use Rattle.std.proofs.lemmas.Result.{IfOk-weaker}
use Rattle.mailmap_contacts.specs.Answers.{tally_of}
use Rattle.mailmap_suggestions.specs.Links.{login_marks}
use Rattle.mailmap_suggestions.specs.LinkViews.{AreMembers}
use Rattle.mailmap_suggestions.specs.Private.{tallies_in}
use Rattle.mailmap_suggestions.specs.Stages.{AreByLogin, stage}
use Rattle.mailmap_suggestions.specs.Suggestions.{login_kind, stage_suggestions}
use Rattle.mailmap_suggestions.specs.Views.{suggestion_of}
use Rattle.mailmap_suggestions.proofs.suggestions.suggest_by_login.Goals as goal

pub groups_by_links-requires : goal.groups_by_links-requires
groups_by_links-requires c =
    let shared = c.args.shared.now in
    let h = c.args.answers.now in
    let ts = map tally_of c.args.contacts.now in
    let are = subst (AreMembers h ts) (sym c.as_slice-members.ensures.value) c.in_ok-all.ensures in
    let participants = c.as_slice-participants.ensures.value ∙ c.in_ok-taking_part.ensures h ts are in
    record { members = are; links = (login_marks shared h ts, (c.in_ok-keys.ensures h ts are participants).1) }

pub returns : goal.returns
returns c =
    let shared = c.args.shared.now in
    let h = c.args.answers.now in
    let ts = map tally_of c.args.contacts.now in
    let are = subst (AreMembers h ts) (sym c.as_slice-members.ensures.value) c.in_ok-all.ensures in
    let participants = c.as_slice-participants.ensures.value ∙ c.in_ok-taking_part.ensures h ts are in
    let read = c.in_ok-keys.ensures h ts are participants in
    let by = c.in_ok-groups.ensures (login_marks shared h ts) read.1 in
    IfOk-weaker c.suggest_for_each.result (λ found. map suggestion_of found.items ≡ stage_suggestions (login_kind shared h ts) (stage shared ts c.args.base.now h by.0))
    (λ found. AreByLogin shared ts c.args.base.now h (map suggestion_of found.items))
    (λ found is. (by.0, by.1, is)) (c.suggest_for_each.ensures ts by.0 read.0 (ap (map tallies_in) c.deref.ensures.value ∙ by.2))
