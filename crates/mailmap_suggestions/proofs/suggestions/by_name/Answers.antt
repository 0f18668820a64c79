use Rattle.std.proofs.Common.{◌≡◌, ◌∙◌, ap, flat_map, map, subst, sym}
use Rattle.std.proofs.lemmas.Result.{IfOk-weaker}
use Rattle.mailmap_contacts.specs.Answers.{tally_of}
use Rattle.mailmap_suggestions.specs.Links.{name_marks}
use Rattle.mailmap_suggestions.specs.LinkViews.{AreLinksOf, AreMembers, name_links_of}
use Rattle.mailmap_suggestions.specs.Private.{tallies_in}
use Rattle.mailmap_suggestions.specs.Stages.{AreByName, stage}
use Rattle.mailmap_suggestions.specs.Suggestions.{name_kind, stage_suggestions}
use Rattle.mailmap_suggestions.specs.Views.{suggestion_of}
use Rattle.mailmap_suggestions.proofs.NameLinks.{name_links_are_links}
use Rattle.mailmap_suggestions.proofs.suggestions.by_name.Goals as goal

pub groups_by_links-requires : goal.groups_by_links-requires
groups_by_links-requires c =
    let shared = c.args.shared.now in
    let h = c.args.answers.now in
    let ts = map tally_of c.args.contacts.now in
    let ms = c.as_slice-members.result.now in
    let are = subst (AreMembers h ts) (sym c.as_slice-members.ensures.value) c.in_ok-all.ensures in
    let links = subst (AreLinksOf (name_marks shared h ts) ms) (sym (c.in_ok-links.ensures ∙ ap (flat_map name_links_of) c.as_slice.ensures.value))
    (name_links_are_links shared h ts ms c.in_ok-participants.participants.items are (c.in_ok-participants.ensures h ts are)) in
    record { members = are; links = (name_marks shared h ts, links) }

pub returns : goal.returns
returns c =
    let shared = c.args.shared.now in
    let h = c.args.answers.now in
    let ts = map tally_of c.args.contacts.now in
    let ms = c.as_slice-members.result.now in
    let are = subst (AreMembers h ts) (sym c.as_slice-members.ensures.value) c.in_ok-all.ensures in
    let links = subst (AreLinksOf (name_marks shared h ts) ms) (sym (c.in_ok-links.ensures ∙ ap (flat_map name_links_of) c.as_slice.ensures.value))
    (name_links_are_links shared h ts ms c.in_ok-participants.participants.items are (c.in_ok-participants.ensures h ts are)) in
    let by = c.in_ok-groups.ensures (name_marks shared h ts) links in
    IfOk-weaker c.suggest_for_each.result (λ found. map suggestion_of found.items ≡ stage_suggestions (name_kind h) (stage shared ts h h by.0))
    (λ found. AreByName shared ts h (map suggestion_of found.items))
    (λ found is. (by.0, by.1, is)) (c.suggest_for_each.ensures ts by.0 tt (ap (map tallies_in) c.deref.ensures.value ∙ by.2))
