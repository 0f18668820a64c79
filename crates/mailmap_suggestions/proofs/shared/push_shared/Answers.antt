use Rattle.std.proofs.Common.{◌≡◌, ◌∙◌, ◌++◌, ap, append-nil, flat_map, map, sym}
use Rattle.std.proofs.lemmas.List.{drop_all}
use Rattle.mailmap_contacts.specs.Answers.{tally_of}
use Rattle.mailmap_suggestions.specs.GroupEntries.{contacts}
use Rattle.mailmap_suggestions.specs.Private.{contacts_of, tallies_in}
use Rattle.mailmap_suggestions.specs.Shared as spec
use Rattle.mailmap_suggestions.specs.SharedViews.{folded_texts, several_email}
use Rattle.mailmap_suggestions.proofs.Strangers.{groups_found}
use Rattle.mailmap_suggestions.proofs.shared.push_shared.Goals as goal

pub returns : goal.returns
returns c =
    let groups = c.deref-group-items.result.now in
    let new = folded_texts c.loop-group.shared.items in
    let answers = contacts_of c.as_slice.result.now in
    let are : answers ≡ spec.answers_with_email c.args.history.now (map tally_of c.args.contacts.now) = ap contacts_of c.as_slice.ensures.value ∙ c.in_ok-answers.ensures
    ∙ ap (λ h. spec.answers_with_email h (map tally_of c.args.contacts.now)) c.in_ok-entries.ensures in
    sym (append-nil new) ∙ ap (λ l. new ++ flat_map several_email (map (λ g. contacts (tallies_in g)) l)) (sym (drop_all c.loop-group.group-index groups c.loop-group-test.false))
    ∙ c.loop-group.invariant
    ∙ ap (λ l. folded_texts c.args.shared.now.items ++ l) (groups_found answers (map (λ g. contacts (tallies_in g)) groups)
    (ap (map (λ g. contacts (tallies_in g))) c.deref-group-items.ensures.value ∙ c.in_ok-groups.ensures.whole) ∙ ap spec.emails_of_several are)
