use Rattle.std.proofs.Common.{◌∙◌, ◌++◌, List, ℕ, ap, map}
use Rattle.mailmap_contacts.specs.Answers.{tally_of}
use Rattle.mailmap_contacts.specs.Contacts.{Tally, answered, contacts_from, no_contacts_from, tallied}
use Rattle.mailmap_suggestions.specs.ContactFindings.{git_answers, no_contact}
use Rattle.mailmap_suggestions.specs.FindingViews.{finding_view}
use Rattle.mailmap_suggestions.specs.GitContacts.{git_answers_otherwise}
use Rattle.mailmap_suggestions.specs.Views.{suggestion_of}
use Rattle.mailmap_suggestions.proofs.Seeing.{all_found}
use Rattle.mailmap_suggestions.proofs.findings.findings_among.Goals as goal

pub returns : goal.returns
returns c = λ lines are same.
    let h = c.args.answers.now in
    let ts = tallied (contacts_from 1 lines) in
    let seen_now = map (answered h.ours) ts in
    let found = map suggestion_of c.args.suggestions.now in
    let nobodies = map no_contact (no_contacts_from 1 lines) in
    let gits = map git_answers (git_answers_otherwise h lines) in
    let none = c.in_ok-push_no_contacts.ensures
    ∙ ap (λ (l : List ℕ). map finding_view c.new-findings.result.items ++ map no_contact l) (c.lines_without_contact.ensures ∙ are.lines_without_contact) in
    let others = ap (map tally_of) c.deref.ensures.value ∙ c.in_ok-answers_otherwise.ensures lines are in
    let last = c.in_ok-push_git_answers.ensures
    ∙ ap (λ (l : List Tally). map finding_view c.push_groups.new.findings.items ++ map git_answers l) others in
    all_found c.args.seen.now seen_now same found _ _ _ _ nobodies gits (ap (map finding_view) c.new-findings.ensures.items) none c.in_ok-push_groups.ensures last
