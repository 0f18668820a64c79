use Rattle.std.proofs.Common.{◌≡◌, ◌∙◌, ◌++◌, ap, map, subst, sym}
use Rattle.bstr.specs.Text.{lines_of}
use Rattle.gix_mailmap.specs.Positions.{whole_lines}
use Rattle.gix_mailmap.specs.CountedContacts.{answer_to}
use Rattle.gix_mailmap.specs.Printed.{IsSuggested}
use Rattle.caller_promises.specs.Suggested.{UnitesAppended, contact_in, contacts_in, mappings_in, with_last}
use Rattle.caller_promises.proofs.suggesting.suggest_and_answer.Goals as goal

pub returns-clause-text : goal.returns-clause-text
returns-clause-text c = subst (λ b. IsSuggested b (lines_of c.args.contacts.now) c.in_ok-text.text.items) (ap (map (λ b. b.now)) c.as_slice.ensures.value ∙ c.in_ok-mailmaps.ensures)
    (c.in_ok-text.ensures (lines_of c.args.contacts.now) c.in_ok-counted.ensures)

pub returns-clause-united : goal.returns-clause-united
returns-clause-united c = λ read no_zero.
    let others = map (λ b. b.now) c.args.others.now in
    let last = c.args.last.now in
    let contacts = c.args.contacts.now in
    let printed = subst (λ lines. IsSuggested (with_last others last) lines c.in_ok-text.text.items) (c.law_whole_lines.ensures.lines contacts) (returns-clause-text c) in
    let appended = subst (λ t. IsSuggested (with_last others last) (whole_lines contacts) t) (sym c.deref.ensures.value) printed in
    subst (λ t. UnitesAppended others last t contacts) c.deref.ensures.value (c.in_ok-answers.ensures.united appended read no_zero)

pub returns-clause-answers : goal.returns-clause-answers
returns-clause-answers c = subst (λ t. map contact_in c.in_ok-answers.answers.items
    ≡ map (λ u. answer_to (mappings_in (with_last (map (λ b. b.now) c.args.others.now) (c.args.last.now ++ t))) u.contact) (contacts_in c.args.contacts.now)) c.deref.ensures.value
    c.in_ok-answers.ensures.answers
