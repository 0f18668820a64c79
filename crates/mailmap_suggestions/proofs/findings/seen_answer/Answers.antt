use Rattle.std.proofs.Common.{rules, ◌∙◌, ap}
use Rattle.std.specs.Option.{option_map}
use Rattle.mailmap_contacts.specs.declared.occurrences.Occurrences.{Occurrences}
use Rattle.mailmap_contacts.specs.Answers.{answer_key, tally_of}
use Rattle.mailmap_contacts.specs.Contacts.{Tally, same_contact, seen_where}
use Rattle.mailmap_suggestions.proofs.Seeing.{looked_up}
use Rattle.mailmap_suggestions.proofs.findings.seen_answer.Goals as goal

pub returns-in_err-seen : goal.returns-in_err-seen
returns-in_err-seen c =
    let a = c.args.answer.now in
    let found = c.in_err-seen.ensures.value ∙ looked_up answer_key (a.name, a.email) c.seen.inside.by_answer.entries c.seen.invariant in
    search (rules, found)

pub returns : goal.returns
returns c =
    let a = c.args.answer.now in
    let answer = (tally_of a).contact in
    let with_seen : Occurrences → Tally = λ s. record { contact = answer; seen = s } in
    ap (option_map with_seen) (c.in_ok-seen.ensures.value ∙ looked_up answer_key (a.name, a.email) c.seen.inside.by_answer.entries c.seen.invariant
    ∙ ap (seen_where (same_contact answer)) c.seen.view_is)
