use Rattle.std.proofs.Common.{◌≡◌, ◌∙◌, List, ap, map, subst}
use Rattle.mailmap_contacts.specs.Answers.{tally_of}
use Rattle.mailmap_contacts.specs.Contacts.{Tally, answered, contacts_from, tallied}
use Rattle.mailmap_contacts.specs.Counts.{SameTallies}
use Rattle.mailmap_suggestions.proofs.findings.findings_about.Goals as goal

pub returns : goal.returns
returns c = λ lines are.
    let h = c.args.answers.now in
    let listed = c.in_ok-tallies.ensures lines are in
    let counted : map (answered h.ours) (map tally_of c.deref.result.now) ≡ map (answered h.ours) (tallied (contacts_from 1 lines)) =
    ap (map (answered h.ours)) (ap (map tally_of) c.deref.ensures.value ∙ listed) in
    let same = subst (λ (us : List Tally). SameTallies c.in_ok-seen.seen us) counted c.in_ok-seen.ensures in
    c.findings_among.ensures lines are same
