use Rattle.std.proofs.Common.{◌∙◌, ap, filter, not, option_to_list}
use Rattle.std.specs.List.{list_any}
use Rattle.mailmap_findings.specs.Positions.{same_position}
use Rattle.mailmap_findings.specs.Needs.{needs}
use Rattle.mailmap_findings.proofs.ContactNeeds.{removed_both}
use Rattle.mailmap_findings.proofs.needs.Needs.add_contact.Goals as goal

pub returns-clause-left : goal.returns-clause-left
returns-clause-left c =
    let ps = c.self.inside.left.keys in
    let first = option_to_list c.needs-needed.result.first in
    let second = option_to_list c.needs-needed.result.second in
    c.remove-2.ensures ∙ ap (filter (λ p. not (list_any (same_position p) second))) c.remove.ensures
    ∙ removed_both ps first second
    ∙ ap (λ qs. filter (λ p. not (list_any (same_position p) qs)) ps) c.needs-needed.ensures.positions
    ∙ ap (λ s. filter (λ p. not (needs s.kept c.args.name.now c.args.email.now p)) s.left) c.self.view_is
