use Rattle.std.proofs.Common.{◌∙◌, ap, filter, not}
use Rattle.mailmap_entries.proofs.Results.{if_ok_map}
use Rattle.mailmap_findings.specs.Needs.{AreUnneeded, any_needs}
use Rattle.mailmap_findings.specs.Positions.{whole_lines}
use Rattle.mailmap_suggestions.proofs.unneeded.unneeded_by.Goals as goal

pub returns : goal.returns
returns c = λ text are.
    let lines = whole_lines text in
    let kept = c.in_ok-needs.needs.kept in
    let begun = c.in_ok-needs.ensures in
    if_ok_map c.unneeded.result _ (λ found. AreUnneeded c.args.mailmaps.now text found.items)
    (λ found is. record {
      kept = kept;
      effective = begun.effective;
      whole = is ∙ c.add_to_needs.ensures.left lines are ∙ ap (filter (λ p. not (any_needs kept lines p))) begun.left;
    }) c.unneeded.ensures
