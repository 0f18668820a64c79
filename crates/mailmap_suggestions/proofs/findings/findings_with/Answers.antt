use Rattle.std.proofs.Common.{◌≡◌, ◌∙◌, map, subst}
use Rattle.std.specs.Prelude.{IfOk}
use Rattle.mailmap_suggestions.specs.ContactFindings.{findings_about}
use Rattle.mailmap_suggestions.specs.FindingViews.{finding_view}
use Rattle.mailmap_suggestions.specs.Views.{suggestion_of}
use Rattle.mailmap_suggestions.proofs.findings.findings_with.Goals as goal

pub returns : goal.returns
returns c = λ lines are.
    let found = map suggestion_of c.args.suggestions.now in
    subst (λ h. IfOk c.findings_about.result (λ made. map finding_view made.items ≡ findings_about found h lines))
    (c.in_ok-answers.ensures ∙ c.in_ok-histories.ensures) (c.findings_about.ensures lines are)
