use Rattle.std.proofs.Common.{List, ℕ, Bor, map, subst, sym}
use Rattle.std.specs.Prelude.{IfOk}
use Rattle.mailmap_entries.specs.Texts.{texts}
use Rattle.mailmap_findings.specs.Needs.{AreUnneeded}
use Rattle.mailmap_findings.specs.Positions.{whole_lines}
use Rattle.mailmap_report.specs.Settings.{choices_of}
use Rattle.mailmap_suggestions.specs.ContactFindings.{AreContactFindings}
use Rattle.mailmap_suggestions.specs.FindingViews.{finding_view}
use Rattle.gix_mailmap_c.specs.Several.{IsReportBesideOf}
use Rattle.gix_mailmap_c.proofs.several.report_counted.Goals as goal

pub returns : goal.returns
returns c = λ contacts are.
    let lines = whole_lines contacts in
    let mailmaps = c.in_ok-mailmaps.mailmaps in
    let unneeded = subst (AreUnneeded mailmaps contacts) (sym c.as_slice-unneeded.ensures.value) (c.in_ok-unneeded.ensures contacts are) in
    let about = subst (λ ms. AreContactFindings ms lines (map finding_view c.as_slice-findings.result.now)) (sym c.in_ok-mailmaps.ensures)
    (subst (λ fs. AreContactFindings (map (λ (b : Bor (List ℕ)). b.now) c.args.buffers.now) lines (map finding_view fs)) (sym c.as_slice-findings.ensures.value) (c.in_ok-findings.ensures lines are)) in
    subst (λ ms. IfOk c.report_remarks.result (λ text. IsReportBesideOf (choices_of c.args.settings.now) (texts c.args.names.now) ms c.args.file.now contacts text.items)) c.in_ok-mailmaps.ensures
    (c.report_remarks.ensures contacts unneeded about)
