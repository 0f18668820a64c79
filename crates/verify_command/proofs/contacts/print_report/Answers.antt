use Rattle.std.proofs.Common.{List, ℕ, Bor, map, subst, sym, true}
use Rattle.mailmap_contacts.specs.Counts.{AreContactsOf}
use Rattle.mailmap_findings.specs.Needs.{AreUnneeded}
use Rattle.mailmap_findings.specs.Positions.{whole_lines}
use Rattle.mailmap_findings.proofs.WholeLines.{lines-whole}
use Rattle.mailmap_suggestions.specs.ContactFindings.{AreContactFindings}
use Rattle.mailmap_suggestions.specs.FindingViews.{finding_view}
use Rattle.verify_command.specs.Task.{IsReportBeside, Leaves, wanted_of}
use Rattle.verify_command.proofs.contacts.print_report.Goals as goal

pub returns-clause-leaves : goal.returns-clause-leaves
returns-clause-leaves g c = λ taken counted.
    let lines = whole_lines taken in
    let are = subst (λ ls. AreContactsOf ls c.args.counted.now) (lines-whole taken) counted in
    let mailmaps = c.in_ok-mailmaps.mailmaps in
    let unneeded = subst (AreUnneeded mailmaps taken) (sym c.as_slice.ensures.value) (c.in_ok-unneeded.ensures taken are) in
    let about = subst (λ ms. AreContactFindings ms lines (map finding_view c.as_slice-2.result.now)) (sym c.in_ok-mailmaps.ensures)
    (subst (λ fs. AreContactFindings (map (λ (b : Bor (List ℕ)). b.now) c.args.buffers.now) lines (map finding_view fs)) (sym c.as_slice-2.ensures.value) (c.in_ok-findings.ensures lines are)) in
    subst (λ ms. Leaves true (IsReportBeside (wanted_of c.args.request.now) ms taken) g.W.Write.contents c.args.output.now c.print_remarks.new.output c.print_remarks.result) c.in_ok-mailmaps.ensures
    (c.print_remarks.ensures.leaves taken unneeded about)
