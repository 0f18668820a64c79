use Rattle.std.proofs.Common.{rules, ◌≡◌, ap, map, subst, sym}
use Rattle.std.specs.Slice.Iter.{iter_rest}
use Rattle.mailmap_entries.specs.Texts.{texts}
use Rattle.mailmap_entries.proofs.Results.{if_ok_map}
use Rattle.mailmap_findings.specs.Positions.{whole_lines}
use Rattle.mailmap_findings.specs.Remarks.{AreRemarks}
use Rattle.mailmap_report.specs.Settings.{choices_of}
use Rattle.mailmap_suggestions.specs.ContactFindings.{AreContactFindings}
use Rattle.mailmap_suggestions.specs.FindingViews.{finding_view}
use Rattle.gix_mailmap_c.specs.Several.{IsReportBesideOf}
use Rattle.gix_mailmap_c.proofs.several.report_remarks.Goals as goal

pub returns : goal.returns
returns c = λ contacts unneeded about.
    let mailmaps = c.args.mailmaps.now in
    let remarks : AreRemarks mailmaps contacts c.new-2.result = c.new-2.ensures mailmaps contacts (search rules) unneeded in
    let found = map finding_view (iter_rest c.iter.result) in
    let shown : map finding_view c.args.findings.now ≡ found = sym (ap (map finding_view) c.iter.ensures.rest) in
    if_ok_map c.text_of.result _
    (λ text. IsReportBesideOf (choices_of c.args.settings.now) (texts c.args.names.now) mailmaps c.args.file.now contacts text.items)
    (λ text is. record {
      remarks = c.new-2.result;
      are_remarks = remarks;
      found = found;
      about = subst (AreContactFindings mailmaps (whole_lines contacts)) shown about;
      lines = is;
    }) c.text_of.ensures
