use Rattle.std.proofs.Common.{rules, Bor, List, ℕ, map}
use Rattle.mailmap_entries.specs.Texts.{texts}
use Rattle.mailmap_entries.proofs.Results.{if_ok_map}
use Rattle.mailmap_findings.specs.Findings.{AreFindings}
use Rattle.mailmap_report.specs.Settings.{choices_of}
use Rattle.gix_mailmap_c.specs.Several.{IsReportOf}
use Rattle.gix_mailmap_c.proofs.several.report_in.Goals as goal

pub returns : goal.returns
returns c =
    let mailmaps = map (λ (b : Bor (List ℕ)). b.now) c.args.buffers.now in
    let whole : AreFindings mailmaps c.findings.result = search rules in
    if_ok_map c.text_of.result _ (λ text. IsReportOf (choices_of c.args.settings.now) (texts c.args.names.now) mailmaps text.items)
    (λ text is. record { found = c.findings.result; whole = whole; lines = is }) c.text_of.ensures
