use Rattle.std.proofs.Common.{◌∙◌, List, ℕ, Vec, Global, ap, map}
use Rattle.std.proofs.lemmas.Result.{on_ok_weaker}
use Rattle.mailmap_report.specs.Report.{contact_notice, remark_notice}
use Rattle.mailmap_suggestions.specs.FindingViews.{finding_view}
use Rattle.gix_mailmap_c.specs.Notices.{no_words, with_notices}
use Rattle.gix_mailmap_c.proofs.Noticed.{notices_append}
use Rattle.gix_mailmap_c.proofs.notices.push_all.Goals as goal

pub returns : goal.returns
returns c = λ contacts unneeded about empty.
    let items : Vec ℕ Global → List ℕ = λ name. name.items in
    let pushed = c.in_ok-push_lines.ensures contacts unneeded in
    let remarks = pushed.0 in
    let found = map finding_view c.args.findings.now in
    let ours = map (remark_notice (map items c.args.names.now)) remarks in
    let theirs = map (contact_notice c.args.file.now) found in
    on_ok_weaker c.push_contact_findings.result (λ words. record {
      remarks = remarks;
      are_remarks = pushed.1;
      found = found;
      about = about;
      words = words ∙ ap (λ w. with_notices w theirs) (pushed.2 ∙ ap (λ w. with_notices w ours) empty)
          ∙ notices_append no_words ours theirs;
    }) c.push_contact_findings.ensures
