use Rattle.std.proofs.Common.{rules, ◌∙◌, Bor, Global, List, Vec, ℕ, ap, map}
use Rattle.std.proofs.lemmas.Result.{on_ok_weaker}
use Rattle.mailmap_findings.specs.Findings.{AreFindings}
use Rattle.mailmap_report.specs.Report.{finding_notice}
use Rattle.gix_mailmap_c.specs.Notices.{with_notices}
use Rattle.gix_mailmap_c.proofs.notices.push_found.Goals as goal

pub returns : goal.returns
returns c = λ empty.
    let items : Vec ℕ Global → List ℕ = λ name. name.items in
    let names = map items c.args.names.now in
    let mailmaps = map (λ (b : Bor (List ℕ)). b.now) c.args.buffers.now in
    let found = c.findings.result in
    let whole : AreFindings mailmaps found = search rules in
    on_ok_weaker c.push_findings.result (λ words. record {
      found = found;
      whole = whole;
      words = words ∙ ap (λ w. with_notices w (map (finding_notice names) found)) empty;
    }) c.push_findings.ensures
