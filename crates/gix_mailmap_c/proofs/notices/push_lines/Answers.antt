use Rattle.std.proofs.Common.{rules}
use Rattle.std.proofs.lemmas.Result.{on_ok_weaker}
use Rattle.mailmap_findings.specs.Remarks.{AreRemarks}
use Rattle.gix_mailmap_c.proofs.notices.push_lines.Goals as goal

pub returns : goal.returns
returns c = λ contacts unneeded.
    let mailmaps = c.args.mailmaps.now in
    let remarks = c.new-2.result in
    let are_remarks : AreRemarks mailmaps contacts remarks = c.new-2.ensures mailmaps contacts (search rules) unneeded in
    on_ok_weaker c.push_remarks.result (λ words. (remarks, are_remarks, words)) c.push_remarks.ensures
