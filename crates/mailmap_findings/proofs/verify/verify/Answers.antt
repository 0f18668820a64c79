use Rattle.std.proofs.Common.{IfOk, map, subst}
use Rattle.mailmap_findings.specs.Findings.{AreFindings, finding_of}
use Rattle.mailmap_findings.proofs.verify.verify.Goals as goal

pub returns-clause-findings : goal.returns-clause-findings
returns-clause-findings c =
    subst (λ ms. IfOk c.findings_in.result (λ found. AreFindings ms (map finding_of found.items))) c.in_ok-mailmaps.ensures c.findings_in.ensures
