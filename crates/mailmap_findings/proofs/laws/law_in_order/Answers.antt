use Rattle.mailmap_findings.proofs.Lines.{findings_in_order}
use Rattle.mailmap_findings.proofs.laws.law_in_order.Goals as goal

pub returns : goal.returns
returns c = findings_in_order
