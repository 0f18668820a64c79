use Rattle.mailmap_findings.proofs.IgnoredText.{reads_without}
use Rattle.mailmap_findings.proofs.laws.law_ignored.Goals as goal

pub returns : goal.returns
returns c = reads_without
