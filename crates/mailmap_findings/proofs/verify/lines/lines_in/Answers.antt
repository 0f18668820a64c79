use Rattle.std.proofs.Common.{◌∙◌}
use Rattle.mailmap_findings.proofs.WholeLines.{lines-whole}
use Rattle.mailmap_findings.proofs.verify.lines.lines_in.Goals as goal

pub returns-clause-value : goal.returns-clause-value
returns-clause-value c = c.lines_with_terminator.ensures.value ∙ lines-whole c.args.text.now
