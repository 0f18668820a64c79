use Rattle.std.proofs.Common.{sym}
use Rattle.mailmap_findings.proofs.ContactNeeds.{filter_none}
use Rattle.mailmap_findings.proofs.needs.Needs.add_line.Goals as goal

pub returns-in-Absent-clause-left : goal.returns-in-Absent-clause-left
returns-in-Absent-clause-left c = rw (← c.in-Absent.ensures) (sym (filter_none c.args.self.now.left))

pub returns-in-Unclosed-clause-left : goal.returns-in-Unclosed-clause-left
returns-in-Unclosed-clause-left c = rw (← c.in-Unclosed.ensures) (sym (filter_none c.args.self.now.left))
