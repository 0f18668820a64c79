use Rattle.command_line.proofs.GitLog.{line_before, line_without_feed}
use Rattle.command_line.proofs.start.first_line.Goals as goal

pub returns-in-Some : goal.returns-in-Some
returns-in-Some c = line_before c.args.text.now c.in-Some.feed c.in-Some.ensures

pub returns-in-None : goal.returns-in-None
returns-in-None c = line_without_feed c.args.text.now c.in-None.ensures
