use Rattle.std.proofs.Common.{false}
use Rattle.verify_command.proofs.Leaving.{known_whole}
use Rattle.verify_command.proofs.task.print_text.Goals as goal

pub returns-clause-leaves : goal.returns-clause-leaves
returns-clause-leaves g c = known_whole false c.args.text.now c.in_ok-write_all.ensures.writes.ok
