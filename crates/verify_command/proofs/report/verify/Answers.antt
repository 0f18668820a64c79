use Rattle.std.proofs.Common.{subst, true}
use Rattle.verify_command.specs.Task.{IsReport, Leaves, wanted_of}
use Rattle.verify_command.proofs.report.verify.Goals as goal

pub returns-clause-leaves : goal.returns-clause-leaves
returns-clause-leaves g c =
    subst (λ ms. Leaves true (IsReport (wanted_of c.args.request.now) ms) g.W.Write.contents c.args.output.now c.print_findings.new.output c.print_findings.result)
    c.in_ok-mailmaps.ensures c.print_findings.ensures.leaves
