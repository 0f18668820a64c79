use Rattle.verify_command.proofs.Leaving.{leaves_weaker}
use Rattle.verify_command.proofs.contacts.report_contacts.Goals as goal

pub returns-clause-leaves : goal.returns-clause-leaves
returns-clause-leaves g c =
    let counts = c.in_ok-counted.ensures.counts in
    leaves_weaker (λ o t made. (counts.0, counts.1, made)) (c.print_report.ensures.leaves counts.0 counts.2)
