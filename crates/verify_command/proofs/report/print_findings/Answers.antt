use Rattle.std.proofs.Common.{rules, ◌≡◌, List, ℕ, Vec, Global, map, subst}
use Rattle.mailmap_findings.specs.Findings.{AreFindings}
use Rattle.mailmap_report.specs.Report.{report_pieces}
use Rattle.mailmap_report.specs.Settings.{choices_of, mailmap_names}
use Rattle.verify_command.specs.Task.{Says}
use Rattle.verify_command.proofs.Leaving.{leaves_weaker}
use Rattle.verify_command.proofs.report.print_findings.Goals as goal

pub returns-clause-leaves : goal.returns-clause-leaves
returns-clause-leaves g c =
    let items : Vec ℕ Global → List ℕ = λ file. file.items in
    let choices = choices_of c.args.request.now.settings in
    let are : AreFindings c.args.mailmaps.now c.findings.result = search rules in
    let names : map items c.mailmap_names-names.result.now
    ≡ mailmap_names choices (map items c.args.request.now.paths.items) = search rules in
    leaves_weaker (λ o t says. (
      c.findings.result,
      are,
      subst (λ n. Says o t (report_pieces choices n c.findings.result)) names says,
    )) c.print_pieces.ensures.leaves
