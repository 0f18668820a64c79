use Rattle.std.proofs.Common.{rules, ◌≡◌, List, ℕ, Vec, Global, ap, map, subst, sym}
use Rattle.std.specs.Slice.Iter.{iter_rest}
use Rattle.mailmap_findings.specs.Positions.{whole_lines}
use Rattle.mailmap_findings.specs.Remarks.{AreRemarks}
use Rattle.mailmap_report.specs.Report.{pieces_beside}
use Rattle.mailmap_report.specs.Settings.{choices_of, mailmap_names}
use Rattle.mailmap_suggestions.specs.ContactFindings.{AreContactFindings}
use Rattle.mailmap_suggestions.specs.FindingViews.{finding_view}
use Rattle.verify_command.specs.Task.{Says}
use Rattle.verify_command.proofs.Leaving.{leaves_weaker}
use Rattle.verify_command.proofs.contacts.print_remarks.Goals as goal

pub returns-clause-leaves : goal.returns-clause-leaves
returns-clause-leaves g c = λ taken unneeded about.
    let items : Vec ℕ Global → List ℕ = λ path. path.items in
    let mailmaps = c.args.mailmaps.now in
    let remarks : AreRemarks mailmaps taken c.new-remarks.result = c.new-remarks.ensures mailmaps taken (search rules) unneeded in
    let found = map finding_view (iter_rest c.iter-findings.result) in
    let shown : map finding_view c.args.findings.now ≡ found = sym (ap (map finding_view) c.iter-findings.ensures.rest) in
    let names : map items c.mailmap_names-names.result.now ≡ mailmap_names (choices_of c.args.request.now.settings) (map items c.args.request.now.paths.items) = search rules in
    let of = λ (ns : List (List ℕ)) (file : List ℕ). pieces_beside (choices_of c.args.request.now.settings) ns file c.new-remarks.result found in
    leaves_weaker (λ o t says. (
      c.new-remarks.result,
      found,
      remarks,
      subst (AreContactFindings mailmaps (whole_lines taken)) shown about,
      subst (Says o t) (λ i. of (names i) (c.contacts_name-file.ensures i)) says,
    )) c.print_pieces.ensures.leaves
