use Rattle.std.proofs.Common.{◌∙◌, Bor, List, ℕ, ap, if◌then◌else◌, map, subst}
use Rattle.std.specs.Slice.Iter.{iter_rest}
use Rattle.command_line.specs.declared.outcome.Outcome.TheVariants.{Clean, Found}
use Rattle.mailmap_contacts.specs.Counts.{AreContactsOf}
use Rattle.mailmap_findings.specs.Positions.{whole_lines}
use Rattle.mailmap_findings.proofs.WholeLines.{lines-whole}
use Rattle.mailmap_report.specs.Report.{text_of}
use Rattle.mailmap_report.specs.Suggested.{suggestion_pieces}
use Rattle.mailmap_report.proofs.Suggesting.{all_printed, none_count}
use Rattle.mailmap_suggestions.specs.SuggestedText.{printed}
use Rattle.mailmap_suggestions.specs.Views.{suggestion_of}
use Rattle.verify_command.proofs.Leaving.{leaves_weaker}
use Rattle.verify_command.proofs.contacts.print_suggestions.Goals as goal

pub returns-clause-leaves : goal.returns-clause-leaves
returns-clause-leaves g c = λ taken counted.
    let now : Bor (List ℕ) → List ℕ = λ b. b.now in
    let mailmaps = map now c.args.buffers.now in
    let are = subst (λ ls. AreContactsOf ls c.args.counted.now) (lines-whole taken) counted in
    let made = c.in_ok-suggestions.ensures (whole_lines taken) are in
    let found = map suggestion_of (iter_rest c.iter.result) in
    let found_is = ap (map suggestion_of) (c.iter.ensures.rest ∙ c.as_slice.ensures.value) ∙ made.2 in
    let start = c.feed_after.result.now in
    let shown = ap (λ s. text_of (suggestion_pieces s found)) c.feed_after.ensures ∙ all_printed mailmaps found ∙ ap (printed mailmaps) found_is in
    leaves_weaker (λ o t says. ((made.0, made.1, says.0 ∙ shown), says.1 ∙ ap (λ b. if b then Found else Clean) (none_count start found))) c.print_pieces.ensures.leaves
