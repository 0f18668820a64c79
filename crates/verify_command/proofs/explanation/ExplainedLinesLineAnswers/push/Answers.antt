use Rattle.std.proofs.Common.{◌∙◌, ◌++◌, ap, append-nil, sym}
use Rattle.std.proofs.Math.Seq.{take-length}
use Rattle.mailmap_findings.proofs.WholeLines.{whole_in_order}
use Rattle.mailmap_grammar.proofs.LineParts.{ended_part, unended_part}
use Rattle.mailmap_report.specs.Explained.{each_line, explained_line}
use Rattle.verify_command.proofs.EachLine.{line_ended}
use Rattle.verify_command.proofs.explanation.ExplainedLinesLineAnswers.push.Goals as goal

pub returns-in_default-clause-answers : goal.returns-in_default-clause-answers
returns-in_default-clause-answers c =
    let answer = explained_line c.args.self.now.explainer in
    rw (take-length c.args.part.now, c.in_ok-extend_from_slice.ensures.items) (unended_part (each_line answer) (whole_in_order answer) c.in_default.ensures c.requires
    (sym (append-nil c.args.text.now.items)))

pub returns-clause-answers : goal.returns-clause-answers
returns-clause-answers c =
    let g = c.args.self.now.explainer in
    rw c.clear.ensures.items (ended_part (each_line (explained_line g)) c.args.part.now c.in-Some.feed c.in-Some.ensures
    (c.in-Ok.ensures.ok ∙ ap (λ t. c.args.text.now.items ++ t) (ap (explained_line g) (c.as_slice.ensures.value ∙ c.in_ok-extend_from_slice-2.ensures.items)
    ∙ sym (line_ended g c.args.self.now.partial.items c.args.part.now c.in-Some.feed c.in-Some.ensures c.requires))))
