use Rattle.std.proofs.Common.{◌∙◌, ◌++◌, ap, sym}
use Rattle.std.proofs.lemmas.Result.{on_ok_weaker}
use Rattle.mailmap_report.specs.Explained.{explained_line}
use Rattle.verify_command.proofs.EachLine.{last_line}
use Rattle.verify_command.proofs.explanation.ExplainedLinesLineAnswers.finish.Goals as goal

pub returns : goal.returns
returns c =
    let g = c.args.self.now.explainer in
    on_ok_weaker c.push_explained_line.result
    (λ is. is ∙ ap (λ t. c.args.text.now.items ++ t) (ap (explained_line g) c.as_slice.ensures.value ∙ sym (last_line g c.args.self.now.partial.items c.requires))) c.push_explained_line.ensures.ok
