use Rattle.std.proofs.Common.{◌∙◌}
use Rattle.std.proofs.lemmas.Result.{IfOk-weaker}
use Rattle.mailmap_report.proofs.SeenAlike.{both_texts, first_no_text, second_no_text}
use Rattle.mailmap_report.proofs.alike.are_seen_alike.Goals as goal

pub returns-in-Ok-Ok : goal.returns-in-Ok-Ok
returns-in-Ok-Ok c = IfOk-weaker c.is_seen_as.result _ _ (λ _ same. same ∙ both_texts c.args.a.now c.args.b.now _ _
    c.in-Ok-Ok.ensures.cases.0 c.in-Ok-Ok.ensures'.cases.0 c.in-Ok-Ok.ensures.cases.1 c.in-Ok-Ok.ensures'.cases.1)
    c.is_seen_as.ensures

pub returns-in_default : goal.returns-in_default
returns-in_default c =
    second_no_text c.args.a.now c.args.b.now c.in_default.ensures.cases.1 c.in_default.ensures'.cases.0

pub returns-in_default-2 : goal.returns-in_default-2
returns-in_default-2 c = first_no_text c.args.a.now c.args.b.now c.in_default.ensures.cases.0
