use Rattle.std.proofs.Common.{◌∙◌, append_assoc}
use Rattle.std.proofs.lemmas.Result.{on_ok_weaker}
use Rattle.mailmap_report.proofs.message.push_ignored.Goals as goal

pub returns : goal.returns
returns c = on_ok_weaker c.push_text-2.result
    (λ e. e ∙ rw (c.cure_text.ensures, c.in_ok-push_shortened.ensures, c.in_ok-push_text.ensures) (simp append_assoc))
    c.push_text-2.ensures
