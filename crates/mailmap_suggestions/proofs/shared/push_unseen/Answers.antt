use Rattle.std.proofs.Common.{◌∙◌, sym}
use Rattle.std.proofs.lemmas.Bool.{not-false, not-true}
use Rattle.mailmap_suggestions.proofs.Strangers.{distinct_new, distinct_old}
use Rattle.mailmap_suggestions.proofs.shared.push_unseen.Goals as goal

pub returns-in_ok-push : goal.returns-in_ok-push
returns-in_ok-push c = λ before are.
    distinct_new before c.args.name _ _ _ _ are (not-true _ (sym c.in_ok-is_new.ensures.added ∙ c.if-is_new.true)) c.in_ok-is_new.ensures.updates.0 c.in_ok-push.ensures.items

pub returns-else-is_new : goal.returns-else-is_new
returns-else-is_new c = λ before are.
    distinct_old before c.args.name _ _ _ are (not-false _ (sym c.in_ok-is_new.ensures.added ∙ c.if-is_new.false)) c.in_ok-is_new.ensures.updates.0
