use Rattle.std.proofs.Common.{◌≡◌, ◌∙◌, ap, sym}
use Rattle.std.specs.Cmp.{Equal-is}
use Rattle.mailmap_entries.specs.Folding.{folded}
use Rattle.mailmap_entries.proofs.Folding.{equal_folded}
use Rattle.mailmap_batches.specs.Batches.{folded_email_at}
use Rattle.mailmap_batches.proofs.groups.have_same_email.Goals as goal

pub returns-else-eq : goal.returns-else-eq
returns-else-eq c =
    let order = c.compare_after_prefix.result in
    let same = equal_folded c.old_email-email.result.now c.old_email-other.result.now order c.compare_after_prefix.ensures in
    let a : folded c.old_email-email.result.now ≡ folded_email_at c.args.a = ap folded c.old_email-email.ensures in
    let b : folded c.old_email-other.result.now ≡ folded_email_at c.args.b = ap folded c.old_email-other.ensures in (
      λ e. sym a ∙ same.0 ((Equal-is order).0 (sym c.is_eq.ensures ∙ e)) ∙ b,
      λ e. c.is_eq.ensures ∙ (Equal-is order).1 (same.1 (a ∙ e ∙ sym b)),
    )
