use Rattle.std.proofs.Common.{◌≡◌, ◌∙◌, ◌≤◌, ◌⊎◌, arith, false, inl, inr, length, sym}
use Rattle.mailmap_contacts.specs.Contacts.{has_text}
use Rattle.mailmap_suggestions.proofs.Strangers.{compared, not_compared}
use Rattle.mailmap_suggestions.proofs.shared.add_name.Goals as goal
use Rattle.mailmap_suggestions.proofs.shared.add_name.Goals.{else-len-lt4-via-then-len-lt4+else-has_text, else-len-lt4-via-else-len-lt4}

pub returns-in_ok-push_unrelated : goal.returns-in_ok-push_unrelated
returns-in_ok-push_unrelated c =
    compared c.args.known.now.items c.push_unrelated.new.known.items c.args.name.now c.in_ok-read.read c.in_ok-read.ensures (omega arith) (sym c.has_text.ensures ∙ c.if-has_text.true) c.in_ok-push_unrelated.ensures

pub returns-else-len-lt4 : goal.returns-else-len-lt4
returns-else-len-lt4 c =
    let why : (4 ≤ length c.args.known.now.items) ⊎ (has_text c.args.name.now ≡ false) = elim c.else-len-lt4.branch [
      | else-len-lt4-via-then-len-lt4+else-has_text w ↦ inr (sym w.has_text.ensures ∙ w.if-has_text.false)
      | else-len-lt4-via-else-len-lt4 w ↦ inl (omega arith)
    ] in
    not_compared c.args.known.now.items c.args.name.now c.requires why
