use Rattle.std.proofs.Common.{◌∙◌, ◌+◌, subst, sym, take}
use Rattle.mailmap_suggestions.specs.LinkViews.{AreUnnamed}
use Rattle.mailmap_suggestions.proofs.Participating.{named_more, unnamed_more}
use Rattle.mailmap_suggestions.proofs.members.unnamed.Goals as goal
use Rattle.mailmap_suggestions.proofs.members.unnamed.Goals.{then-not-has_text+in_ok-insert, else-not-has_text}

pub loop-member-preserved : goal.loop-member-preserved
loop-member-preserved c =
    let ms = c.args.members.now in
    let k = c.loop-member.member-index in
    elim c.if-not-has_text.branch [
      | then-not-has_text+in_ok-insert w ↦ subst (AreUnnamed (take (k + 1) ms)) (sym w.unnamed-is)
          (unnamed_more ms k _ w.folded.result c.loop-member.unnamed w.insert.new.self c.loop-member-test.true (sym c.has_text.ensures ∙ w.if-not-has_text.true)
          w.folded.ensures.name w.folded.ensures.email c.loop-member.invariant w.in_ok-insert.ensures.updates.0)
      | else-not-has_text w ↦ subst (AreUnnamed (take (k + 1) ms)) (sym w.unnamed-is)
          (named_more ms k _ c.loop-member.unnamed c.loop-member-test.true (sym c.has_text.ensures ∙ w.if-not-has_text.false) c.loop-member.invariant)
    ]
