use Rattle.std.proofs.Common.{◌+◌, ◌∙◌, ap, option_copied, refl, subst, sym, take, take_all}
use Rattle.std.specs.BTreeMap.{is_at}
use Rattle.std.specs.List.{list_any}
use Rattle.std.specs.Map.{lookup}
use Rattle.mailmap_contacts.specs.Answers.{folded_cmp}
use Rattle.mailmap_suggestions.proofs.Participating.{emails_in, respelled_are, spelled_other, spelled_same}
use Rattle.mailmap_suggestions.proofs.Spelled.{AreSpelled}
use Rattle.mailmap_suggestions.proofs.members.respelled.Goals as goal
use Rattle.mailmap_suggestions.proofs.members.respelled.Goals.{then-ne+in_ok-insert, else-ne}

pub loop-member-init : goal.loop-member-init
loop-member-init c = record {
  firsts = λ key. ap (λ es. option_copied (lookup (is_at (folded_cmp key)) es)) c.new-spellings.ensures.empty;
  others = λ key. ap (list_any (is_at (folded_cmp key))) c.new-respelled.ensures.empty;
}

pub loop-member-preserved : goal.loop-member-preserved
loop-member-preserved c =
    let ms = c.args.members.now in
    let k = c.loop-member.member-index in
    let lt = c.loop-member-test.true in
    let put = c.in_ok-insert-2.ensures.updates.0 in
    let seen = c.copied.ensures ∙ c.get.ensures.value in
    elim c.if-ne.branch [
      | then-ne+in_ok-insert w ↦ subst (AreSpelled (emails_in (take (k + 1) ms)) c.insert-in-loop-member.new.self) (sym w.respelled-is)
          (spelled_other ms k _ (record { text = record { ref_ptr = (0, 0); now = _ } }) _ _ _ c.loop-member.spellings c.insert-in-loop-member.new.self c.loop-member.respelled w.insert.new.self lt c.loop-member.invariant
          put c.unwrap_or-spelling.ensures seen refl refl c.ne.result c.ne.ensures w.if-ne.true w.in_ok-insert.ensures.updates.0)
      | else-ne w ↦
          spelled_same ms k _ (record { text = record { ref_ptr = (0, 0); now = _ } }) _ _ _ c.loop-member.spellings c.insert-in-loop-member.new.self c.loop-member.respelled c.if-ne.respelled lt c.loop-member.invariant
          put c.unwrap_or-spelling.ensures seen refl refl c.ne.result c.ne.ensures w.if-ne.false w.respelled-is
    ]

pub returns : goal.returns
returns c =
    let ms = c.args.members.now in
    respelled_are ms c.loop-member.spellings c.loop-member.respelled
    (subst (λ l. AreSpelled (emails_in l) c.loop-member.spellings c.loop-member.respelled) (take_all c.loop-member.member-index ms c.loop-member-test.false) c.loop-member.invariant)
