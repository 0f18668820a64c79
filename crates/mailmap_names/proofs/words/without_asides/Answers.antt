use Rattle.std.proofs.Common.{inl, inr}
use Rattle.std.proofs.lemmas.List.{take_rest}
use Rattle.mailmap_names.proofs.WordLemmas.{without_asides-more, without_asides-end}
use Rattle.mailmap_names.proofs.words.without_asides.Goals as goal
use Rattle.mailmap_names.proofs.words.without_asides.Goals.{then-skipped-eq0, else-skipped-eq0}

pub loop-rest-preserved : goal.loop-rest-preserved
loop-rest-preserved c =
    let rest = c.loop-rest.rest.now in
    rw c.in_ok-push.ensures.items (without_asides-more _ _ rest _ _ c.c-item.result _ c.aside_len-skipped.result
    c.in-len1-up.len_at_least c.c-item.is (take_rest rest 1) c.aside_len-skipped.ensures.value
    (elim c.if-skipped-eq0.branch [
      | then-skipped-eq0 w ↦ inl (w.if-skipped-eq0.true, w.push-is)
      | else-skipped-eq0 w ↦ inr (w.if-skipped-eq0.false, w.push-is)
    ])
    c.split_at.ensures.back c.loop-rest.invariant)

pub returns : goal.returns
returns c = without_asides-end _ _ _ c.in_default.len_below c.loop-rest.invariant
