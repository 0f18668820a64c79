use Rattle.std.proofs.Common.{◌≡◌, ◌==◌, ◌∙◌, [], arith, length, sym, true, true≢false}
use Rattle.mailmap_shortlog.proofs.Compared.{fronts_differ, joined, last_of_both, next_of_x, next_of_y, no_parts, rest}
use Rattle.mailmap_shortlog.proofs.answer.+compare_parts.Goals as goal
use Rattle.mailmap_shortlog.proofs.answer.+compare_parts.Goals.{then-is_empty+in_default, else-is_empty, then-is_empty-2+in_default-ys, else-is_empty-2}

pub returns-then-is_ne : goal.returns-then-is_ne
returns-then-is_ne t c =
    fronts_differ c.args.x.now c.args.y.now (joined c.args.xs.now) (joined c.args.ys.now) c.min-common.result c.cmp-fronts.result
    (omega (arith, c.min-common.ensures)) (omega (arith, c.min-common.ensures)) c.cmp-fronts.ensures (sym c.is_ne.ensures ∙ c.if-is_ne.true)

pub returns-in-len1-up : goal.returns-in-len1-up
returns-in-len1-up t c = c.compare_parts.ensures
    ∙ next_of_x c.args.x.now c.args.y.now c.min-common.result c.cmp-fronts.result (omega (arith, c.min-common.ensures)) c.cmp-fronts.ensures
    (sym c.is_ne.ensures ∙ c.if-is_ne.false) c.args.xs.now c.args.ys.now _ c.in-len1-up.len_at_least (sym c.is_empty.ensures ∙ c.if-is_empty.true)

pub returns-in-len1-up-ys : goal.returns-in-len1-up-ys
returns-in-len1-up-ys t c = c.compare_parts-in-len1-up-ys.ensures
    ∙ next_of_y c.args.x.now c.args.y.now c.min-common.result c.cmp-fronts.result (omega (arith, c.min-common.ensures)) c.cmp-fronts.ensures
    (sym c.is_ne.ensures ∙ c.if-is_ne.false) c.args.xs.now c.args.ys.now _ c.in-len1-up-ys.len_at_least (sym c.is_empty-2.ensures ∙ c.if-is_empty-2.true)

pub returns : goal.returns
returns t c =
    let n = c.min-common.result in
    let none_x : (length (rest n c.args.x.now) == 0) ≡ true → joined c.args.xs.now ≡ [] = λ e. elim c.if-is_empty.branch [
      | then-is_empty+in_default w ↦ no_parts c.args.xs.now w.in_default.len_below
      | else-is_empty w ↦ absurd (true≢false (sym (c.is_empty.ensures ∙ e) ∙ w.if-is_empty.false))
    ] in
    let none_y : (length (rest n c.args.y.now) == 0) ≡ true → joined c.args.ys.now ≡ [] = λ e. elim c.if-is_empty-2.branch [
      | then-is_empty-2+in_default-ys w ↦ no_parts c.args.ys.now w.in_default-ys.len_below
      | else-is_empty-2 w ↦ absurd (true≢false (sym (c.is_empty-2.ensures ∙ e) ∙ w.if-is_empty-2.false))
    ] in
    c.cmp.ensures ∙ last_of_both c.args.x.now c.args.y.now n c.cmp-fronts.result (omega (arith, c.min-common.ensures)) c.cmp-fronts.ensures
    (sym c.is_ne.ensures ∙ c.if-is_ne.false) (joined c.args.xs.now) (joined c.args.ys.now) none_x none_y
