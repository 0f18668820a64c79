use Rattle.std.proofs.Common.{◌+◌, ◌-◌, arith, drop, length, length-drop, refl, subst, sym, take, take_all}
use Rattle.mailmap_snapshot.specs.Parts.{IsSplit}
use Rattle.mailmap_snapshot.proofs.Dividers.{passes, parted, ended}
use Rattle.mailmap_snapshot.proofs.check.split.Goals as goal

pub returns-then-is_divider : goal.returns-then-is_divider
returns-then-is_divider c =
    let input = c.args.input.now in
    let after = c.loop-line.index + length c.in-Some.line.now in
    let parts = parted _ _ _ _ _ c.in-Some.ensures.steps c.loop-line.invariant (c.if-is_divider.ensures.0 refl) in
    subst (IsSplit input (take c.loop-line.index input)) (sym (take_all (length input - after) (drop after input) (omega (arith, length-drop after input)))) parts

pub loop-line-preserved : goal.loop-line-preserved
loop-line-preserved c = passes _ _ _ _ _ c.in-Some.ensures.steps c.loop-line.invariant (λ is. let yes = c.if-is_divider.ensures.1 is in cc)

pub returns : goal.returns
returns c = ended _ _ _ c.in_default.ensures.steps.0 c.loop-line.invariant
