use Rattle.std.proofs.Common.{◌≡◌, ◌∙◌, ◌+◌, ◌-◌, ℕ, List, ap, arith, drop, length, length-drop, take, take_all}
use lib.Seq.{paste}
use Rattle.std.proofs.lemmas.List.Edits.{take-paste}
use Rattle.mailmap_tables.proofs.merge.free_first.Goals as goal

-- the rest of a list, moved to its front
moved : {X : Type 0} (old : List X) (count len end : ℕ) → len + count ≡ length old → end ≡ length old
    → take len (paste old 0 (drop count old) (end - count)) ≡ drop count old
moved old count len end whole is =
    let rest : length (drop count old) ≡ len = omega (arith, length-drop count old, whole) in
    let part : end - count ≡ len = omega (arith, whole, is) in
    let same : len ≡ 0 + len = omega arith in
    ap (λ k. take len (paste old 0 (drop count old) k)) part ∙ ap (λ k. take k (paste old 0 (drop count old) len)) same
    ∙ take-paste old 0 (drop count old) len (omega arith) (omega (arith, rest)) ∙ take_all len (drop count old) (omega (arith, rest))

pub returns : goal.returns
returns c = record {
  within = omega arith;
  others = rw (c.shrink_to_fit.ensures.items, c.truncate.ensures.items, c.copy_within.ensures.items)
      (moved c.args.batch.now.items c.args.count _ _ (omega arith) (omega arith));
}
