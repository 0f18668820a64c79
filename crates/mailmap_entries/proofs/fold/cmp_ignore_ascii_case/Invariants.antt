use Rattle.std.proofs.Common.{◌≡◌, ◌+◌, length}
use Rattle.std.specs.Slice.Iter.{iter_rest}
use Rattle.std.specs.Iterator.Adapters.{zip_first, zip_second}
use Rattle.mailmap_entries.specs.Folding.{folded, text_cmp}
use Rattle.mailmap_entries.proofs.fold.cmp_ignore_ascii_case.Given as goal

-- what is left of both texts decides, and is as much shorter than they are
abbrev pub invariant-loop-x : goal.invariant-loop-x
invariant-loop-x l =
    let a_left = iter_rest (zip_first l.x-iterator) in
    let b_left = iter_rest (zip_second l.x-iterator) in
    record {
      decides : text_cmp (folded l.a) (folded l.b) ≡ text_cmp (folded a_left) (folded b_left);
      long : length l.a + length b_left ≡ length l.b + length a_left;
    }
