use Rattle.std.proofs.Common.{◌≡◌, ℕ, ◌+◌, ◌-◌, ◌≤◌, List, ◌++◌, length, take, drop, sym, ap, ◌∙◌, append_assoc, arith}
use Rattle.std.proofs.lemmas.List.{drop-drop, length-take-le, take-append-drop, take-append-le, take-take, take_rest}
use Rattle.std.proofs.lemmas.Simd.{length-chunk, length-put_chunk, put_chunk_is}
use Rattle.std.proofs.lemmas.Slice.{drop-append-drop}
use lib.Lanes.{chunk, put_chunk}
use Rattle.gix_mailmap_c.proofs.copies.copy_ends.Goals as goal

-- the first n elements and the last n, which overlap or meet, cover the list
put_ends : {X : Type 0} (s b : List X) (n : ℕ) → length s ≤ length b → n ≤ length s → length s ≤ n + n
    → put_chunk (length s - n) (put_chunk 0 b (chunk 0 n s)) (chunk (length s - n) n s) ≡ s ++ drop (length s) b
put_ends s b n room covers meet =
    let m = length s - n in
    let front = take n s in
    let back = chunk m n s in
    let first = put_chunk 0 b front in
    let front_len : length front ≡ n = length-take-le n s covers in
    let back_len : length back ≡ n = length-chunk m n s (omega arith) in
    let first_is : first ≡ front ++ drop n b = put_chunk_is 0 b front (omega (arith, front_len)) ∙ ap (λ k. front ++ drop k b) front_len in
    let rest : length s - m ≡ n = omega arith in
    let end : m + length back ≡ length s = omega (arith, back_len) in
    let back_is : back ≡ drop m s = ap (λ k. take k (drop m s)) (sym rest) ∙ take_rest s m in
    let before : take m first ≡ take m s = ap (take m) first_is ∙ take-append-le m front (drop n b) (omega (arith, front_len)) ∙ take-take m n s (omega arith) in
    let after : drop (length back) (drop m first) ≡ drop (length s) b =
    drop-drop (length back) m first ∙ ap (λ i. drop i first) end ∙ ap (drop (length s)) first_is ∙ drop-append-drop n b front (length s) covers front_len in
    cc (put_chunk_is m first back (omega (arith, back_len, length-put_chunk 0 b front)), before, back_is, after, append_assoc (take m s) (drop m s) (drop (length s) b), take-append-drop m s)

pub returns : goal.returns
returns g c = record {
  fits = c.requires.fits;
  written = put_ends c.args.text.now c.args.out.now g.row.N c.requires.fits c.requires.covers.0 c.requires.covers.1;
}
