-- A walk over the lines of an input finds where to split it, and there is only one way to split it.
use Rattle.std.proofs.Common.{◌≡◌, ◌+◌, ◌<◌, ◌≤◌, ℕ, suc, ◌==◌, List, [], ◌∷◌, ◌++◌, length, take, drop, refl, sym, ap, ◌∙◌, arith, inl, inr, ⊎_elim}
use Rattle.std.proofs.lemmas.Bool.{cases_Bool, cases_lt, cond-true, cond-false, eqb-true}
use Rattle.std.proofs.lemmas.List.{append_assoc, length_push, same_from_push, append_cancel_left, drop-append-le, drop-drop, drop_all, length-append, length-drop, length-take-le, take-append-drop}
use Rattle.std.proofs.Math.Seq.{take-add, take-append_seam}
use Rattle.bstr.specs.Text.{line_len, lines_of}
use Rattle.bstr.proofs.lemmas.LineLemmas.{line_len-bounds, lines-nil, lines-step}
use Rattle.mailmap_grammar.specs.LineParts.{EndsLine}
use Rattle.mailmap_snapshot.specs.Parts.{IsDividerLine, IsDivider, PartsAt, IsFirstParting, IsSplit}

-- a line `--` has at least two bytes
IsDividerLine-length : (line : List ℕ) → IsDividerLine line → 2 ≤ length line
IsDividerLine-length line h = grind arith

-- a line that is followed by something ends with a line feed
line_ends : (bs : List ℕ) → line_len bs < length bs → (front : List ℕ) × (take (line_len bs) bs ≡ front ++ 10 ∷ [])
unfolding line_len
line_ends [] more = absurd (omega arith)
line_ends (b ∷ bs) more = ⊎_elim
    (λ feed. ([], rw (cond-true _ 1 (suc (line_len bs)) feed) (ap (λ x. x ∷ []) (eqb-true _ _ feed)))) (λ other.
    let len : line_len (b ∷ bs) ≡ suc (line_len bs) = cond-false _ _ _ other in
    let inner = line_ends bs (omega arith) in
    (b ∷ inner.0, ap (λ n. take n (b ∷ bs)) len ∙ ap (λ l. b ∷ l) inner.1)) (cases_Bool (b == 10))

-- a line ends no later than at its first line feed
line_len-feed : (xs ys : List ℕ) → line_len (xs ++ 10 ∷ ys) ≤ length xs + 1
unfolding line_len
line_len-feed [] ys = omega arith
line_len-feed (x ∷ xs) ys = grind (arith, line_len-feed xs ys)

-- a line `--` at the start of some bytes is their first line
first_divider : (line after : List ℕ) → IsDivider line after → take (line_len (line ++ after)) (line ++ after) ≡ line
unfolding line_len
first_divider line after h = grind arith

-- without their first bytes, whole lines still end a line
EndsLine-drop : (n : ℕ) (xs : List ℕ) → EndsLine xs → EndsLine (drop n xs)
EndsLine-drop n xs (inl none) = inl (drop_all n xs (omega (arith, ap length none)))
EndsLine-drop n xs (inr (front, is)) = grind (arith, drop-append-le, length_push, drop_all)

-- if the first line isn't `--`, the input isn't split within it
past_line : (before line after : List ℕ) → EndsLine before → IsDivider line after → (IsDividerLine (take (line_len (before ++ (line ++ after))) (before ++ (line ++ after))) → ⊥)
    → line_len (before ++ (line ++ after)) ≤ length before
past_line before line after (inl none) divider other = grind (arith, other, first_divider)
past_line before line after (inr (front, is)) divider other = grind (arith, length_push, append_assoc, line_len-feed)

some_line : (bs line : List ℕ) (left : List (List ℕ)) → line ∷ left ≡ lines_of bs → 0 < length bs
some_line [] line left is = let none = is ∙ lines-nil in cc
some_line (b ∷ bs) line left is = omega arith

no_bytes : (bs : List ℕ) → [] ≡ lines_of bs → length bs ≡ 0
no_bytes [] none = refl
no_bytes (b ∷ bs) none = let some = lines-step (b ∷ bs) (omega arith) in absurd (cc)

-- The state of a walk over the lines of the input: `left` are the lines from this index on, and the input has no line
-- `--` before it.
pub record HasPassed (input : List ℕ) (index : ℕ) (left : List (List ℕ)) : Type 0 where
  pub within : index ≤ length input
  pub starts : index < length input → EndsLine (take index input)
  pub left_are : left ≡ lines_of (drop index input)
  pub none : (p r : List ℕ) → PartsAt input p r → index ≤ length p

module _ (input : List ℕ) (index : ℕ) (lines : List (List ℕ)) (line : List ℕ) (left : List (List ℕ)) (next : lines ≡ line ∷ left) (passed : HasPassed input index lines) where
  abbrev rest : List ℕ
  rest = drop index input

  some : 0 < length rest
  some = some_line rest line left (sym next ∙ passed.left_are)

  -- the line at the index, and what is left after it
  step : line ∷ left ≡ take (line_len rest) rest ∷ lines_of (drop (line_len rest) rest)
  step = sym next ∙ passed.left_are ∙ lines-step rest some

  is : line ≡ take (line_len rest) rest
  is = let both = step in cc

  len : length line ≡ line_len rest
  len = ap length is ∙ length-take-le (line_len rest) rest (line_len-bounds rest some).1

  long : index + length rest ≡ length input
  long = omega (arith, passed.within, length-drop index input)

  pub fits : index + length line ≤ length input
  fits = omega (arith, len, (line_len-bounds rest some).1, long)

  -- the walk goes past a line that isn't `--`
  pub passes : (IsDividerLine line → ⊥) → HasPassed input (index + length line) left
  passes other = record {
    within = fits;
    starts = λ more.
        let ends = line_ends rest (omega (arith, len, long)) in
        inr (take index input ++ ends.0, cc (take-add index (length line) input, len, ends.1, append_assoc (take index input) ends.0 (10 ∷ [])));
    left_are = cc (step, len, drop-drop (length line) index input);
    none = λ p r parts.
        let before = drop index p in
        let within : index ≤ length p = passed.none p r parts in
        let rest_is : rest ≡ before ++ (parts.line ++ r) =
        cc (append_assoc p parts.line r, drop-append-le index p (parts.line ++ r) within) in
        let bound = past_line before parts.line r (EndsLine-drop index p parts.starts) parts.divides (λ divider. other (rw (is, rest_is) divider)) in
        omega (arith, len, ap line_len rest_is, length-drop index p);
  }

  -- at a line `--` the input is split
  pub parted : IsDividerLine line → IsSplit input (take index input) (drop (index + length line) input)
  parted divider = inl (record {
    parts = record {
      line = line;
      whole = cc (
        take-append-drop index input,
        take-append-drop (length line) rest,
        drop-drop (length line) index input,
        is,
        len,
        append_assoc (take index input) line (drop (index + length line) input),
      );
      starts = passed.starts (omega (arith, some, long));
      divides = (
        divider,
        λ bare. ⊎_elim (λ more.
            let ends = line_ends rest (omega (arith, len, long)) in
            let wrong = (same_from_push (45 ∷ []) ends.0 45 10 (sym bare ∙ is ∙ ends.1)).1 in
            absurd (omega arith)) (λ end. drop_all (index + length line) input end)
            (cases_lt (index + length line) (length input)),
      );
    };
    first = λ p r parts. omega (arith, passed.none p r parts, length-take-le index input passed.within);
  })

-- if no line is left, the input isn't split
pub ended : (input : List ℕ) (index : ℕ) (lines : List (List ℕ)) → lines ≡ [] → HasPassed input index lines → IsSplit input [] input
ended input index lines over passed = inr (record {
  none = λ p r parts.
      let less = no_bytes (drop index input) (sym over ∙ passed.left_are) in
      let long = ap length parts.whole ∙ length-append (p ++ parts.line) r in
      omega (arith, less, long, length-append p parts.line, IsDividerLine-length parts.line parts.divides.0, length-drop index input, passed.none p r parts);
  nothing = refl;
  all = refl;
})

-- ---- there is only one way to split an input

-- two first splits of an input are the same
first_same : (input p r q s : List ℕ) → IsFirstParting input p r → IsFirstParting input q s → (p ≡ q) × (r ≡ s)
first_same input p r q s here there =
    let l = here.parts.line in
    let m = there.parts.line in
    let long : length p ≡ length q = omega (arith, here.first q s there.parts, there.first p r here.parts) in
    let whole : p ++ (l ++ r) ≡ q ++ (m ++ s) = cc (here.parts.whole, there.parts.whole, append_assoc p l r, append_assoc q m s) in
    let front : p ≡ q = cc (whole, take-append_seam p (l ++ r), take-append_seam q (m ++ s)) in
    let rest : l ++ r ≡ m ++ s = append_cancel_left q (l ++ r) (m ++ s) (rw front at whole) in
    let line : l ≡ m = cc (rest, first_divider l r here.parts.divides, first_divider m s there.parts.divides) in
    (front, append_cancel_left m r s (rw line at rest))

pub parted_same : (input p r q s : List ℕ) → IsSplit input p r → IsSplit input q s → (p ≡ q) × (r ≡ s)
parted_same input p r q s (inl here) (inl there) = first_same input p r q s here there
parted_same input p r q s (inl here) (inr there) = absurd (there.none p r here.parts)
parted_same input p r q s (inr here) (inl there) = absurd (here.none q s there.parts)
parted_same input p r q s (inr here) (inr there) = (here.nothing ∙ sym there.nothing, here.all ∙ sym there.all)
