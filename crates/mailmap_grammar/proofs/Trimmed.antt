-- Trimming removes white space at both ends, and leaves other bytes.
use Rattle.std.proofs.Common.{◌≡◌, ◌⊎◌, ◌+◌, ◌<◌, ◌≤◌, ℕ, zero, suc, Bool, true, false, cond, None, Option, Some, List, [], ◌∷◌, ◌++◌, length, take, drop, slice_index, length-append, length-drop, length-take, append-nil, append_assoc, take-append-drop, take_all, refl, sym, ap, subst, ◌∙◌, arith, inl, inr, ⊎_elim}
use Rattle.std.proofs.lemmas.Bool.{cases_Bool, cases_lt, cond-true, cond-false, false≢true}
use Rattle.std.proofs.lemmas.Bool.Decides.{nat_tests}
use Rattle.std.proofs.lemmas.List.{drop_all, nil_from_length, take-append-le}
use Rattle.std.proofs.lemmas.Str.{encodes-append}
use Rattle.std.proofs.Math.Seq.{drop-append-add, drop-append_seam}
use Rattle.std.proofs.Math.Utf8.{scalar}
use Rattle.std.specs.Char.{is_whitespace, encode_utf8}
use Rattle.std.specs.Str.{encode_utf8_all}
use Rattle.bstr.specs.Utf8.{Decoded, decoded, good, bad, continues, or_replacement, pieces, spans_from}
use Rattle.bstr.specs.Trim.{kept_start, kept_end, trim_start_by, trim_end_by}
use Rattle.bstr.proofs.lemmas.PieceLemmas.{pieces-nil, pieces-step, pieces-append, StartsClean, continuation-alone, sizes, pieces-sizes, piece-bounds}
use Rattle.bstr.proofs.lemmas.EncodeLemmas.{decoded-encode}
use Rattle.bstr.proofs.lemmas.SoundLemmas.{SpellsChar-decoded}
use Rattle.mailmap_entries.specs.Folding.{Text}
use Rattle.mailmap_entries.proofs.Parts.{all_append}
use Rattle.mailmap_grammar.specs.Trimming.{trim, BeginsWhite, EndsWhite, AreWhite, IsTrimmedStart, IsTrimmedEnd, IsTrimmed}

pub some_bytes : (c : ℕ) → 0 < length (encode_utf8 c)
unfolding encode_utf8
some_bytes c = grind (arith, nat_tests)

white-scalar : (c : ℕ) → is_whitespace c ≡ true → scalar c ≡ true
white-scalar c is = grind (arith, nat_tests)

-- ---- the pieces of a text

abbrev is_white : Decoded → Bool
is_white p = is_whitespace (or_replacement p.char)

module _ (c : ℕ) (is : is_whitespace c ≡ true) where
  abbrev char : Decoded
  char = good c (length (encode_utf8 c))

  reads : (rest : List ℕ) → decoded (encode_utf8 c ++ rest) ≡ char
  reads rest = decoded-encode c rest (white-scalar c is)

  first : (rest : List ℕ) → pieces (encode_utf8 c ++ rest) ≡ char ∷ pieces rest
  first rest = pieces-step (encode_utf8 c ++ rest) (omega (arith, length-append (encode_utf8 c) rest, some_bytes c))
      ∙ rw (reads rest, drop-append_seam (encode_utf8 c) rest) refl

  clean : StartsClean (encode_utf8 c)
  clean some = ⊎_elim (λ yes.
      let bs = encode_utf8 c in
      let alone : decoded bs ≡ bad 1 = continuation-alone (length bs) (slice_index bs 0) (slice_index bs 1) (slice_index bs 2) (slice_index bs 3) some yes in
      let read : decoded bs ≡ char = rw append-nil at (reads []) in
      let none : None ≡ Some c = ap (λ (p : Decoded). p.char) (sym alone ∙ read) in
      absurd (cc)) (λ no. no) (cases_Bool (continues (slice_index (encode_utf8 c) 0)))

  last : (front : List ℕ) → pieces (front ++ encode_utf8 c) ≡ pieces front ++ char ∷ []
  last front =
      let alone : pieces (encode_utf8 c) ≡ char ∷ [] = rw (append-nil, pieces-nil) at (first []) in
      pieces-append (length front) front (encode_utf8 c) (omega arith) clean ∙ rw alone refl

-- ---- the start

-- how many bytes of white space are in front
abbrev lead : List Decoded → ℕ
lead [] = 0
lead (p ∷ ps) = cond (is_white p) (p.size + lead ps) 0

kept-lead : (off : ℕ) (ps : List Decoded) → kept_start is_whitespace (off + sizes ps) (spans_from off ps) ≡ off + lead ps
unfolding kept_start spans_from sizes
kept-lead off [] = refl
kept-lead off (p ∷ ps) =
    let sum : off + p.size + sizes ps ≡ off + (p.size + sizes ps) = omega arith in
    let rest = rw sum at (kept-lead (off + p.size) ps) in grind arith

start-is : (bs : List ℕ) → trim_start_by is_whitespace bs ≡ drop (lead (pieces bs)) bs
start-is bs =
    let all : 0 + sizes (pieces bs) ≡ length bs = omega (arith, pieces-sizes (length bs) bs (omega arith)) in
    ap (λ n. drop n bs) (rw all at (kept-lead 0 (pieces bs)) ∙ omega arith)

start-white : (c : ℕ) (rest : List ℕ) → is_whitespace c ≡ true → trim_start_by is_whitespace (encode_utf8 c ++ rest) ≡ trim_start_by is_whitespace rest
start-white c rest is =
    let bs = encode_utf8 c ++ rest in
    start-is bs ∙ ap (λ ps. drop (lead ps) bs) (first c is rest) ∙ ap (λ b. drop (cond b (length (encode_utf8 c) + lead (pieces rest)) 0) bs) is
    ∙ drop-append-add (encode_utf8 c) rest _ ∙ sym (start-is rest)

begins : (bs : List ℕ) (o : Option ℕ) → (decoded bs).char ≡ o → is_whitespace (or_replacement o) ≡ true → BeginsWhite bs
begins bs None is white = absurd (cc)
begins bs (Some c) is white = (c, drop (decoded bs).size bs, white, (SpellsChar-decoded bs c is).bytes)

start-cases : (bs : List ℕ) → BeginsWhite bs ⊎ (is_white (decoded bs) ≡ false)
start-cases bs = ⊎_elim (λ yes. inl (begins bs _ refl yes)) inr (cases_Bool (is_white (decoded bs)))

begins_or_not : (bs : List ℕ) → BeginsWhite bs ⊎ (BeginsWhite bs → ⊥)
begins_or_not bs = ⊎_elim inl (λ no. inr (λ h.
    let e : or_replacement (decoded bs).char ≡ h.0 = ap (λ (p : Decoded). or_replacement p.char) (ap decoded h.3 ∙ reads h.0 h.2 h.1) in
    false≢true (sym no ∙ ap is_whitespace e ∙ h.2))) (start-cases bs)

-- a text that doesn't begin with white space stays as it is
start-other : (bs : List ℕ) → (BeginsWhite bs → ⊥) → trim_start_by is_whitespace bs ≡ bs
start-other [] other = start-is [] ∙ drop_all _ [] (omega arith)
start-other (b ∷ s) other =
    let bs = b ∷ s in
    let no = ⊎_elim (λ yes. absurd (other yes)) (λ no. no) (start-cases bs) in
    start-is bs ∙ ap (λ ps. drop (lead ps) bs) (pieces-step bs (omega arith)) ∙ ap (λ x. drop (cond x ((decoded bs).size + lead (pieces (drop (decoded bs).size bs))) 0) bs) no

-- ---- the end

module _ (p : Decoded) where
  kept-white : (ps : List Decoded) (off end : ℕ) → is_white p ≡ true → kept_end is_whitespace end (spans_from off (ps ++ p ∷ [])) ≡ kept_end is_whitespace end (spans_from off ps)
  unfolding kept_end spans_from
  kept-white [] off end is = cond-true _ _ _ is
  kept-white (q ∷ ps) off end is = kept-white ps (off + q.size) _ is

  kept-other : (ps : List Decoded) (off end : ℕ) → is_white p ≡ false → kept_end is_whitespace end (spans_from off (ps ++ p ∷ [])) ≡ off + sizes (ps ++ p ∷ [])
  unfolding kept_end spans_from sizes
  kept-other [] off end is = cond-false _ _ _ is ∙ omega arith
  kept-other (q ∷ ps) off end is = kept-other ps (off + q.size) _ is ∙ omega arith

kept-bound : (ps : List Decoded) (off end : ℕ) → end ≤ off → kept_end is_whitespace end (spans_from off ps) ≤ off + sizes ps
unfolding kept_end spans_from sizes
kept-bound [] off end le = omega arith
kept-bound (q ∷ ps) off end le =
    let below : cond (is_white q) end (off + q.size) ≤ off + q.size = grind arith in
    omega (arith, kept-bound ps (off + q.size) _ below)

end-white : (front : List ℕ) (c : ℕ) → is_whitespace c ≡ true → trim_end_by is_whitespace (front ++ encode_utf8 c) ≡ trim_end_by is_whitespace front
end-white front c is =
    ap (λ i. take i (front ++ encode_utf8 c)) (ap (λ ps. kept_end is_whitespace 0 (spans_from 0 ps)) (last c is front) ∙ kept-white (char c is) (pieces front) 0 0 is)
    ∙ take-append-le _ front (encode_utf8 c) (omega (arith, kept-bound (pieces front) 0 0 (omega arith), pieces-sizes (length front) front (omega arith)))

-- a text that is not empty has a last piece
record LastPiece (bs : List ℕ) : Type 0 where
  front : List ℕ
  tail : List ℕ
  before : List Decoded
  whole : bs ≡ front ++ tail
  are : pieces bs ≡ before ++ decoded tail ∷ []
  done : drop (decoded tail).size tail ≡ []

last_piece : (f : ℕ) (bs : List ℕ) → length bs ≤ f → 0 < length bs → LastPiece bs
last_piece zero bs le some = absurd (omega arith)
last_piece (suc f) bs le some =
    let n = (decoded bs).size in
    let step = pieces-step bs some in
    ⊎_elim (λ more.
    let w = last_piece f (drop n bs) (omega (arith, length-drop n bs, piece-bounds bs some)) (omega (arith, length-drop n bs)) in record {
      front = take n bs ++ w.front;
      tail = w.tail;
      before = decoded bs ∷ w.before;
      whole = cc (take-append-drop n bs, w.whole, append_assoc (take n bs) w.front w.tail);
      are = cc (step, w.are);
      done = w.done;
    }) (λ all. record {
      front = [];
      tail = bs;
      before = [];
      whole = refl;
      done = drop_all n bs all;
      are = cc (step, drop_all n bs all, pieces-nil);
    }) (cases_lt n (length bs))

end-cases : (bs : List ℕ) → EndsWhite bs ⊎ (trim_end_by is_whitespace bs ≡ bs)
end-cases [] = inr (nil_from_length _ (omega (arith, length-take {A = ℕ} (kept_end is_whitespace 0 (spans_from 0 (pieces []))) [])))
end-cases (b ∷ s) =
    let w = last_piece (length (b ∷ s)) (b ∷ s) (omega arith) (omega arith) in
    ⊎_elim (λ h.
    let none : h.1 ≡ [] = sym (drop-append_seam (encode_utf8 h.0) h.1) ∙ ap (λ (p : Decoded). drop p.size (encode_utf8 h.0 ++ h.1)) (sym (reads h.0 h.2 h.1))
    ∙ ap (λ t. drop (decoded t).size t) (sym h.3) ∙ w.done in
    inl (h.0, w.front, h.2, w.whole ∙ ap (λ t. w.front ++ t) (h.3 ∙ ap (λ r. encode_utf8 h.0 ++ r) none ∙ append-nil (encode_utf8 h.0))))
    (λ no.
    let kept : kept_end is_whitespace 0 (spans_from 0 (pieces (b ∷ s))) ≡ 0 + sizes (pieces (b ∷ s)) = rw w.are (kept-other (decoded w.tail) w.before 0 0 no) in
    inr (take_all _ (b ∷ s) (omega (arith, pieces-sizes (length (b ∷ s)) (b ∷ s) (omega arith), kept))))
    (start-cases w.tail)

end-other : (bs : List ℕ) → (EndsWhite bs → ⊥) → trim_end_by is_whitespace bs ≡ bs
end-other bs other = ⊎_elim (λ h. absurd (other h)) (λ e. e) (end-cases bs)

ends_or_not : (bs : List ℕ) → EndsWhite bs ⊎ (EndsWhite bs → ⊥)
ends_or_not bs = ⊎_elim inl (λ same. inr (λ h.
    let cut : trim_end_by is_whitespace bs ≡ trim_end_by is_whitespace h.1 = ap (trim_end_by is_whitespace) h.3 ∙ end-white h.1 h.0 h.2 in
    let shorter = length-take (kept_end is_whitespace 0 (spans_from 0 (pieces h.1))) h.1 in
    omega (arith, some_bytes h.0, length-append h.1 (encode_utf8 h.0), ap length h.3, ap length same, ap length cut))) (end-cases bs)

-- a text without white space at its ends stays as it is
pub trim-stays : (s : List ℕ) → (BeginsWhite s → ⊥) → (EndsWhite s → ⊥) → trim s ≡ s
unfolding trim
trim-stays s front end = ap (trim_end_by is_whitespace) (start-other s front) ∙ end-other s end

no-white : (s : List ℕ) → length s ≤ 0 → BeginsWhite s → ⊥
no-white s le h = omega (arith, some_bytes h.0, length-append (encode_utf8 h.0) h.1, ap length h.3)

no-white-end : (s : List ℕ) → length s ≤ 0 → EndsWhite s → ⊥
no-white-end s le h = omega (arith, some_bytes h.0, length-append h.1 (encode_utf8 h.0), ap length h.3)

pub trim-nil : trim [] ≡ []
trim-nil = trim-stays [] (no-white [] (omega arith)) (no-white-end [] (omega arith))

-- ---- white space at either end doesn't matter

pub trim-white_start : (c : ℕ) (s : List ℕ) → is_whitespace c ≡ true → trim (encode_utf8 c ++ s) ≡ trim s
unfolding trim
trim-white_start c s white = ap (trim_end_by is_whitespace) (start-white c s white)

-- what follows a text doesn't change the text's first character, if it begins with a whole character
pub begins-before : (s t : List ℕ) → StartsClean t → 0 < length s → BeginsWhite (s ++ t) → BeginsWhite s
begins-before s t whole_char some h =
    let both = pieces-append (length s) s t (omega arith) whole_char in
    let whole = pieces-step (s ++ t) (omega (arith, length-append s t)) in
    let part = pieces-step s some in
    let heads : decoded (s ++ t) ∷ pieces (drop (decoded (s ++ t)).size (s ++ t)) ≡ decoded s ∷ (pieces (drop (decoded s).size s) ++ pieces t) =
    sym whole ∙ both ∙ ap (λ l. l ++ pieces t) part in
    let stays : decoded (s ++ t) ≡ decoded s = cc in
    begins s (Some h.0) (ap (λ (p : Decoded). p.char) (sym stays ∙ ap decoded h.3 ∙ reads h.0 h.2 h.1)) h.2

-- trimming a longer text at its start leaves all that follows, or also trims that
abbrev TrimsBefore : List ℕ → List ℕ → Type 0
TrimsBefore t s = (trim_start_by is_whitespace (s ++ t) ≡ trim_start_by is_whitespace s ++ t)
    ⊎ ((trim_start_by is_whitespace (s ++ t) ≡ trim_start_by is_whitespace t) × (trim_start_by is_whitespace s ≡ []))

start-before : (f : ℕ) (s t : List ℕ) → StartsClean t → length s ≤ f → TrimsBefore t s
start-before f [] t whole_char le = inr (refl, start-other [] (no-white [] (omega arith)))
start-before zero (b ∷ s) t whole_char le = absurd (omega arith)
start-before (suc f) (b ∷ s) t whole_char le = ⊎_elim (λ h.
    let shorter : length h.1 ≤ f = omega (arith, some_bytes h.0, length-append (encode_utf8 h.0) h.1, ap length h.3) in
    subst (TrimsBefore t) (sym h.3)
    (rw (append_assoc (encode_utf8 h.0) h.1 t, start-white h.0 (h.1 ++ t) h.2, start-white h.0 h.1 h.2) (start-before f h.1 t whole_char shorter)))
    (λ other. inl (start-other ((b ∷ s) ++ t) (λ h. other (begins-before (b ∷ s) t whole_char (omega arith) h)) ∙ ap (λ r. r ++ t) (sym (start-other (b ∷ s) other))))
    (begins_or_not (b ∷ s))

pub trim-white_end : (c : ℕ) (s : List ℕ) → is_whitespace c ≡ true → trim (s ++ encode_utf8 c) ≡ trim s
unfolding trim
trim-white_end c s white = ⊎_elim
    (λ e. ap (trim_end_by is_whitespace) e ∙ end-white (trim_start_by is_whitespace s) c white)
    (λ e. ap (trim_end_by is_whitespace) (e.0 ∙ ap (trim_start_by is_whitespace) (sym (append-nil (encode_utf8 c))) ∙ start-white c [] white ∙ start-other [] (no-white [] (omega arith)) ∙ sym e.1))
    (start-before (length s) s (encode_utf8 c) (clean c white) (omega arith))

pub trim-whites_start : (cs : List ℕ) (s : Text) → AreWhite cs → trim (encode_utf8_all cs ++ s) ≡ trim s
trim-whites_start [] s all = refl
trim-whites_start (c ∷ cs) s all =
    ap trim (append_assoc (encode_utf8 c) (encode_utf8_all cs) s) ∙ trim-white_start c (encode_utf8_all cs ++ s) all.0 ∙ trim-whites_start cs s all.1

pub trim-whites_end : (cs : List ℕ) (s : Text) → AreWhite cs → trim (s ++ encode_utf8_all cs) ≡ trim s
trim-whites_end [] s all = ap trim (append-nil s)
trim-whites_end (c ∷ cs) s all =
    ap trim (sym (append_assoc s (encode_utf8 c) (encode_utf8_all cs))) ∙ trim-whites_end cs (s ++ encode_utf8 c) all.1 ∙ trim-white_end c s all.0

-- ---- trimming removes the longest run

pub trimmed-same : (s t : List ℕ) → IsTrimmed s t → t ≡ trim s
trimmed-same s t (left, start, end) =
    let back = encode_utf8_all end.white in
    let stays = trim-stays t (λ b. start.longest (b.0, b.1 ++ back, b.2, end.whole ∙ ap (λ r. r ++ back) b.3 ∙ append_assoc (encode_utf8 b.0) b.1 back)) end.longest in
    cc (start.whole, trim-whites_start start.white left start.are_white, end.whole, trim-whites_end end.white t end.are_white)

start-made : (f : ℕ) (s : List ℕ) → length s ≤ f → (left : List ℕ) × IsTrimmedStart s left
start-made zero s le = (s, record { white = []; are_white = tt; whole = refl; longest = no-white s le })
start-made (suc f) s le = ⊎_elim (λ h.
    let w = start-made f h.1 (omega (arith, some_bytes h.0, length-append (encode_utf8 h.0) h.1, ap length h.3)) in (
      w.0,
      record {
        white = h.0 ∷ w.1.white;
        are_white = (h.2, w.1.are_white);
        whole = h.3 ∙ ap (λ r. encode_utf8 h.0 ++ r) w.1.whole ∙ sym (append_assoc (encode_utf8 h.0) (encode_utf8_all w.1.white) w.0);
        longest = w.1.longest;
      },
    )) (λ other. (s, record { white = []; are_white = tt; whole = refl; longest = other })) (begins_or_not s)

end-made : (f : ℕ) (s : List ℕ) → length s ≤ f → (left : List ℕ) × IsTrimmedEnd s left
end-made zero s le = (s, record { white = []; are_white = tt; whole = sym (append-nil s); longest = no-white-end s le })
end-made (suc f) s le = ⊎_elim (λ h.
    let w = end-made f h.1 (omega (arith, some_bytes h.0, length-append h.1 (encode_utf8 h.0), ap length h.3)) in (
      w.0,
      record {
        white = w.1.white ++ h.0 ∷ [];
        are_white = all_append _ w.1.white (h.0 ∷ []) w.1.are_white (h.2, tt);
        whole = cc (h.3, w.1.whole, append_assoc w.0 (encode_utf8_all w.1.white) (encode_utf8 h.0), append-nil (encode_utf8 h.0), encodes-append w.1.white (h.0 ∷ []));
        longest = w.1.longest;
      },
    )) (λ other. (s, record { white = []; are_white = tt; whole = sym (append-nil s); longest = other })) (ends_or_not s)

pub trimmed-made : (s t : List ℕ) → t ≡ trim s → IsTrimmed s t
trimmed-made s t e =
    let start = start-made (length s) s (omega arith) in
    let end = end-made (length start.0) start.0 (omega arith) in
    let same : end.0 ≡ t = trimmed-same s end.0 (start.0, start.1, end.1) ∙ sym e in
    (start.0, start.1, subst (IsTrimmedEnd start.0) same end.1)

-- a text split into white space in front, what trimming leaves, and white space at the end
pub record Parts (s : List ℕ) : Type 0 where
  pub front : List ℕ
  pub end : List ℕ
  pub whole : s ≡ front ++ (trim s ++ end)
  pub no_front : BeginsWhite (trim s) → ⊥
  pub no_end : EndsWhite (trim s) → ⊥

pub parts : (s : List ℕ) → Parts s
parts s =
    let h = trimmed-made s (trim s) refl in
    let end = encode_utf8_all h.2.white in
    record {
      front = encode_utf8_all h.1.white;
      end = end;
      whole = cc (h.1.whole, h.2.whole);
      no_front = λ b. h.1.longest (b.0, b.1 ++ end, b.2, h.2.whole ∙ ap (λ r. r ++ end) b.3 ∙ append_assoc (encode_utf8 b.0) b.1 end);
      no_end = h.2.longest;
    }

-- a text that trimming doesn't shorten is unchanged
pub whole : (s : List ℕ) → length (trim s) ≡ length s → s ≡ trim s
whole s same =
    let p = parts s in
    let long = ap length p.whole ∙ length-append p.front (trim s ++ p.end) in
    let front : p.front ≡ [] = nil_from_length p.front (omega (arith, long, length-append (trim s) p.end)) in
    let end : p.end ≡ [] = nil_from_length p.end (omega (arith, long, length-append (trim s) p.end)) in
    p.whole ∙ rw (front, end) (append-nil (trim s))
