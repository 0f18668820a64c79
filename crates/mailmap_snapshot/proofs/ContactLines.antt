-- The texts that are the lines of contacts.
use Rattle.std.proofs.Common.{◌≡◌, ◌≢◌, ◌⊎◌, ◌-◌, ◌<◌, ◌&&◌, ◌==◌, ℕ, Bool, true, false, nat_lt, List, [], ◌∷◌, ◌++◌, length, map, slice_index, take, take_all, ⊎_elim, inl, inr, append-nil, append_assoc, refl, sym, ap, subst, ◌∙◌, arith}
use Rattle.std.specs.List.{AllByRecursion, AllZip}
use Rattle.std.proofs.lemmas.Bool.{cases_Bool, cond-true, cond-false, ltb-true, ne_eqb, eq-eqb, eqb-true, and_from, and_parts, and_right}
use Rattle.std.proofs.lemmas.Bool.Decides.{nat_tests}
use Rattle.std.proofs.lemmas.List.{map-append, get_or_append_left, get_or_push, length_push, take_at}
use Rattle.bstr.specs.Text.{lines_of, no_cr, without_terminator}
use Rattle.bstr.proofs.lemmas.LineLemmas.{lines-nil, lines-one}
use Rattle.mailmap_entries.specs.Folding.{Text}
use Rattle.mailmap_grammar.specs.Lines.{HoldsNo, with_line_feeds, pieces}
use Rattle.mailmap_grammar.proofs.LineFeeds.{all_parts, are_pieces}
use Rattle.mailmap_grammar.proofs.LineParts.{lines_of-append}
use Rattle.mailmap_grammar.proofs.Plain.{last_at}
use Rattle.mailmap_grammar.proofs.SplitOnce.{held_at}
use Rattle.mailmap_snapshot.specs.Contacts.{AreLines, IsWithoutReturn, contact_lines}
use Rattle.mailmap_grammar.specs.LineParts.{EndsLine}

abbrev ends_with : ℕ → List ℕ → Bool
ends_with b s = nat_lt 0 (length s) && slice_index s (length s - 1) == b

module _ (front : List ℕ) (b : ℕ) where
  last_byte : slice_index (front ++ b ∷ []) (length (front ++ b ∷ []) - 1) ≡ b
  last_byte = get_or_push front b 0 _ (omega (arith, length_push front b))

  without_last : take (length (front ++ b ∷ []) - 1) (front ++ b ∷ []) ≡ front
  without_last = take_at front (b ∷ []) _ (omega (arith, length_push front b))

  is_ended : ends_with b (front ++ b ∷ []) ≡ true
  is_ended = and_from _ _ (grind (arith, nat_tests, length_push)) (eq-eqb _ _ last_byte)

no_cr-ended : (line : List ℕ) → no_cr (line ++ 13 ∷ []) ≡ line
no_cr-ended line = cond-true _ _ _ (is_ended line 13) ∙ without_last line 13

no_cr-cases : (s : List ℕ) → (s ≡ no_cr s ++ 13 ∷ []) ⊎ ((no_cr s ≡ s) × (ends_with 13 s ≡ false))
no_cr-cases s = ⊎_elim (λ yes.
    let both = and_parts _ _ yes in
    let some : 0 < length s = ltb-true 0 (length s) both.0 in
    let whole = last_at s (length s - 1) (length s) 13 (omega arith) (omega arith) (eqb-true _ _ both.1) in
    inl (sym (take_all (length s) s (omega arith)) ∙ whole ∙ ap (λ l. l ++ 13 ∷ []) (sym (cond-true _ _ _ yes))))
    (λ no. inr (cond-false _ _ _ no, no)) (cases_Bool (ends_with 13 s))

-- each piece has one line without its carriage return
without_return : (piece : Text) → IsWithoutReturn piece (no_cr piece)
without_return piece = grind (arith, is_ended, no_cr-cases)

only_without : (piece line : Text) → IsWithoutReturn piece line → no_cr piece ≡ line
only_without piece line (inl return) = ap no_cr return ∙ no_cr-ended line
only_without piece line (inr (same, other)) = ⊎_elim
    (λ (is : piece ≡ no_cr piece ++ 13 ∷ []). absurd (other (no_cr piece) (sym same ∙ is))) (λ kept. sym kept.0 ∙ same)
    (without_return piece)

-- the lines after whole lines
pub contact_lines-append : (xs ys : Text) → EndsLine xs
    → contact_lines (xs ++ ys) ≡ contact_lines xs ++ contact_lines ys
contact_lines-append xs ys ends = ap (map without_terminator) (lines_of-append xs ys ends) ∙ map-append without_terminator (lines_of xs) (lines_of ys)

-- the lines of a piece, its line feed, and more text
contact_lines-line : (piece rest : Text) → HoldsNo 10 piece
    → contact_lines (piece ++ 10 ∷ rest) ≡ no_cr piece ∷ contact_lines rest
contact_lines-line piece rest h =
    let long = length_push piece 10 in
    let one : lines_of (piece ++ 10 ∷ []) ≡ (piece ++ 10 ∷ []) ∷ [] = lines-one (piece ++ 10 ∷ []) (omega (arith, long)) (λ k l is.
    held_at 10 piece k h (omega (arith, l, long)) (sym (get_or_append_left piece (10 ∷ []) 0 k (omega (arith, l, long))) ∙ is)) in
    ap contact_lines (sym (append_assoc piece (10 ∷ []) rest)) ∙ contact_lines-append (piece ++ 10 ∷ []) rest (inr (piece, refl))
    ∙ ap (λ ls. map without_terminator ls ++ contact_lines rest) one
    ∙ ap (λ l. l ∷ contact_lines rest) (cond-true _ _ _ (is_ended piece 10) ∙ ap no_cr (without_last piece 10))

-- the lines of a piece without a line feed
pub contact_lines-open : (l : Text) → HoldsNo 10 l → l ≢ [] → contact_lines l ≡ l ∷ []
contact_lines-open [] h some = absurd (some refl)
contact_lines-open (b ∷ l) h some = grind (arith, lines-one, held_at, cond-false, and_right, ne_eqb)

pub contact_lines-nil : contact_lines [] ≡ []
contact_lines-nil = ap (map without_terminator) lines-nil

-- the lines of pieces with their line feeds, and of more text
contact_lines-with_line_feeds : (ps : List Text) (rest : Text) → AllByRecursion (HoldsNo 10) ps
    → contact_lines (with_line_feeds ps ++ rest) ≡ map no_cr ps ++ contact_lines rest
contact_lines-with_line_feeds [] rest h = refl
contact_lines-with_line_feeds (p ∷ ps) rest h =
    grind (arith, contact_lines-with_line_feeds ps rest h.1, append_assoc, contact_lines-line)

each_without : (ps : List Text) → AllZip IsWithoutReturn ps (map no_cr ps)
each_without [] = tt
each_without (p ∷ ps) = (without_return p, each_without ps)

all_without : (ps ls : List Text) → AllZip IsWithoutReturn ps ls → map no_cr ps ≡ ls
all_without [] [] all = refl
all_without [] (l ∷ ls) all = absurd all
all_without (p ∷ ps) [] all = absurd all
all_without (p ∷ ps) (l ∷ ls) all = λ i. only_without p l all.0 i ∷ all_without ps ls all.1 i

-- no other texts are the lines
pub contact_lines_are : (s : Text) (ls : List Text) → AreLines s ls → contact_lines s ≡ ls
contact_lines_are s ls are =
    let bare = all_without are.ended are.bare are.each in
    let ended = λ (rest : Text). contact_lines-with_line_feeds are.ended rest are.no_feed in
    ⊎_elim (λ (is, ls_are). cc (ended [], contact_lines-nil, append-nil (with_line_feeds are.ended), append-nil (map no_cr are.ended)))
    (λ (last, some, held, is, ls_are). cc (ended last, contact_lines-open last held some)) are.whole

pub are_lines : (s : Text) (ls : List Text) → contact_lines s ≡ ls → AreLines s ls
are_lines s ls e =
    let are = are_pieces s (pieces s) refl in
    let made : (ls : List Text) × AreLines s ls = ⊎_elim
    (λ w. (_, record { ended = pieces s; bare = _; each = each_without (pieces s); no_feed = are.no_feed; whole = inl (w, refl) }))
    (λ w.
    let all = all_parts (HoldsNo 10) w.0 (w.1 ∷ []) (subst (AllByRecursion (HoldsNo 10)) w.2 are.no_feed) in
    (_, record { ended = w.0; bare = _; each = each_without w.0; no_feed = all.0; whole = inr (w.1, w.3, all.1.0, w.4, refl) }))
    are.whole in
    subst (AreLines s) (sym (contact_lines_are s made.0 made.1) ∙ e) made.1
