-- The lines of a text with their line feeds, and without them.
use Rattle.std.proofs.Common.{◌≡◌, ◌≢◌, ◌∙◌, ◌+◌, ℕ, List, [], ◌∷◌, ◌++◌, ap, append-nil, append_assoc, arith, inr, refl, subst, sym, ⊎_elim}
use Rattle.std.specs.List.{AllByRecursion, AllZip}
use Rattle.std.proofs.lemmas.List.{get_or_append_left, length_push}
use Rattle.bstr.specs.Text.{lines_of}
use Rattle.bstr.proofs.lemmas.LineLemmas.{lines-nil, lines-one}
use Rattle.mailmap_entries.specs.Folding.{Text}
use Rattle.mailmap_grammar.specs.Lines.{HoldsNo, pieces, with_line_feeds}
use Rattle.mailmap_grammar.specs.Trimming.{trim}
use Rattle.mailmap_grammar.proofs.LineFeeds.{all_parts, are_pieces}
use Rattle.mailmap_grammar.proofs.LineParts.{lines_of-append}
use Rattle.mailmap_grammar.proofs.SplitOnce.{held_at}
use Rattle.mailmap_grammar.proofs.Trimmed.{trim-white_end}
use Rattle.mailmap_contacts.specs.Contacts.{contacts_from, no_contacts_from}

abbrev SameTrimmed : Text → Text → Type 0
SameTrimmed line piece = trim line ≡ trim piece

-- a piece and its line feed are one line
line_ended : (piece rest : Text) → HoldsNo 10 piece → lines_of (piece ++ 10 ∷ rest) ≡ (piece ++ 10 ∷ []) ∷ lines_of rest
line_ended piece rest h =
    let long = length_push piece 10 in
    let one : lines_of (piece ++ 10 ∷ []) ≡ (piece ++ 10 ∷ []) ∷ [] = lines-one (piece ++ 10 ∷ []) (omega (arith, long)) (λ k l is.
    held_at 10 piece k h (omega (arith, l, long)) (sym (get_or_append_left piece (10 ∷ []) 0 k (omega (arith, l, long))) ∙ is)) in
    ap lines_of (sym (append_assoc piece (10 ∷ []) rest)) ∙ lines_of-append (piece ++ 10 ∷ []) rest (inr (piece, refl)) ∙ ap (λ ls. ls ++ lines_of rest) one

-- a text without a line feed is one line
line_open : (l : Text) → HoldsNo 10 l → l ≢ [] → lines_of l ≡ l ∷ []
line_open [] h some = absurd (some refl)
line_open (b ∷ l) h some = grind (arith, lines-one, held_at)

trimmed : (p : Text) → SameTrimmed (p ++ 10 ∷ []) p
unfolding lib.Utf8.encode
trimmed p = trim-white_end 10 p refl

-- lines with their line feeds, and more lines
lines_ended : (ps : List Text) (rest : Text) (more : List Text) → AllByRecursion (HoldsNo 10) ps → AllZip SameTrimmed (lines_of rest) more
    → AllZip SameTrimmed (lines_of (with_line_feeds ps ++ rest)) (ps ++ more)
lines_ended [] rest more h same = same
lines_ended (p ∷ ps) rest more h same =
    subst (λ ls. AllZip SameTrimmed ls (p ∷ (ps ++ more))) (sym (ap lines_of (append_assoc (p ++ 10 ∷ []) (with_line_feeds ps) rest ∙ append_assoc p (10 ∷ []) (with_line_feeds ps ++ rest)) ∙ line_ended p (with_line_feeds ps ++ rest) h.0))
    (trimmed p, lines_ended ps rest more h.1 same)

each_trimmed : (text : Text) → AllZip SameTrimmed (lines_of text) (pieces text)
each_trimmed text =
    let are = are_pieces text (pieces text) refl in
    ⊎_elim (λ is. subst (λ t. AllZip SameTrimmed (lines_of t) (pieces text)) (append-nil (with_line_feeds (pieces text)) ∙ sym is)
    (subst (λ ls. AllZip SameTrimmed (lines_of (with_line_feeds (pieces text) ++ [])) ls) (append-nil (pieces text))
    (lines_ended (pieces text) [] [] are.no_feed (subst (λ ls. AllZip SameTrimmed ls []) (sym lines-nil) tt))))
    (λ w.
    let all = all_parts (HoldsNo 10) w.0 (w.1 ∷ []) (subst (AllByRecursion (HoldsNo 10)) w.2 are.no_feed) in
    subst (λ t. AllZip SameTrimmed (lines_of t) (pieces text)) (sym w.4)
    (subst (λ ls. AllZip SameTrimmed (lines_of (with_line_feeds w.0 ++ w.1)) ls) (sym w.2)
    (lines_ended w.0 w.1 (w.1 ∷ []) all.0 (subst (λ ls. AllZip SameTrimmed ls (w.1 ∷ [])) (sym (line_open w.1 all.1.0 w.3)) (refl, tt)))))
    are.whole

-- ---- lines that are the same when they are trimmed have the same contacts

same_contacts : (n : ℕ) (ls ps : List Text) → AllZip SameTrimmed ls ps → contacts_from n ls ≡ contacts_from n ps
same_contacts n [] [] same = refl
same_contacts n [] (p ∷ ps) same = absurd same
same_contacts n (l ∷ ls) [] same = absurd same
same_contacts n (l ∷ ls) (p ∷ ps) same = grind (arith, same.0, same_contacts (n + 1) ls ps same.1)

same_no_contacts : (n : ℕ) (ls ps : List Text) → AllZip SameTrimmed ls ps → no_contacts_from n ls ≡ no_contacts_from n ps
same_no_contacts n [] [] same = refl
same_no_contacts n [] (p ∷ ps) same = absurd same
same_no_contacts n (l ∷ ls) [] same = absurd same
same_no_contacts n (l ∷ ls) (p ∷ ps) same = grind (arith, same.0, same_no_contacts (n + 1) ls ps same.1)

pub contacts_of_pieces : (n : ℕ) (text : Text) → contacts_from n (lines_of text) ≡ contacts_from n (pieces text)
contacts_of_pieces n text = same_contacts n (lines_of text) (pieces text) (each_trimmed text)

pub no_contacts_of_pieces : (n : ℕ) (text : Text) → no_contacts_from n (lines_of text) ≡ no_contacts_from n (pieces text)
no_contacts_of_pieces n text = same_no_contacts n (lines_of text) (pieces text) (each_trimmed text)
