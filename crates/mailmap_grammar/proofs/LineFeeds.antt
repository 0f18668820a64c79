-- A text split at its line feeds.
use Rattle.std.proofs.Common.{◌≡◌, ◌≢◌, ◌≤◌, ℕ, zero, suc, List, [], ◌∷◌, ◌++◌, length, length-append, ⊎_elim, inl, inr, append-nil, append_assoc, arith, refl, sym, ap, subst, ◌∙◌}
use Rattle.std.specs.List.{AllByRecursion}
use Rattle.std.proofs.lemmas.Bool.{cond-false, ne_eqb}
use Rattle.mailmap_entries.specs.Folding.{Text}
use Rattle.mailmap_grammar.specs.Lines.{ArePieces, HoldsNo, with_line_feeds, pieces, with_first}
use Rattle.mailmap_grammar.proofs.SplitOnce.{none_held, once-cases}

-- a line and its line feed make one piece
pub pieces-line : (l rest : List ℕ) → HoldsNo 10 l → pieces (l ++ 10 ∷ rest) ≡ l ∷ pieces rest
unfolding pieces
pieces-line [] rest h = refl
pieces-line (b ∷ l) rest h = cond-false _ _ _ (ne_eqb b 10 h.0) ∙ ap (with_first b) (pieces-line l rest h.1)

-- a text without a line feed is one piece
pub pieces-open : (l : List ℕ) → HoldsNo 10 l → l ≢ [] → pieces l ≡ l ∷ []
unfolding pieces
pieces-open [] h some = absurd (some refl)
pieces-open (b ∷ []) h some = cond-false _ _ _ (ne_eqb b 10 h.0)
pieces-open (b ∷ c ∷ l) h some = cond-false _ _ _ (ne_eqb b 10 h.0) ∙ ap (with_first b) (pieces-open (c ∷ l) h.1 (λ e. cc))

-- lines with their line feeds, followed by more text
pub pieces-with_line_feeds : (ls : List Text) (rest : Text) → AllByRecursion (HoldsNo 10) ls → pieces (with_line_feeds ls ++ rest) ≡ ls ++ pieces rest
pieces-with_line_feeds [] rest h = refl
pieces-with_line_feeds (l ∷ ls) rest h = grind (arith, pieces-with_line_feeds ls rest h.1, append_assoc, pieces-line)

pub pieces-nil : pieces [] ≡ []
unfolding pieces
pieces-nil = refl

-- what holds for all elements holds for those of both parts
pub all_parts : (P : Text → Type 0) (xs ys : List Text) → AllByRecursion P (xs ++ ys) → AllByRecursion P xs × AllByRecursion P ys
all_parts P [] ys all = (tt, all)
all_parts P (x ∷ xs) ys all = let rest = all_parts P xs ys all.1 in ((all.0, rest.0), rest.1)

-- no other texts are the lines of the buffer
pub pieces-are : (s : Text) (ls : List Text) → ArePieces s ls → pieces s ≡ ls
pieces-are s ls are = ⊎_elim
    (λ e. ap pieces (e ∙ sym (append-nil (with_line_feeds ls))) ∙ pieces-with_line_feeds ls [] are.no_feed ∙ ap (λ ps. ls ++ ps) pieces-nil ∙ append-nil ls)
    (λ h.
    let all = all_parts (HoldsNo 10) h.0 (h.1 ∷ []) (subst (AllByRecursion (HoldsNo 10)) h.2 are.no_feed) in
    ap pieces h.4 ∙ pieces-with_line_feeds h.0 h.1 all.0 ∙ ap (λ ps. h.0 ++ ps) (pieces-open h.1 all.1.0 h.3) ∙ sym h.2)
    are.whole

-- one more line in front
more : (line s : Text) (ls : List Text) → HoldsNo 10 line → ArePieces s ls → ArePieces (line ++ 10 ∷ s) (line ∷ ls)
more line s ls held are = record {
  no_feed = (held, are.no_feed);
  whole = ⊎_elim (λ e. inl (cc (append_assoc line (10 ∷ []) (with_line_feeds ls))))
      (λ w. inr (line ∷ w.0, w.1, ap (λ l. line ∷ l) w.2, w.3, cc (w.4, append_assoc (line ++ 10 ∷ []) (with_line_feeds w.0) w.1, append_assoc line (10 ∷ []) (with_line_feeds w.0 ++ w.1))))
      are.whole;
}

pieces-made : (f : ℕ) (s : Text) → length s ≤ f → ArePieces s (pieces s)
pieces-made f [] le = rw pieces-nil (record { no_feed = tt; whole = inl refl })
pieces-made zero (b ∷ s) le = absurd (omega arith)
pieces-made (suc f) (b ∷ s) le = ⊎_elim
    (λ whole. rw (pieces-open (b ∷ s) whole (λ e. cc)) (record { no_feed = (whole, tt); whole = inr ([], b ∷ s, refl, (λ e. cc), refl) }))
    (λ (line, rest, held, is).
    let inner = pieces-made f rest (omega (arith, ap length is, length-append line (10 ∷ rest))) in
    subst (λ t. ArePieces t (pieces t)) (sym is) (rw (pieces-line line rest held) (more line rest (pieces rest) held inner)))
    (once-cases 10 (b ∷ s))

pub are_pieces : (s : Text) (ls : List Text) → pieces s ≡ ls → ArePieces s ls
are_pieces s ls e = subst (ArePieces s) e (pieces-made (length s) s (omega arith))

-- no piece contains a line feed
pub pieces-hold_no : (s : List ℕ) → AllByRecursion (HoldsNo 10) (pieces s)
pieces-hold_no s = (are_pieces s (pieces s) refl).no_feed

length-with_first : (b : ℕ) (ps : List Text) → length (with_first b ps) ≤ suc (length ps)
length-with_first b ps = grind arith

-- there are no more lines than bytes
pub length-pieces : (s : Text) → length (pieces s) ≤ length s
unfolding pieces
length-pieces [] = omega arith
length-pieces (b ∷ s) = grind (arith, length-with_first b (pieces s), length-pieces s)

pub ruleset open_laws = (pieces-open, pieces-nil, none_held)
