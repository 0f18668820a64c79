-- A text split at its first `<` and the first `>` after it.
use Rattle.std.proofs.Common.{◌≡◌, ℕ, List, ◌∷◌, ◌++◌, ap, ◌∙◌, ⊎_elim}
use Rattle.mailmap_grammar.specs.Lines.{cut_at_opening, cut_at_closing, cut, Absent, Unclosed, Closed, HoldsNo, IsCut, IsUnclosed}
use Rattle.mailmap_grammar.proofs.SplitOnce.{once-cases, once-none, once-some}

-- exactly one of three cases holds for each text
pub data Kind (s : List ℕ) : Type 0 where
  absent_kind : HoldsNo 60 s → cut s ≡ Absent → Kind s
  unclosed_kind : IsUnclosed s → cut s ≡ Unclosed → Kind s
  closed_kind : (a b c : List ℕ) → IsCut s a b c → cut s ≡ Closed a b c → Kind s

pub cut-absent : (s : List ℕ) → HoldsNo 60 s → cut s ≡ Absent
cut-absent s h = ap cut_at_opening (once-none 60 s h)

pub cut-unclosed : (s : List ℕ) → IsUnclosed s → cut s ≡ Unclosed
cut-unclosed s h = ap cut h.whole ∙ ap cut_at_opening (once-some 60 h.before h.after h.no_opening) ∙ ap (cut_at_closing h.before) (once-none 62 h.after h.no_closing)

pub cut-cut_at_closing : (s a b c : List ℕ) → IsCut s a b c → cut s ≡ Closed a b c
cut-cut_at_closing s a b c h = ap cut h.whole ∙ ap cut_at_opening (once-some 60 a (b ++ 62 ∷ c) h.no_opening) ∙ ap (cut_at_closing a) (once-some 62 b c h.no_closing)

pub kind : (s : List ℕ) → Kind s
kind s = ⊎_elim (λ h. absent_kind h (cut-absent s h)) (λ h. ⊎_elim (λ k.
    let is : IsUnclosed s = record { before = h.0; after = h.1; whole = h.3; no_opening = h.2; no_closing = k } in
    unclosed_kind is (cut-unclosed s is)) (λ k.
    let is : IsCut s h.0 k.0 k.1 = record { whole = h.3 ∙ ap (λ t. h.0 ++ 60 ∷ t) k.3; no_opening = h.2; no_closing = k.2 } in
    closed_kind h.0 k.0 k.1 is (cut-cut_at_closing s h.0 k.0 k.1 is)) (once-cases 62 h.1)) (once-cases 60 s)

pub absent-cut : (s : List ℕ) → cut s ≡ Absent → HoldsNo 60 s
absent-cut s e = elim (kind s) [ absent_kind h f ↦ h | unclosed_kind h f ↦ absurd (cc) | closed_kind a b c h f ↦ absurd (cc) ]

pub unclosed-cut : (s : List ℕ) → cut s ≡ Unclosed → IsUnclosed s
unclosed-cut s e = elim (kind s) [ absent_kind h f ↦ absurd (cc) | unclosed_kind h f ↦ h | closed_kind a b c h f ↦ absurd (cc) ]

pub cut_at_closing-cut : (s a b c : List ℕ) → cut s ≡ Closed a b c → IsCut s a b c
cut_at_closing-cut s a b c e = elim (kind s) [
  | absent_kind h f ↦ absurd (cc)
  | unclosed_kind h f ↦ absurd (cc)
  | closed_kind a' b' c' h f ↦ let ea : a' ≡ a = cc in let eb : b' ≡ b = cc in let ec : c' ≡ c = cc in rw (← ea, ← eb, ← ec) h
]
