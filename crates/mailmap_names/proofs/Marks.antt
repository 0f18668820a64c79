-- The marks of names, and when two names have one in common.
use Rattle.std.proofs.Common.{◌≡◌, ℕ, true, false, ◌||◌, eqb, [], ◌∷◌, length, refl, sym, ap, ◌∙◌, arith}
use Rattle.std.specs.Prelude.{bytes_eq}
use Rattle.std.proofs.lemmas.Bool.{eqb-true, true≢false}
use Rattle.mailmap_entries.specs.Folding.{Text, folded}
use Rattle.mailmap_names.specs.Keys.{has_common, keys, marks}
use Rattle.mailmap_names.specs.Words.{words}
use Rattle.mailmap_names.proofs.Spelling.{alike, none_common}

no_empty : (x : ℕ) (a : Text) → eqb (length (x ∷ a)) 0 ≡ true → ⊥
no_empty x a e = let h : length (x ∷ a) ≡ 0 = eqb-true (length (x ∷ a)) 0 e in omega arith

pub marks_none : (name : Text) → eqb (length name) 0 ≡ true → [] ≡ marks name
unfolding marks
marks_none [] e = refl
marks_none (x ∷ name) e = absurd (no_empty x name e)

pub marks_some : (name : Text) → eqb (length name) 0 ≡ false → (110 ∷ folded name) ∷ keys name ≡ marks name
unfolding marks
marks_some [] e = absurd (true≢false e)
marks_some (x ∷ name) e = refl

pub alike_empty : (a b : Text) → eqb (length a) 0 ≡ true → false ≡ has_common (marks a) (marks b)
alike_empty a b e = ap (λ m. has_common m (marks b)) (marks_none a e)

pub alike_none : (a b : Text) → eqb (length b) 0 ≡ true → false ≡ has_common (marks a) (marks b)
alike_none a b e = sym (none_common (marks a)) ∙ ap (has_common (marks a)) (marks_none b e)

pub alike_names : (a b : Text) → eqb (length a) 0 ≡ false → eqb (length b) 0 ≡ false
    → has_common (marks a) (marks b) ≡ (bytes_eq (folded b) (folded a) || has_common (keys a) (keys b))
unfolding keys
alike_names a b e f = ap (λ m. has_common m (marks b)) (sym (marks_some a e)) ∙ ap (has_common ((110 ∷ folded a) ∷ keys a)) (sym (marks_some b f)) ∙ alike (words a) (words b) (folded a) (folded b)
