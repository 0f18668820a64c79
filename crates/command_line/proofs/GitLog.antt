-- The first line of contacts that are read part by part.
use Rattle.std.proofs.Common.{◌≡◌, ◌⊎◌, ◌∙◌, ◌+◌, ℕ, List, [], ◌∷◌, ◌++◌, Option, None, Some, IfSome, ⊎_elim, ap, append-nil, arith, drop, false, refl, subst, sym, take, true}
use Rattle.std.proofs.lemmas.Bool.{cases_eq, cond-false, cond-true, eq-eqb, ne_eqb}
use Rattle.std.specs.Io.KnownBytes.{Consumes, IsAtEnd}
use Rattle.bstr.specs.Find.{IsFirstByte, is_byte}
use Rattle.mailmap_grammar.specs.Lines.{HoldsNo}
use Rattle.mailmap_grammar.proofs.SplitOnce.{held_before, none_held, split_at}
use Rattle.command_line.specs.GitLog.{first_line, has_feed}

first_line-none : (s : List ℕ) → HoldsNo 10 s → first_line s ≡ s
unfolding first_line
first_line-none [] h = refl
first_line-none (b ∷ s) h = cond-false _ _ _ (ne_eqb b 10 h.0) ∙ ap (λ t. b ∷ t) (first_line-none s h.1)

first_line-some : (a r : List ℕ) → HoldsNo 10 a → first_line (a ++ 10 ∷ r) ≡ a
unfolding first_line
first_line-some [] r h = refl
first_line-some (b ∷ a) r h = cond-false _ _ _ (ne_eqb b 10 h.0) ∙ ap (λ t. b ∷ t) (first_line-some a r h.1)

pub line_before : (s : List ℕ) (feed : ℕ) → IsFirstByte (is_byte 10) s (Some feed) → take feed s ≡ first_line s
line_before s feed first =
    sym (ap first_line (split_at 10 s feed first) ∙ first_line-some (take feed s) (drop (feed + 1) s) (held_before 10 s feed first))

pub line_without_feed : (s : List ℕ) → IsFirstByte (is_byte 10) s None → s ≡ first_line s
line_without_feed s none = sym (first_line-none s (none_held 10 s (λ k l is. none k (omega arith) l (eq-eqb _ _ is))))

-- more bytes don't change the first line once it has ended
first_line-more : (s rest : List ℕ) → has_feed s ≡ true → first_line (s ++ rest) ≡ first_line s
unfolding first_line
first_line-more [] rest has = cc
first_line-more (b ∷ s) rest has = ⊎_elim
    (λ same. cond-true _ _ _ (eq-eqb b 10 same) ∙ sym (cond-true _ _ _ (eq-eqb b 10 same)))
    (λ other. cond-false _ _ _ (ne_eqb b 10 other) ∙ ap (λ t. b ∷ t) (first_line-more s rest (rw (ne_eqb b 10 other) at has)) ∙ sym (cond-false _ _ _ (ne_eqb b 10 other)))
    (cases_eq b 10)

pub no_feed : (s : List ℕ) → has_feed s ≡ false → HoldsNo 10 s
no_feed [] none = tt
no_feed (b ∷ s) none = ⊎_elim
    (λ same. let has : true ≡ false = rw (eq-eqb b 10 same) at none in cc)
    (λ other. (other, no_feed s (rw (ne_eqb b 10 other) at none)))
    (cases_eq b 10)

-- the first line of what was read is that of the whole
pub line_of_all : (P : List ℕ → Type 0) (old new : Option (List ℕ)) (start : List ℕ) → Consumes old new start
    → (has_feed start ≡ true) ⊎ IsAtEnd new → P (first_line start) → IfSome old (λ bytes. P (first_line bytes))
line_of_all P None new start consumed whole p = tt
line_of_all P (Some x) None start consumed whole p = absurd consumed
line_of_all P (Some x) (Some y) start consumed whole p = ⊎_elim
    (λ has. subst (λ s. P (first_line s)) (sym consumed) (subst P (sym (first_line-more start y has)) p))
    (λ end. subst (λ s. P (first_line s)) (sym (consumed ∙ ap (λ l. start ++ l) end ∙ append-nil start)) p)
    whole
