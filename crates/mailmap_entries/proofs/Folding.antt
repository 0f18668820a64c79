-- How the lexicographic order of texts decides: the first difference, a proper prefix, equal texts.
use Rattle.std.proofs.lemmas.Slice.Eq.{bytes_eq-Decides}
use Rattle.std.proofs.Common.{◌+◌, length, ◌⊎◌, ◌↔◌, ◌≡◌, ℕ, List, [], ◌∷◌, refl, sym, ap, ◌∙◌, arith, Ordering, Less, Equal, Greater}
use Rattle.std.specs.Ordering.{nat_cmp, ordering_then}
use Rattle.std.specs.Cmp.{nat_cmp_is}
use Rattle.std.specs.Cmp.Lexicographic.{slice_cmp}
use Rattle.std.specs.FinMap.{slice_cmp-IsAntisymmetric, nat_cmp-IsAntisymmetric}
use Rattle.mailmap_entries.specs.Folding.{Text, folded, text_cmp, IsSmaller, IsBelow}

-- the first numbers decide, unless they are equal
pub less-smaller : (xs ys : List ℕ) → slice_cmp nat_cmp xs ys ≡ Less → IsSmaller xs ys
less-smaller [] [] e = absurd (cc)
less-smaller [] (y ∷ ys) e = tt
less-smaller (x ∷ xs) [] e = absurd (cc)
less-smaller (x ∷ xs) (y ∷ ys) e = grind (arith, less-smaller xs ys)

-- and the other way round
pub smaller-less : (xs ys : List ℕ) → IsSmaller xs ys → slice_cmp nat_cmp xs ys ≡ Less
smaller-less [] [] h = absurd h
smaller-less [] (y ∷ ys) h = refl
smaller-less (x ∷ xs) [] h = absurd h
smaller-less (x ∷ xs) (y ∷ ys) h = grind (arith, smaller-less xs ys)

-- only equal texts compare as equal
pub equal-same : (xs ys : List ℕ) → slice_cmp nat_cmp xs ys ≡ Equal → xs ≡ ys
equal-same xs ys e = slice_cmp-IsAntisymmetric nat_cmp-IsAntisymmetric xs ys e

-- a text compares as equal to itself
pub same-equal : (xs : List ℕ) → slice_cmp nat_cmp xs xs ≡ Equal
same-equal [] = refl
same-equal (x ∷ xs) = ap (λ o. ordering_then o (slice_cmp nat_cmp xs xs)) (sym (nat_cmp_is x x Equal refl)) ∙ same-equal xs

-- once the rest of one of two texts, k and l bytes long, is empty, their lengths decide
pub text_cmp-end : (s t : Text) (k l : ℕ) → k + length t ≡ l + length s → (length s ≡ 0) ⊎ (length t ≡ 0) → text_cmp (folded s) (folded t) ≡ nat_cmp k l
text_cmp-end [] [] k l long empty = nat_cmp_is k l Equal (omega arith)
text_cmp-end [] (y ∷ t) k l long empty = nat_cmp_is k l Less (omega arith)
text_cmp-end (x ∷ s) [] k l long empty = nat_cmp_is k l Greater (omega arith)
text_cmp-end (x ∷ s) (y ∷ t) k l long empty = absurd (omega arith)

-- a comparison without case gives `Less` exactly if the first text is below the second
pub less_below : (a b : Text) (o : Ordering) → o ≡ text_cmp (folded a) (folded b) → (o ≡ Less) ↔ IsBelow a b
less_below a b o is = (λ e. less-smaller _ _ (sym is ∙ e), λ h. is ∙ smaller-less _ _ h)

-- a comparison without case gives `Equal` exactly if the folded texts are equal
pub equal_folded : (a b : Text) (o : Ordering) → o ≡ text_cmp (folded a) (folded b) → (o ≡ Equal) ↔ (folded a ≡ folded b)
equal_folded a b o is = (λ e. equal-same _ _ (sym is ∙ e), λ h. is ∙ ap (λ t. text_cmp t (folded b)) h ∙ same-equal (folded b))

pub ruleset cmp_laws = (equal_folded, same-equal, text_cmp-end, bytes_eq-Decides)
