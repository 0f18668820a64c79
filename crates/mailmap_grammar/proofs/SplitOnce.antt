-- A text split at the first occurrence of a byte.
use Rattle.std.proofs.Common.{◌≡◌, ◌≢◌, ◌⊎◌, ◌+◌, ◌-◌, ◌<◌, ℕ, Some, None, option_map, List, [], ◌∷◌, ◌++◌, length, take, drop, slice_index, get_or-take, length-take-le, take-append-drop, refl, ap, ◌∙◌, arith, inl, inr, ⊎_elim}
use Rattle.std.proofs.lemmas.Bool.{cases_eq, cond-true, cond-false, ne_eqb, eq-eqb, eqb-true}
use Rattle.std.proofs.lemmas.List.{drop_more, take_rest}
use Rattle.std.proofs.lemmas.List.Elements.{All-from_get_or, All-from_recursion, recursion_from_All}
use Rattle.bstr.specs.Find.{is_byte, IsFirstByte}
use Rattle.mailmap_grammar.specs.Lines.{HoldsNo, split_once}

module _ (x : ℕ) where
  pub once-none : (s : List ℕ) → HoldsNo x s → split_once x s ≡ None
  unfolding split_once
  once-none [] h = refl
  once-none (y ∷ s) h = cond-false _ _ _ (ne_eqb y x h.0) ∙ ap (option_map _) (once-none s h.1)

  pub once-some : (a r : List ℕ) → HoldsNo x a → split_once x (a ++ x ∷ r) ≡ Some (a, r)
  unfolding split_once
  once-some [] r h = cond-true _ _ _ (eq-eqb x x refl)
  once-some (y ∷ a) r h = cond-false _ _ _ (ne_eqb y x h.0) ∙ ap (option_map _) (once-some a r h.1)

  pub once-cases : (s : List ℕ) → HoldsNo x s ⊎ ((a : List ℕ) × (r : List ℕ) × HoldsNo x a × (s ≡ a ++ x ∷ r))
  once-cases [] = inl tt
  once-cases (y ∷ s) = ⊎_elim (λ same. inr ([], s, tt, ap (λ z. z ∷ s) same)) (λ other. ⊎_elim (λ h. inl (other, h))
      (λ h. inr (y ∷ h.0, h.1, (other, h.2), ap (λ t. y ∷ t) h.3)) (once-cases s)) (cases_eq y x)

  -- ---- by indices

  pub held_at : (s : List ℕ) (k : ℕ) → HoldsNo x s → k < length s → slice_index s k ≢ x
  held_at s k h lt = All-from_recursion _ s h k 0 lt

  pub none_held : (s : List ℕ) → ((k : ℕ) → k < length s → slice_index s k ≢ x) → HoldsNo x s
  none_held s none = recursion_from_All _ s (All-from_get_or (λ y. y ≢ x) s 0 none)

  pub held_before : (s : List ℕ) (k : ℕ) → IsFirstByte (is_byte x) s (Some k) → HoldsNo x (take k s)
  held_before s k h = grind (arith, h.0.before, length-take-le, none_held, eq-eqb, get_or-take)

  pub split_at : (s : List ℕ) (k : ℕ) → IsFirstByte (is_byte x) s (Some k) → s ≡ take k s ++ x ∷ drop (k + 1) s
  split_at s k h = cc (take-append-drop k s, drop_more s k 0 h.0.high, eqb-true _ _ h.1)

pub split_once-none : (b : ℕ) (s : List ℕ) → IsFirstByte (is_byte b) s None → split_once b s ≡ None
split_once-none b s h = once-none b s (none_held b s (λ k l is. h k (omega arith) l (eq-eqb _ _ is)))

-- the text after the first byte b, as the code slices it
pub split_once-some : (b : ℕ) (s : List ℕ) (k : ℕ) → IsFirstByte (is_byte b) s (Some k)
    → split_once b s ≡ Some (take k s, take (length s - (k + 1)) (drop (k + 1) s))
split_once-some b s k h = cc (split_at b s k h, once-some b (take k s) (drop (k + 1) s) (held_before b s k h), take_rest s (k + 1))

pub ruleset split_laws = (split_once-none, split_once-some)

pub ruleset held_laws = (held_at, none_held, eq-eqb, eqb-true)
