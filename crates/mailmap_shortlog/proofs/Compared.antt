-- Comparing texts in parts.
use Rattle.std.proofs.Common.{◌≡◌, ◌==◌, ◌∙◌, ◌-◌, ◌<◌, ◌≤◌, zero, suc, ℕ, true, false, List, [], ◌∷◌, ◌++◌, Bor, Ordering, Less, Equal, Greater, ap, arith, drop, flat_map, get_or, length, length-drop, min, refl, sym, take}
use Rattle.std.specs.Cmp.{nat_cmp_is}
use Rattle.std.specs.Cmp.Derive.{then_next}
use Rattle.std.proofs.lemmas.Bool.{eqb-true}
use Rattle.std.proofs.lemmas.List.{nil_from_length, take_rest}
use Rattle.std.specs.Ordering.{is_ne, nat_cmp, ordering_then}
use Rattle.mailmap_snapshot.specs.Folding.{Text, text_cmp}

-- texts are compared by their fronts of one length, and then by the rest
parted : (x y u v : Text) (n : ℕ) → n ≤ length x → n ≤ length y
    → text_cmp (x ++ u) (y ++ v) ≡ ordering_then (text_cmp (take n x) (take n y)) (text_cmp (drop n x ++ u) (drop n y ++ v))
parted x y u v zero in_x in_y = refl
parted [] y u v (suc n) in_x in_y = absurd (omega (arith, in_x))
parted (a ∷ x) [] u v (suc n) in_x in_y = absurd (omega (arith, in_y))
parted (a ∷ x) (b ∷ y) u v (suc n) in_x in_y =
    ap (ordering_then (nat_cmp a b)) (parted x y u v n (omega (arith, in_x)) (omega (arith, in_y)))
    ∙ then_next (nat_cmp a b) (text_cmp (take n x) (take n y)) (text_cmp (drop n x ++ u) (drop n y ++ v)) refl refl

fronts : (x y u v : Text) (n : ℕ) (r : Ordering) → n ≤ length x → n ≤ length y → r ≡ text_cmp (take n x) (take n y)
    → ordering_then r (text_cmp (drop n x ++ u) (drop n y ++ v)) ≡ text_cmp (x ++ u) (y ++ v)
fronts x y u v n r in_x in_y is = rw is (sym (parted x y u v n in_x in_y))

then_first : (r s t : Ordering) → ordering_then r s ≡ t → is_ne r ≡ true → r ≡ t
then_first Less s t is differ = is
then_first Equal s t is differ = absurd (cc)
then_first Greater s t is differ = is

then_second : (r s t : Ordering) → ordering_then r s ≡ t → is_ne r ≡ false → s ≡ t
then_second Less s t is same = absurd (cc)
then_second Equal s t is same = is
then_second Greater s t is same = absurd (cc)

-- fronts of one length differ
pub fronts_differ : (x y u v : Text) (n : ℕ) (r : Ordering) → n ≤ length x → n ≤ length y
    → r ≡ text_cmp (take n x) (take n y) → is_ne r ≡ true → r ≡ text_cmp (x ++ u) (y ++ v)
fronts_differ x y u v n r in_x in_y is differ = then_first r _ _ (fronts x y u v n r in_x in_y is) differ

-- one of the texts is at its end
ended : (x y u v : Text) → min (length x) (length y) ≡ 0 → (length x ≡ 0 → u ≡ []) → (length y ≡ 0 → v ≡ [])
    → nat_cmp (length x) (length y) ≡ text_cmp (x ++ u) (y ++ v)
ended [] [] u v one none_u none_v = rw (none_u refl, none_v refl) refl
ended [] (b ∷ y) u v one none_u none_v = rw (none_u refl) (sym (nat_cmp_is 0 (length (b ∷ y)) Less (omega arith)))
ended (a ∷ x) [] u v one none_u none_v = rw (none_v refl) (sym (nat_cmp_is (length (a ∷ x)) 0 Greater (omega arith)))
ended (a ∷ x) (b ∷ y) u v one none_u none_v = absurd (omega (arith, one))

-- what a slice has from an index on
abbrev pub rest : {X : Type 0} → ℕ → List X → List X
rest n xs = take (length xs - n) (drop n xs)

-- the texts of parts, joined
abbrev pub joined : List (Bor Text) → Text
joined ps = flat_map (λ p. p.now) ps

pub no_parts : (ps : List (Bor Text)) → length ps < 1 → joined ps ≡ []
no_parts ps few = ap joined (nil_from_length ps (omega (arith, few)))

module _ (x y : Text) (n : ℕ) (r : Ordering) (least : n ≡ min (length x) (length y)) (is : r ≡ text_cmp (take n x) (take n y)) (same : is_ne r ≡ false) where
  rests : (u v : Text) → text_cmp (rest n x ++ u) (rest n y ++ v) ≡ text_cmp (x ++ u) (y ++ v)
  rests u v = simp take_rest (then_second r _ _ (fronts x y u v n r (omega (arith, least)) (omega (arith, least)) is) same)

  none_left : (t : Text) → (length (rest n t) == 0) ≡ true → rest n t ≡ []
  none_left t empty = nil_from_length (rest n t) (eqb-true (length (rest n t)) 0 empty)

  -- the first text continues with its next part
  pub next_of_x : (xs ys : List (Bor Text)) (d : Bor Text) → 1 ≤ length xs → (length (rest n x) == 0) ≡ true
      → text_cmp ((get_or xs 0 d).now ++ joined (rest 1 xs)) (rest n y ++ joined ys) ≡ text_cmp (x ++ joined xs) (y ++ joined ys)
  next_of_x [] ys d some empty = absurd (omega (arith, some))
  next_of_x (p ∷ ps) ys d some empty =
      rw (take_rest (p ∷ ps) 1) (rw (none_left x empty) at (rests (joined (p ∷ ps)) (joined ys)))

  -- the second text continues with its next part
  pub next_of_y : (xs ys : List (Bor Text)) (d : Bor Text) → 1 ≤ length ys → (length (rest n y) == 0) ≡ true
      → text_cmp (rest n x ++ joined xs) ((get_or ys 0 d).now ++ joined (rest 1 ys)) ≡ text_cmp (x ++ joined xs) (y ++ joined ys)
  next_of_y xs [] d some empty = absurd (omega (arith, some))
  next_of_y xs (p ∷ ps) d some empty =
      rw (take_rest (p ∷ ps) 1) (rw (none_left y empty) at (rests (joined xs) (joined (p ∷ ps))))

  -- no part is left of a text that is at its end
  pub last_of_both : (u v : Text) → ((length (rest n x) == 0) ≡ true → u ≡ []) → ((length (rest n y) == 0) ≡ true → v ≡ [])
      → nat_cmp (length (rest n x)) (length (rest n y)) ≡ text_cmp (x ++ u) (y ++ v)
  last_of_both u v none_u none_v =
      let in_x : length (rest n x) ≡ length x - n = ap length (take_rest x n) ∙ length-drop n x in
      let in_y : length (rest n y) ≡ length y - n = ap length (take_rest y n) ∙ length-drop n y in
      ended (rest n x) (rest n y) u v (omega (arith, in_x, in_y, least)) (λ e. none_u (ap (λ l. l == 0) e))
      (λ e. none_v (ap (λ l. l == 0) e)) ∙ rests u v
