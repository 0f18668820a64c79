-- A search among texts in ascending order.
use Rattle.std.proofs.Common.{◌≡◌, ◌≢◌, ◌<◌, ◌⊎◌, ⊎_elim, ℕ, Bool, true, false, ◌||◌, List, [], ◌∷◌, length, get_or, Result, Ok, Err, Ordering, Less, Equal, Greater, refl, sym, ap, ◌∙◌, inl, inr, arith}
use Rattle.std.specs.Prelude.{HoldsAt, bytes_eq, is_ok}
use Rattle.std.specs.Global.{Vec}
use Rattle.std.specs.Cmp.{tied_itself}
use Rattle.std.specs.Cmp.Lexicographic.{nat_list_cmp_total}
use Rattle.std.specs.List.{list_any}
use Rattle.std.specs.List.Sorted.{IsBinarySearchResult, IsSearchInRange}
use Rattle.std.proofs.lemmas.Bool.{cases_Bool, cond-true, cond-false, false_from_ne_true}
use Rattle.std.proofs.lemmas.Bool.Decides.{leb_tells}
use Rattle.std.proofs.lemmas.List.Folds.{list_any_at, list_any_none}
use Rattle.std.proofs.lemmas.List.Sorted.{searchable_from_sorted}
use Rattle.std.proofs.lemmas.Map.Lookups.{exact_bytes}
use Rattle.std.proofs.lemmas.Slice.Eq.{bytes_eq-Decides}
use Rattle.mailmap_entries.specs.Folding.{Text, text_cmp}
use Rattle.mailmap_names.specs.Keys.{ascending, has_common, inserted, is_among}
use Rattle.mailmap_entries.specs.Texts.{texts}
use Rattle.mailmap_names.specs.Private.{AreSorted}
use Rattle.mailmap_names.proofs.Orders.{le}
use Rattle.mailmap_names.proofs.Spelling.{list_any-map}

swapped : (a b c : Bool) → (a || (b || c)) ≡ (b || (a || c))
swapped true true c = refl
swapped true false c = refl
swapped false b c = refl

any_inserted : (p : Text → Bool) (x : Text) (l : List Text) → list_any p (inserted x l) ≡ (p x || list_any p l)
any_inserted p x [] = refl
any_inserted p x (y ∷ l) = elim (cases_Bool (le x y)) as (λ _. list_any p (inserted x (y ∷ l)) ≡ (p x || list_any p (y ∷ l))) [
  | inl h ↦ ap (list_any p) (cond-true (le x y) (x ∷ y ∷ l) (y ∷ inserted x l) h)
  | inr h ↦ ap (list_any p) (cond-false (le x y) (x ∷ y ∷ l) (y ∷ inserted x l) h) ∙ ap (λ b. p y || b) (any_inserted p x l) ∙ swapped (p y) (p x) (list_any p l)
]

pub any_ascending : (p : Text → Bool) (l : List Text) → list_any p (ascending l) ≡ list_any p l
any_ascending p [] = refl
any_ascending p (x ∷ l) = any_inserted p x (ascending l) ∙ ap (λ b. p x || b) (any_ascending p l)

pub common_sorted : (these : List (Vec ℕ)) (a b : List Text) → texts these ≡ ascending a → list_any (λ w. is_among b w.items) these ≡ has_common a b
common_sorted these a b is = sym (list_any-map (is_among b) (λ (v : Vec ℕ). v.items) these) ∙ ap (list_any (is_among b)) is ∙ any_ascending (is_among b) a

unequal : (x y : Text) → text_cmp y x ≢ Equal → bytes_eq y x ≡ false
unequal x y apart = false_from_ne_true (bytes_eq y x) (λ e. apart (ap (λ t. text_cmp t x) ((bytes_eq-Decides y x).0 e) ∙ tied_itself nat_list_cmp_total x))

not_equal : {o : Ordering} → (o ≡ Less) ⊎ (o ≡ Greater) → o ≢ Equal
not_equal (inl e) h = cc
not_equal (inr e) h = cc

found_at : (found : List (Vec ℕ)) (x : Text) (i : ℕ) → i < length found → HoldsAt (λ y. text_cmp y.items x ≡ Equal) found i → list_any (λ v. bytes_eq v.items x) found ≡ true
found_at [] x i within at = absurd (omega arith)
found_at (v ∷ vs) x i within at =
    let y : Text = (get_or (v ∷ vs) i v).items in
    list_any_at (λ w. bytes_eq w.items x) (v ∷ vs) i v within ((bytes_eq-Decides y x).1 (exact_bytes y x (at v)))

module _ (found : List (Vec ℕ)) (x : Text) (sorted : AreSorted found) where
  searched : (r : Result ℕ ℕ) → IsSearchInRange r (length found) → IsBinarySearchResult (λ y. text_cmp y.items x) found r → is_ok r ≡ list_any (λ v. bytes_eq v.items x) found
  searched (Ok i) within at = sym (found_at found x i within at)
  searched (Err i) within at =
      let parts = at (searchable_from_sorted nat_list_cmp_total (λ (v : Vec ℕ). v.items) found x sorted) in
      sym (list_any_none (λ v. bytes_eq v.items x) found (λ k d l. unequal x (get_or found k d).items (⊎_elim (λ high. not_equal (inr (parts.1 k d high.1 l))) (λ low. not_equal (inl (parts.0 k d (omega arith) low.1))) (leb_tells i k))))

  pub found_is : (r : Result ℕ ℕ) (l : List Text) → IsSearchInRange r (length found) → IsBinarySearchResult (λ y. text_cmp y.items x) found r → texts found ≡ ascending l → is_ok r ≡ is_among l x
  found_is r l within at is = searched r within at ∙ sym (list_any-map (λ t. bytes_eq t x) (λ (v : Vec ℕ). v.items) found) ∙ ap (list_any (λ t. bytes_eq t x)) is ∙ any_ascending (λ t. bytes_eq t x) l
