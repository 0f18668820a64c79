-- Entries stay in order when one is put among them.
use Rattle.std.proofs.Common.{◌≡◌, ◌∙◌, Ordering, Less, Equal, Greater, List, [], ◌∷◌, ap, refl}
use Rattle.std.specs.BTreeMap.{insert_entry}
use Rattle.std.specs.Cmp.{IsTotalOrder}
use Rattle.std.specs.List.{AllByRecursion}
use Rattle.std.specs.List.Sorted.{IsStrictlySortedBy}
use Rattle.std.specs.Map.{keys_of}
use Rattle.std.specs.Ordering.{match_ordering, ordering_reverse}

module _ {K X : Type 0} (cmp : K → K → Ordering) (total : IsTotalOrder cmp) (k : K) (v : X) where
  abbrev put : List (K × X) → List (K × X)
  put es = insert_entry cmp es k v

  all_put : (P : K → Type 0) (es : List (K × X)) → AllByRecursion P (keys_of es) → P k → AllByRecursion P (keys_of (put es))
  all_put P [] all here = (here, tt)
  all_put P (e ∷ es) all here = elim (cmp k e.0) as (λ r. AllByRecursion P (keys_of (match_ordering r ((k, v) ∷ e ∷ es) ((e.0, v) ∷ es) (e ∷ put es)))) [
    | Less ↦ (here, all)
    | Equal ↦ all
    | Greater ↦ (all.0, all_put P es all.1 here)
  ]

  below_all : (q : K) (ks : List K) → cmp k q ≡ Less → AllByRecursion (λ x. cmp q x ≡ Less) ks → AllByRecursion (λ x. cmp k x ≡ Less) ks
  below_all q [] less all = tt
  below_all q (x ∷ ks) less all = (total.trans k q x less all.0, below_all q ks less all.1)

  pub order_kept : (es : List (K × X)) → IsStrictlySortedBy cmp (keys_of es) → IsStrictlySortedBy cmp (keys_of (put es))
  unfolding IsStrictlySortedBy
  order_kept [] up = (tt, tt)
  order_kept (e ∷ es) up = by (order_kept es up.1) (cmp k e.0) refl
    where
      by : IsStrictlySortedBy cmp (keys_of (put es)) → (r : Ordering) → cmp k e.0 ≡ r → IsStrictlySortedBy cmp (keys_of (match_ordering r ((k, v) ∷ e ∷ es) ((e.0, v) ∷ es) (e ∷ put es)))
      by rest Less is = ((is, below_all e.0 (keys_of es) is up.0), up)
      by rest Equal is = up
      by rest Greater is = (all_put (λ x. cmp e.0 x ≡ Less) es up.0 (total.antisymm e.0 k ∙ ap ordering_reverse is), rest)
