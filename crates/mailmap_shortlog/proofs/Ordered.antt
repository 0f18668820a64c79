-- The order of the listing, and its lines.
use Rattle.std.proofs.Common.{◌≡◌, ◌∙◌, List, [], ◌∷◌, Bool, Ordering, Less, Equal, Greater, IsPermutation, ap, map, refl, sym, true, false, true≢false}
use Rattle.std.specs.Cmp.{IsTotalOrder}
use Rattle.std.specs.List.{IsDistinct}
use Rattle.std.specs.List.Sorted.{IsSortedBy, IsStrictlySortedBy}
use Rattle.std.specs.Map.{keys_of}
use Rattle.std.specs.Ordering.{eq_by_cmp, is_eq, is_lt, nat_cmp, ordering_reverse, ordering_then}
use Rattle.std.proofs.lemmas.Cmp.{back_total, eq_by_cmp_equiv, nat_cmp_total, nat_list_cmp_total, on_total, then_total}
use Rattle.std.proofs.lemmas.List.Sorted.{IsPermutation-map}
use Rattle.std.proofs.lemmas.Map.Keys.{IsDistinct-IsPermutation, IsDistinct-from_sorted}
use Rattle.mailmap_snapshot.specs.Folding.{text_cmp}
use Rattle.mailmap_entries.proofs.Parts.{all_apply, all_map, all_mapped, all_weaker}
use Rattle.mailmap_contacts.proofs.Steps.{NoneBefore, none_before}
use Rattle.mailmap_contacts.specs.declared.occurrences.Occurrences.{Occurrences}
use Rattle.mailmap_shortlog.specs.Answers.{answer_cmp, answer_counted}
use Rattle.mailmap_shortlog.specs.Shortlog.{Counted, count_order, text_order}
use Rattle.mailmap_shortlog.specs.declared.answer.Answer.{Answer}
use Rattle.mailmap_entries.proofs.Keys.{both_equal}

pub then_nothing : (r : Ordering) → ordering_then r Equal ≡ r
then_nothing Less = refl
then_nothing Equal = refl
then_nothing Greater = refl

-- the texts of a map's answers ascend
pub texts_ascend : (es : List (Answer × Occurrences)) → IsStrictlySortedBy answer_cmp (keys_of es)
    → IsStrictlySortedBy text_order (map answer_counted es)
unfolding IsStrictlySortedBy
texts_ascend [] up = tt
texts_ascend (e ∷ es) up = (
  all_mapped answer_counted (λ c. text_order (answer_counted e) c ≡ Less) es
      (all_weaker es (λ x less. sym (then_nothing (text_order (answer_counted e) (answer_counted x))) ∙ less)
      (all_map (λ (x : Answer × Occurrences). x.0) (λ k. answer_cmp e.0 k ≡ Less) es up.0)),
  texts_ascend es up.1,
)

-- ---- by counts

-- what is sorted is so strictly if no two elements tie
module _ {X : Type 0} (cmp : X → X → Ordering) (total : IsTotalOrder cmp) (e : X → X → Bool)
    (ties : (x y : X) → cmp x y ≡ Equal → e x y ≡ true) where
  less : (x y : X) → is_lt (cmp y x) ≡ false → e x y ≡ false → (r : Ordering) → cmp x y ≡ r → r ≡ Less
  less x y not_less differ Less is = refl
  less x y not_less differ Equal is = absurd (true≢false (sym (ties x y is) ∙ differ))
  less x y not_less differ Greater is =
      absurd (true≢false (sym (ap is_lt (total.antisymm y x ∙ ap ordering_reverse is)) ∙ not_less))

  strictly : (xs : List X) → NoneBefore cmp xs → IsDistinct e xs → IsStrictlySortedBy cmp xs
  unfolding IsDistinct IsStrictlySortedBy
  strictly [] up once = tt
  strictly (x ∷ xs) up once = (
    all_apply (λ y. is_lt (cmp y x) ≡ false) (λ y. e x y ≡ false) (λ y. cmp x y ≡ Less)
        (λ y not_less differ. less x y not_less differ (cmp x y) refl) xs up.0 once.0,
    strictly xs up.1 once.1,
  )

pub count_total : IsTotalOrder count_order
count_total = then_total (on_total (λ (c : Counted). c.count) (back_total nat_cmp_total))
    (on_total (λ (c : Counted). c.text) nat_list_cmp_total)

text_total : IsTotalOrder text_order
text_total = on_total (λ (c : Counted). c.text) nat_list_cmp_total

-- a map's answers, sorted by their counts
pub counts_ascend : (es listed : List (Answer × Occurrences)) → IsStrictlySortedBy text_order (map answer_counted es)
    → IsPermutation es listed → IsSortedBy (λ a b. is_lt (count_order (answer_counted a) (answer_counted b))) listed
    → IsStrictlySortedBy count_order (map answer_counted listed)
counts_ascend es listed once moved sorted =
    let e : Counted → Counted → Bool = eq_by_cmp text_order in
    strictly count_order count_total e
    (λ x y tie. ap is_eq (both_equal (nat_cmp y.count x.count) (text_cmp x.text y.text) tie).1)
    (map answer_counted listed) (none_before count_order count_total answer_counted listed sorted)
    (IsDistinct-IsPermutation e (eq_by_cmp_equiv text_total).symm (map answer_counted es) (map answer_counted listed)
    (IsPermutation-map answer_counted es listed moved) (IsDistinct-from_sorted text_order (map answer_counted es) once))
