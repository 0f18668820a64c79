-- The orders of keys and of entries are total, and no two different ones compare as equal.
use Rattle.std.proofs.Common.{◌≡◌, true, Option, Some, None, Ordering, Equal, is_eq, ap, arith}
use Rattle.std.specs.Prelude.{◌↔◌}
use Rattle.std.specs.Ordering.{eq_by_cmp, ordering_then}
use Rattle.std.proofs.lemmas.Map.Views.{tells_apart}
use Rattle.std.specs.Cmp.{IsTotalOrder, tied_itself}
use Rattle.std.specs.Cmp.Lexicographic.{nat_list_cmp_total, options_total}
use Rattle.std.specs.Option.{option_cmp}
use Rattle.std.proofs.lemmas.Cmp.{then_total, on_total}
use Rattle.std.proofs.lemmas.Map.Lookups.{exact_bytes, exact_pairs}
use Rattle.mailmap_entries.specs.Folding.{Text, text_cmp, folded}
use Rattle.mailmap_entries.specs.Semantics.{Key, key_cmp}
use Rattle.mailmap_entries.specs.Entries.{Mapping, mapping_cmp}
use Rattle.mailmap_entries.proofs.Folding.{equal-same}

pub keys_total : IsTotalOrder key_cmp
keys_total = then_total (on_total (λ k. k.0) nat_list_cmp_total) (on_total (λ k. k.1) (options_total nat_list_cmp_total))

pub exact_options : (x y : Option Text) → option_cmp text_cmp x y ≡ Equal → x ≡ y
exact_options None y e = grind arith
exact_options (Some x) None e = cc
exact_options (Some x) (Some y) e = ap (λ t. Some t) (exact_bytes x y e)

pub keys_exact : (x y : Key) → key_cmp x y ≡ Equal → x ≡ y
keys_exact = exact_pairs text_cmp (option_cmp text_cmp) exact_bytes exact_options

-- two comparisons in a row give `Equal` only if both do
pub both_equal : (o p : Ordering) → ordering_then o p ≡ Equal → (o ≡ Equal) × (p ≡ Equal)
both_equal o p e = (grind arith, grind arith)

-- an order that tells all keys apart compares only the same ones as equal
module _ {K : Type 0} {R : K → K → Ordering} (total : IsTotalOrder R) (exact : (x y : K) → R x y ≡ Equal → x ≡ y) where
  pub exactly : (x y : K) → (R x y ≡ Equal) ↔ (x ≡ y)
  exactly x y = (exact x y, λ e. rw (← e) (tied_itself total x))

  pub exactly_tied : (x y : K) → (eq_by_cmp R x y ≡ true) ↔ (x ≡ y)
  exactly_tied x y = (tells_apart exact x y, λ e. rw (← e) (ap is_eq (tied_itself total x)))

pub entries_total : IsTotalOrder mapping_cmp
entries_total = then_total (on_total (λ (m : Mapping). m.new_name) (options_total nat_list_cmp_total))
    (then_total (on_total (λ (m : Mapping). m.new_email) (options_total nat_list_cmp_total))
    (then_total (on_total (λ (m : Mapping). m.old_name) (options_total nat_list_cmp_total)) (on_total (λ (m : Mapping). m.old_email) nat_list_cmp_total)))

same_entry : (a b : Mapping) → mapping_cmp a b ≡ Equal → a ≡ b
same_entry a b e =
    grind (
      arith,
      exact_options a.new_name b.new_name,
      exact_options a.new_email b.new_email,
      exact_options a.old_name b.old_name,
      equal-same a.old_email b.old_email,
    )

pub entries_exact : (a b : Mapping) → (mapping_cmp a b ≡ Equal) ↔ (a ≡ b)
entries_exact = exactly entries_total same_entry

pub folded_total : IsTotalOrder (λ (a b : Text). text_cmp (folded a) (folded b))
folded_total = on_total folded nat_list_cmp_total
