-- Every list of mappings has a normal list.
use Rattle.std.proofs.Common.{◌≡◌, Bool, true, List, [], map, Some, None, is_eq, unwrap_or, option_map, sym, ap, subst, ◌∙◌}
use Rattle.std.specs.Cmp.{tied_itself}
use Rattle.std.specs.Cmp.Lexicographic.{nat_list_cmp_total}
use Rattle.std.specs.List.{AllByRecursion, list_any}
use Rattle.std.specs.Option.{option_and_then}
use Rattle.std.specs.Ordering.{eq_by_cmp}
use Rattle.std.specs.List.Sorted.{IsStrictlySortedBy}
use Rattle.std.proofs.lemmas.List.Elements.{All-from_recursion, All-map}
use Rattle.std.proofs.lemmas.Map.Lookups.{exact_bytes}
use Rattle.std.proofs.lemmas.Map.Views.{tells_apart}
use Rattle.mailmap_entries.specs.Entries.{Mapping}
use Rattle.mailmap_entries.specs.Folding.{text_cmp, folded}
use Rattle.mailmap_entries.specs.Semantics.{Key, key, key_cmp, first, accepted, of_key, has_key, spelling, value, IsNormal}
use Rattle.mailmap_entries.proofs.Ascending.{ordered, ordered_sorted, has_ordered, of_each, finds_key}
use Rattle.mailmap_entries.proofs.Keys.{keys_total, keys_exact}
use Rattle.mailmap_entries.proofs.Parts.{all_weaker, list_any-map, first_passes, map_back}

module _ (h : List Mapping) where
  -- an accepted entry with the email of the key spells it
  pub speller : (k : Key) → has_key (accepted h) k ≡ true → (e : Mapping) × (spelling h k.0 ≡ Some e.old_email) × (folded e.old_email ≡ k.0)
  speller k is =
      let p : Key → Bool = λ j. eq_by_cmp text_cmp k.0 j.0 in
      let any : list_any (λ e. p (key e)) (accepted h) ≡ true =
      sym (list_any-map p key (accepted h)) ∙ finds_key keys_total keys_exact p k (map key (accepted h)) (ap is_eq (tied_itself nat_list_cmp_total k.0)) is in
      let w = first_passes (λ e. p (key e)) (accepted h) any in
      (w.0, ap (option_map (λ e. e.old_email)) w.1, sym (tells_apart exact_bytes k.0 (folded w.0.old_email) w.2))

  kept_email : (k : Key) → has_key (accepted h) k ≡ true → folded (unwrap_or (spelling h k.0) []) ≡ k.0
  kept_email k is = let w = speller k is in ap (λ o. folded (unwrap_or o [])) w.1 ∙ w.2

  kept_name : (k : Key) → has_key (accepted h) k ≡ true → option_map folded (option_and_then (λ e. e.old_name) (first (of_key h k))) ≡ k.1
  kept_name k is =
      let w = first_passes (λ e. eq_by_cmp key_cmp k (key e)) (accepted h) (sym (list_any-map (eq_by_cmp key_cmp k) key (accepted h)) ∙ is) in
      ap (λ o. option_map folded (option_and_then (λ e. e.old_name) o)) w.1
      ∙ ap (λ j. j.1) (sym (tells_apart keys_exact k (key w.0) w.2))

  pub key_of_value : (k : Key) → has_key (accepted h) k ≡ true → key (value h k) ≡ k
  key_of_value (email, None) is = λ i. (kept_email (email, None) is i, None)
  key_of_value (email, Some name) is = λ i. (kept_email (email, Some name) is i, kept_name (email, Some name) is i)

  abbrev keys : List Key
  keys = ordered keys_total keys_exact (map key (accepted h))

  pub normal : List Mapping
  normal = map (value h) keys

  pub is_normal : IsNormal h normal
  unfolding normal
  is_normal =
      let back : AllByRecursion (λ k. key (value h k) ≡ k) keys =
      of_each keys_total keys_exact (λ k. key (value h k) ≡ k) keys (λ k e. key_of_value k (sym (has_ordered keys_total keys_exact (map key (accepted h)) k) ∙ e)) in
      let same : map key (map (value h) keys) ≡ keys = map_back (value h) key keys back in
      record {
        ascending = subst (IsStrictlySortedBy key_cmp) (sym same) (ordered_sorted keys_total keys_exact (map key (accepted h)));
        keys = λ k. ap (list_any (eq_by_cmp key_cmp k)) same ∙ has_ordered keys_total keys_exact (map key (accepted h)) k;
        values = All-map (λ e. e ≡ value h (key e)) (value h) keys (All-from_recursion _ keys (all_weaker keys (λ k same. ap (value h) (sym same)) back));
      }
