-- A normal list is alike the list that it was made from.
use Rattle.std.proofs.Common.{◌≡◌, Bool, true, cond, ◌||◌, List, [], ◌∷◌, ◌++◌, map, filter, Some, None, is_some, unwrap_or, option_map, All, subst, true≢false, refl, sym, ap, ◌∙◌, arith}
use Rattle.std.proofs.lemmas.Map.Views.{tells_apart}
use Rattle.std.specs.List.{AllByRecursion, list_any}
use Rattle.std.specs.Ordering.{eq_by_cmp}
use Rattle.std.proofs.lemmas.List.Elements.{recursion_from_All, All-filter, filter_passes}
use Rattle.std.proofs.lemmas.Map.Lookups.{exact_bytes}
use Rattle.mailmap_entries.specs.Entries.{Mapping}
use Rattle.mailmap_entries.specs.Folding.{Text, text_cmp, folded}
use Rattle.mailmap_entries.specs.Semantics.{Key, key, key_cmp, first, last, is_accepted, accepted, of_email, of_key, has_key, new_fields, no_fields, spelling, value, IsNormal}
use Rattle.mailmap_entries.proofs.Ascending.{has_itself, one_at, each_key, same_any}
use Rattle.mailmap_entries.proofs.Alike.{Alike, same_normal, alike_joined, alike_back, alike_itself}
use Rattle.mailmap_entries.proofs.Keys.{keys_total, keys_exact}
use Rattle.mailmap_entries.proofs.Parts.{all_apply, all_weaker, list_any-map, first_found, last_of_one, some_given, any_either, all_last, filter_all, first_alike, some_again, is_some-option_map}

-- ---- one entry v that represents the entries l of a key

abbrev only : Mapping → List Mapping → List Mapping
only v l = cond (is_some (first l)) (v ∷ []) []

-- ---- the value of a key is accepted

all_accepted : (p : Mapping → Bool) (h : List Mapping) → AllByRecursion (λ e. is_accepted e ≡ true) (filter p (accepted h))
all_accepted p h = recursion_from_All _ _ (All-filter p (λ e. is_accepted e ≡ true) (accepted h) (filter_passes is_accepted h))

some_accepted : (l : List Mapping) → AllByRecursion (λ e. is_accepted e ≡ true) l → is_some (first l) ≡ true → list_any is_accepted l ≡ true
some_accepted l a e = grind arith

last_accepted : (l : List Mapping) → AllByRecursion (λ e. is_accepted e ≡ true) l → is_some (first l) ≡ true
    → (is_some (unwrap_or (option_map new_fields (last l)) no_fields).name || is_some (unwrap_or (option_map new_fields (last l)) no_fields).email) ≡ true
last_accepted [] a e = cc
last_accepted (x ∷ l) a e = all_last (λ e. is_accepted e ≡ true) x l a.0 a.1

accepted_value : (h : List Mapping) (k : Key) → is_some (first (of_key h k)) ≡ true → is_accepted (value h k) ≡ true
accepted_value h (email, None) e = grind (arith, some_given, any_either, some_accepted, all_accepted)
accepted_value h (email, Some name) e = last_accepted (of_key h (email, Some name)) (all_accepted _ h) e

pub known : (h : List Mapping) (k : Key) → has_key (accepted h) k ≡ is_some (first (of_key h k))
known h k = list_any-map (eq_by_cmp key_cmp k) key (accepted h) ∙ first_found _ (accepted h)

-- ---- each part of `Alike`

module _ (h n : List Mapping) (d : IsNormal h n) where
  values : AllByRecursion (λ e. e ≡ value h (key e)) n
  values = recursion_from_All _ n d.values

  pub accepted_self : accepted n ≡ n
  accepted_self =
      let accepted_values = each_key keys_total keys_exact key (value h) (λ k. is_accepted (value h k) ≡ true) n (λ k e. accepted_value h k (sym (d.keys k ∙ known h k) ∙ e)) in
      filter_all is_accepted n (all_apply _ _ _ (λ e is good. ap is_accepted is ∙ good) n values accepted_values)

  pub of_key_normal : (k : Key) → of_key n k ≡ only (value h k) (of_key h k)
  of_key_normal k = ap (filter _) accepted_self ∙ one_at keys_total keys_exact key (value h) k n d.ascending values
      ∙ ap (λ b. cond b (value h k ∷ []) []) (d.keys k ∙ known h k)

  pub old_email_is : (k : Key) → (value h k).old_email ≡ unwrap_or (spelling h k.0) []
  old_email_is (email, None) = refl
  old_email_is (email, Some name) = refl

  same_spelling : (email : Text) → spelling h email ≡ spelling n email
  same_spelling email =
      let p : Key → Bool = λ k. eq_by_cmp text_cmp email k.0 in
      let s : Text = unwrap_or (spelling h email) [] in
      let all_s = all_weaker n (λ e is same. ap (λ e. e.old_email) is ∙ old_email_is (key e) ∙ ap (λ t. unwrap_or (spelling h t) []) (sym (tells_apart exact_bytes email (folded e.old_email) same))) values in
      let any : list_any (λ e. p (key e)) n ≡ is_some (spelling h email) =
      sym (list_any-map p key n) ∙ same_any keys_total keys_exact p (map key n) (map key (accepted h)) d.keys ∙ list_any-map p key (accepted h)
      ∙ first_found (λ e. p (key e)) (accepted h) ∙ is_some-option_map (λ e. e.old_email) (first (of_email h email)) in
      sym (ap (λ l. option_map (λ e. e.old_email) (first (filter (λ e. p (key e)) l))) accepted_self
      ∙ first_alike (λ e. e.old_email) (λ e. p (key e)) s n all_s ∙ ap (λ b. cond b (Some s) None) any
      ∙ some_again (spelling h email) [])

  pub alike_normal : Alike h n
  alike_normal = grind (arith, accepted_self, same_spelling, of_key_normal, last_of_one)

pub normal_self : (h n : List Mapping) → IsNormal h n → IsNormal n n
normal_self h n d = same_normal h n n (alike_normal h n d) d

-- merging more entries gives the same normal list, whether they follow a list or its normal list
pub normal_then : (h n more m : List Mapping) → IsNormal h n → IsNormal (n ++ more) m → IsNormal (h ++ more) m
normal_then h n more m d = same_normal (n ++ more) (h ++ more) m (alike_joined n more h more (alike_back h n (alike_normal h n d)) (alike_itself more))

pub all_good : (h n : List Mapping) → IsNormal h n → All (λ e. is_accepted e ≡ true) n
all_good h n d = subst (All (λ e. is_accepted e ≡ true)) (accepted_self h n d) (filter_passes is_accepted n)

-- if no entry is accepted, the normal list is empty
pub normal_nothing : (h n : List Mapping) → accepted h ≡ [] → IsNormal h n → n ≡ []
normal_nothing h [] e d = refl
normal_nothing h (x ∷ n) e d = absurd (true≢false (sym (has_itself keys_total keys_exact (key x) (map key n)) ∙ d.keys (key x) ∙ ap (λ l. has_key l (key x)) e))
