-- The answer and the counts that follow from the indices that a lookup finds.
use Rattle.std.proofs.Common.{◌≡◌, ℕ, ◌<◌, ◌≤◌, List, [], map, length, get_or, Option, Some, None, IsSome, option_map, unwrap_or, refl, sym, ap, ◌∙◌, arith, ◌≢◌, zero, suc, ◌+◌, Bool, true, false, ◌&&◌, ◌||◌, if◌then◌else◌, cond, is_some, ◌∷◌, ◌++◌, Less, is_eq, count_by, ap₂}
use Rattle.std.specs.List.{AllByRecursion, slice_get, list_any}
use Rattle.std.specs.List.Sorted.{IsStrictlySortedBy}
use Rattle.std.proofs.lemmas.List.{get_or-map, length-map}
use Rattle.std.proofs.lemmas.Option.{get_or_from_slice_get, slice_get_within}
use Rattle.mailmap_entries.specs.Folding.{Text, folded, text_cmp}
use Rattle.mailmap_tables.specs.Groups.{EmailGroup, IsGroup, AreGroups, folded_email, folded_name, listing, name_entry, unnamed_entries, group_entries}
use Rattle.mailmap_entries.specs.Semantics.{fields_with_spelling, answer_of, mapping_with}
use Rattle.mailmap_tables.specs.KeySearch.{IsFound, IsMissing}
use Rattle.mailmap_tables.specs.Pool.{NameInPool, fields_of, spelled, stored_name, group_of}
use Rattle.mailmap_tables.specs.RowTexts.{email_span, old_span}
use Rattle.mailmap_tables.specs.declared.texts.Span.{Span}
use Rattle.mailmap_snapshot.specs.Signatures.{name_count, is_for_email, email_count}
use Rattle.mailmap_tables.specs.declared.texts.RowTexts.{RowTexts}
use Rattle.mailmap_tables.proofs.KeySearch.{found_key}
use Rattle.mailmap_tables.proofs.Grouped.{none_has, scan_missing, scan_name_at, scan_own_at, all_rows, entries_spelled, listing_all}
use Rattle.std.specs.Cmp.{tied_itself}
use Rattle.std.specs.Cmp.Lexicographic.{nat_list_cmp_total}
use Rattle.std.specs.Ordering.{eq_by_cmp, ordering_reverse}
use Rattle.std.proofs.lemmas.List.Elements.{All-from_recursion}
use Rattle.std.proofs.lemmas.List.Folds.{list_any_none}
use Rattle.std.proofs.lemmas.List.Sums.{length-filter, sum_by-append}
use Rattle.std.proofs.lemmas.Map.Text.{is_eq-slice_cmp}
use Rattle.mailmap_entries.specs.Entries.{Mapping}
use Rattle.mailmap_entries.proofs.Parts.{all_weaker, all_map, filter_all}
use Rattle.mailmap_entries.proofs.Building.{other_text}

-- ---- predicates that hold for all elements, or for none

pub all_slice : {X : Type 0} (P : X → Type 0) (xs : List X) (i : ℕ) (x : X) → AllByRecursion P xs → slice_get xs i ≡ Some x → P x
all_slice P xs i x a read = rw (get_or_from_slice_get xs i x x read) at (All-from_recursion P xs a i x (slice_get_within xs i x read))

-- `==` of texts is the test in the contracts
pub ruleset same_text = (is_eq-slice_cmp, refl)

-- ---- emails

-- the entries of one more email add one to the count
some_add : (k : Text) (rs rest : List Mapping) → rs ≢ [] → AllByRecursion (λ x. folded x.old_email ≡ k) rs → AllByRecursion (λ x. eq_by_cmp text_cmp k (folded x.old_email) ≡ false) rest → email_count (rs ++ rest) ≡ email_count rest + 1
some_add k [] rest says same other = absurd (says refl)
some_add k (r ∷ []) rest says same other = grind (arith, list_any_none, All-from_recursion)
some_add k (r ∷ s ∷ rs) rest says same other =
    let tied : is_for_email r.old_email s ≡ true = ap₂ (eq_by_cmp text_cmp) same.0 same.1.0 ∙ ap is_eq (tied_itself nat_list_cmp_total k) in
    ap (λ b. if b || list_any (is_for_email r.old_email) (rs ++ rest) then email_count (s ∷ rs ++ rest) else email_count (s ∷ rs ++ rest) + 1) tied
    ∙ some_add k (s ∷ rs) rest (λ e. cc) same.1 other

-- the entries for emails other than k
other_entries : (P : EmailGroup → Type 0) (k : Text) → ((g : EmailGroup) → P g → eq_by_cmp text_cmp k (folded_email g) ≡ false) → (gs : List EmailGroup) → AllByRecursion P gs → AllByRecursion (λ x. eq_by_cmp text_cmp k (folded x.old_email) ≡ false) (listing gs)
other_entries P k f gs a = listing_all _ gs (all_weaker gs (λ g p. all_weaker (group_entries g) (λ r spelled. ap (λ t. eq_by_cmp text_cmp k (folded t)) spelled ∙ f g p) (entries_spelled g)) a)

pub listed_emails : (gs : List EmailGroup) → IsStrictlySortedBy text_cmp (map folded_email gs) → AllByRecursion IsGroup gs → email_count (listing gs) ≡ length gs
unfolding IsStrictlySortedBy
listed_emails [] up each = refl
listed_emails (g ∷ gs) up each =
    some_add (folded_email g) (group_entries g) (listing gs) each.0.says (all_weaker (group_entries g) (λ r spelled. ap folded spelled) (entries_spelled g))
    (other_entries (λ x. text_cmp (folded_email g) (folded_email x) ≡ Less) (folded_email g) (λ x less. ap is_eq less) gs (all_map folded_email (λ y. text_cmp (folded_email g) y ≡ Less) gs up.0))
    ∙ ap (λ n. n + 1) (listed_emails gs up.1 each.1) ∙ omega arith

-- ---- names

abbrev is_name_of : Text → Mapping → Bool
is_name_of k e = is_some e.old_name && eq_by_cmp text_cmp k (folded e.old_email)

entries_counted : (k : Text) (g : EmailGroup) → folded_email g ≡ k → count_by (is_name_of k) (group_entries g) ≡ length g.names
entries_counted k g same =
    let tied : eq_by_cmp text_cmp k (folded_email g) ≡ true = ap (eq_by_cmp text_cmp k) same ∙ ap is_eq (tied_itself nat_list_cmp_total k) in
    sum_by-append (λ e. cond (is_name_of k e) 1 0) (unnamed_entries g) (map (name_entry g.old_email) g.names)
    ∙ ap₂ (λ m n. m + n) (own (is_some g.unnamed.name || is_some g.unnamed.email)) (sym (length-filter (is_name_of k) (map (name_entry g.old_email) g.names))
    ∙ ap length (filter_all (is_name_of k) (map (name_entry g.old_email) g.names) (all_rows (λ e. is_name_of k e ≡ true) g.old_email g.names (λ n. tied))) ∙ length-map g.names (name_entry g.old_email))
    ∙ omega arith
  where
    own : (b : Bool) → count_by (is_name_of k) (if b then mapping_with g.unnamed None g.old_email ∷ [] else []) ≡ 0
    own b = grind arith

-- entries for other emails than k are not counted
none_of_others : (k : Text) (rs : List Mapping) → AllByRecursion (λ x. eq_by_cmp text_cmp k (folded x.old_email) ≡ false) rs → count_by (is_name_of k) rs ≡ 0
none_of_others k [] other = refl
none_of_others k (r ∷ rs) other = grind (arith, none_of_others k rs other.1, other.0)

pub name_count-none : (gs : List EmailGroup) (email : Text) → AllByRecursion (λ g. folded_email g ≡ folded email → ⊥) gs → name_count (listing gs) email ≡ 0
name_count-none gs email other = none_of_others (folded email) (listing gs) (other_entries (λ g. folded_email g ≡ folded email → ⊥) (folded email) (λ g. other_text (folded email) (folded_email g)) gs other)

pub name_count-at : (email : Text) (gs : List EmailGroup) (i : ℕ) (g : EmailGroup) → IsStrictlySortedBy text_cmp (map folded_email gs) → slice_get gs i ≡ Some g → folded_email g ≡ folded email → name_count (listing gs) email ≡ length g.names
unfolding IsStrictlySortedBy
name_count-at email [] i g up read same = absurd (cc)
name_count-at email (x ∷ gs) zero g up read same =
    let is : x ≡ g = cc in
    let k = folded email in
    let here : folded_email x ≡ k = ap folded_email is ∙ same in
    let after = other_entries (λ y. text_cmp (folded_email x) (folded_email y) ≡ Less) k (λ y less. ap (λ t. eq_by_cmp text_cmp t (folded_email y)) (sym here) ∙ ap is_eq less) gs (all_map folded_email (λ y. text_cmp (folded_email x) y ≡ Less) gs up.0) in
    sum_by-append (λ e. cond (is_name_of k e) 1 0) (group_entries x) (listing gs)
    ∙ ap₂ (λ m n. m + n) (entries_counted k x here) (none_of_others k (listing gs) after) ∙ ap (λ y. length y.names + 0) is
    ∙ omega arith
name_count-at email (x ∷ gs) (suc i) g up read same =
    let k = folded email in
    let less : text_cmp (folded_email x) (folded_email g) ≡ Less = all_slice (λ y. text_cmp (folded_email x) (folded_email y) ≡ Less) gs i g (all_map folded_email (λ y. text_cmp (folded_email x) y ≡ Less) gs up.0) read in
    let before : eq_by_cmp text_cmp k (folded_email x) ≡ false =
    ap is_eq (nat_list_cmp_total.antisymm k (folded_email x) ∙ ap ordering_reverse (ap (text_cmp (folded_email x)) (sym same) ∙ less)) in
    sum_by-append (λ e. cond (is_name_of k e) 1 0) (group_entries x) (listing gs)
    ∙ ap₂ (λ m n. m + n) (none_of_others k (group_entries x) (all_weaker (group_entries x) (λ r spelled. ap (λ t. eq_by_cmp text_cmp k (folded t)) spelled ∙ before) (entries_spelled x))) (name_count-at email gs i g up.1 read same)
    ∙ omega arith

-- ---- the email is missing

module _ (gs : List EmailGroup) (email : Text) (i : ℕ) (le : i ≤ length gs)
    (missing : IsMissing folded_email (folded email) gs i) where
  pub scan_at_none : (name : Text) → answer_of (listing gs) name email ≡ None
  scan_at_none name = scan_missing gs name email (none_has folded_email (folded email) gs i le missing)

  pub no_names : name_count (listing gs) email ≡ 0
  no_names = name_count-none gs email (none_has folded_email (folded email) gs i le missing)

-- ---- the email is there, with the rows at its index

module _ (gs : List EmailGroup) (are : AreGroups gs) (email : Text) (i : ℕ) (found : IsFound folded_email (folded email) gs i)
    (pool : Text) (r : RowTexts) (ns : List RowTexts) (read : slice_get gs i ≡ Some (group_of pool r ns)) where
  same : folded_email (group_of pool r ns) ≡ folded email
  same = found_key folded_email (folded email) gs i found (group_of pool r ns) (sym (get_or_from_slice_get gs i (group_of pool r ns) (group_of pool r ns) read))

  within : i < length gs
  within = slice_get_within gs i (group_of pool r ns) read

  -- the new email for a name
  given : (o : Option Span) → IsSome o → Some (unwrap_or (option_map (spelled pool) o) []) ≡ option_map (spelled pool) o
  given o some = grind arith

  pub names_ascend : IsStrictlySortedBy text_cmp (map folded_name (map (stored_name pool) ns))
  names_ascend = (all_slice IsGroup gs i (group_of pool r ns) are.each read).ascending

  pub names_counted : name_count (listing gs) email ≡ length ns
  names_counted = name_count-at email gs i (group_of pool r ns) are.ascending read same ∙ length-map ns (stored_name pool)

  module _ (name : Text) (j : ℕ) where
    pub scan_at_name : (d : RowTexts) → AllByRecursion (NameInPool (length pool)) ns → j < length ns → IsFound folded_name (folded name) (map (stored_name pool) ns) j
        → answer_of (listing gs) name email ≡ fields_with_spelling email (fields_of pool (get_or ns j d)) (Some (spelled pool (old_span r)))
    scan_at_name d lie lt here =
        let n = stored_name pool (get_or ns j d) in
        let inside : j < length (map (stored_name pool) ns) = omega (arith, lt, length-map ns (stored_name pool)) in
        let at : get_or (map (stored_name pool) ns) j n ≡ n = get_or-map (stored_name pool) ns j d n lt in
        let key : folded_name n ≡ folded name = found_key folded_name (folded name) (map (stored_name pool) ns) j here n (sym at) in
        scan_name_at gs are name email i (group_of pool r ns) within (sym (get_or_from_slice_get gs i (group_of pool r ns) (group_of pool r ns) read)) same j n inside (sym at) key
        ∙ ap (λ o. fields_with_spelling email (record { name = n.new_name; email = o }) (Some (spelled pool (old_span r)))) (given (email_span (get_or ns j d)) (All-from_recursion (NameInPool (length pool)) ns lie j d lt).new_email)

    pub scan_at_email : j ≤ length ns → IsMissing folded_name (folded name) (map (stored_name pool) ns) j
        → answer_of (listing gs) name email ≡ fields_with_spelling email (fields_of pool r) (Some (spelled pool (old_span r)))
    scan_at_email le none =
        scan_own_at gs are name email i (group_of pool r ns) within (sym (get_or_from_slice_get gs i (group_of pool r ns) (group_of pool r ns) read)) same
        (none_has folded_name (folded name) (map (stored_name pool) ns) j (omega (arith, le, length-map ns (stored_name pool))) none)

pub ruleset name_laws = (names_ascend, names_counted)
