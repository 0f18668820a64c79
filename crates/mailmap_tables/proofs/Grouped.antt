-- The entries of groups are a normal list, and what it answers to a signature.
use Rattle.std.proofs.Common.{◌≡◌, ◌≢◌, ℕ, ◌<◌, ◌≤◌, Bool, true, false, true≢false, cond, ◌&&◌, ◌||◌, if◌then◌else◌}
use Rattle.std.proofs.Common.{is_some, List, [], ◌∷◌, ◌++◌, map, filter, drop, get_or, length, append-nil, append_assoc}
use Rattle.std.proofs.Common.{Option, Some, None, option_map, unwrap_or, Ordering, Less, Equal, is_eq, refl, sym, ap}
use Rattle.std.proofs.Common.{ap₂, subst, ◌∙◌, arith, ◌+◌}
use Rattle.std.specs.Cmp.{IsTotalOrder, tied_itself}
use Rattle.std.specs.Cmp.Lexicographic.{nat_list_cmp_total}
use Rattle.std.specs.List.{AllByRecursion, slice_get}
use Rattle.std.specs.List.Sorted.{IsStrictlySortedBy}
use Rattle.std.specs.Option.{option_cmp}
use Rattle.std.specs.Ordering.{eq_by_cmp, ordering_then, ordering_reverse}
use Rattle.std.proofs.lemmas.Bool.{or_right, cases_lt}
use Rattle.std.proofs.lemmas.Grind.{common_steps, flat_map-append}
use Rattle.std.proofs.lemmas.List.{drop_more}
use Rattle.std.proofs.lemmas.List.Elements.{All-from_recursion, filter-append, filter_agree, recursion_from_All}
use Rattle.std.proofs.lemmas.Map.Keys.{sorted_head, sorted_tail}
use Rattle.mailmap_entries.specs.Entries.{Mapping}
use Rattle.mailmap_entries.specs.Folding.{Text, folded, text_cmp}
use Rattle.mailmap_tables.specs.Groups.{AreGroups, Contents, EmailGroup, IsGroup, StoredName, folded_email, listing}
use Rattle.mailmap_tables.specs.Groups.{name_fields, folded_name, name_entry, unnamed_entries, group_entries}
use Rattle.mailmap_entries.specs.Building.{IsListing, IsPaired}
use Rattle.mailmap_entries.specs.Semantics.{Fields, key, key_cmp, first, last, last_given, is_accepted, accepted}
use Rattle.mailmap_entries.specs.Semantics.{of_email, of_key, has_key, given_fields, last_fields, new_fields}
use Rattle.mailmap_entries.specs.Semantics.{mapping_with, spelling, value, fields_with_spelling, answer_of, IsNormal}
use Rattle.mailmap_entries.proofs.Alike.{picked-append}
use Rattle.mailmap_entries.proofs.Joined.{filter_none}
use Rattle.mailmap_entries.proofs.Keys.{keys_total}
use Rattle.mailmap_entries.proofs.Lookups.{missing-above, missing-below}
use Rattle.mailmap_entries.proofs.Parts.{all_append, all_map, all_apply, filter-filter, filter_all, all_weaker}
use Rattle.mailmap_entries.proofs.Parts.{filter-map, all_mapped}
use Rattle.std.proofs.lemmas.Option.{get_or_from_slice_get, slice_get_within}
use Rattle.mailmap_tables.specs.KeySearch.{IsMissing}
use Rattle.mailmap_tables.specs.Pool.{left_to_list, spelled, group_of}
use Rattle.mailmap_tables.specs.RowTexts.{old_span}
use Rattle.mailmap_tables.specs.declared.texts.RowTexts.{RowTexts}
use Rattle.mailmap_entries.proofs.Reorder.{both_equal}
use Rattle.mailmap_entries.proofs.Building.{other_text}

-- ---- predicates that hold for every row

every : {X : Type 0} {P : X → Type 0} → ((x : X) → P x) → (xs : List X) → AllByRecursion P xs
every f [] = tt
every f (x ∷ xs) = (f x, every f xs)

-- a predicate that holds for every row of a name
pub all_rows : (P : Mapping → Type 0) (email : Text) (ns : List StoredName) → ((n : StoredName) → P (name_entry email n))
    → AllByRecursion P (map (name_entry email) ns)
all_rows P email ns f = all_mapped (name_entry email) P ns (every f ns)

-- a predicate that holds for the row that an email may have for all names
unnamed_all : (P : Mapping → Type 0) (g : EmailGroup) → ((is_some g.unnamed.name || is_some g.unnamed.email) ≡ true
    → P (mapping_with g.unnamed None g.old_email)) → AllByRecursion P (unnamed_entries g)
unnamed_all P g f = grind (arith, common_steps)

-- all entries of an email have its spelling
pub entries_spelled : (g : EmailGroup) → AllByRecursion (λ r. r.old_email ≡ g.old_email) (group_entries g)
entries_spelled g = all_append _ (unnamed_entries g) (map (name_entry g.old_email) g.names) (unnamed_all _ g (λ _. refl))
    (all_rows _ g.old_email g.names (λ n. refl))

-- all entries of an email are accepted
pub entries_accepted : (g : EmailGroup) → AllByRecursion (λ e. is_accepted e ≡ true) (group_entries g)
entries_accepted g = all_append _ (unnamed_entries g) (map (name_entry g.old_email) g.names) (unnamed_all _ g (λ given. given))
    (all_rows _ g.old_email g.names (λ n. or_right (is_some n.new_name) true refl))

-- what holds for the entries of each group holds for all entries
pub listing_all : (P : Mapping → Type 0) (gs : List EmailGroup) → AllByRecursion (λ g. AllByRecursion P (group_entries g)) gs
    → AllByRecursion P (listing gs)
listing_all P [] a = tt
listing_all P (g ∷ gs) a = all_append P (group_entries g) (listing gs) a.0 (listing_all P gs a.1)

-- all entries of groups are accepted
pub groups_accepted : (gs : List EmailGroup) → AllByRecursion (λ e. is_accepted e ≡ true) (listing gs)
groups_accepted gs = listing_all _ gs (every entries_accepted gs)

pub listing-append : (xs ys : List EmailGroup) → listing (xs ++ ys) ≡ listing xs ++ listing ys
listing-append xs ys = flat_map-append group_entries xs ys

-- ---- the listing is a normal list

-- in a strictly ascending list, no two elements have the same key
alone : {X K : Type 0} {R : K → K → Ordering} (o : IsTotalOrder R) (f : X → K) (xs : List X)
    → IsStrictlySortedBy R (map f xs) → AllByRecursion (λ e. filter (λ x. eq_by_cmp R (f e) (f x)) xs ≡ e ∷ []) xs
alone o f [] s = tt
alone {X} {K} {R} o f (x ∷ xs) s =
    let above : AllByRecursion (λ y. R (f x) (f y) ≡ Less) xs = all_map f (λ k. R (f x) k ≡ Less) xs
    (sorted_head R (f x) (map f xs) s) in
    let p : X → Bool = λ y. eq_by_cmp R (f x) (f y) in (
      λ i. cond (is_eq (tied_itself o (f x) i)) (x ∷ filter_none p xs (all_weaker xs (λ y less. ap is_eq less) above) i)
          (filter p xs),
      all_apply _ _ _ (λ e less here. ap (λ r. cond (is_eq r) (x ∷ filter (λ y. eq_by_cmp R (f e) (f y)) xs)
          (filter (λ y. eq_by_cmp R (f e) (f y)) xs)) (o.antisymm (f e) (f x) ∙ ap ordering_reverse less) ∙ here)
          xs above (alone o f xs (sorted_tail R (f x) (map f xs) s)),
    )

-- an entry is the value of its key if no other has this key and the list spells its email the same
value_alone : (n : List Mapping) (e : Mapping) → of_key n (key e) ≡ e ∷ [] → spelling n (folded e.old_email)
    ≡ Some e.old_email → e ≡ value n (key e)
value_alone n e here spelled = grind (arith, common_steps)

-- a strictly ascending list of accepted entries, with one spelling for each email, is its own normal list
pub self_normal : (n : List Mapping) → IsStrictlySortedBy key_cmp (map key n)
    → AllByRecursion (λ e. is_accepted e ≡ true) n → AllByRecursion (λ e. spelling n (folded e.old_email)
    ≡ Some e.old_email) n → IsNormal n n
self_normal n ascending good spelled =
    let whole : accepted n ≡ n = filter_all is_accepted n good in
    record {
      ascending = ascending;
      keys = λ k. ap (λ l. has_key l k) (sym whole);
      values = All-from_recursion _ n (all_apply _ _ _ (λ e here said. value_alone n e
          (ap (filter (λ x. eq_by_cmp key_cmp (key e) (key x))) whole ∙ here) said) n (alone keys_total key n ascending)
          spelled);
    }

-- ---- the listing ascends

sorted_entries : (xs ys : List Mapping) → IsStrictlySortedBy key_cmp (map key xs)
    → IsStrictlySortedBy key_cmp (map key ys)
    → AllByRecursion (λ x. AllByRecursion (λ y. key_cmp (key x) (key y) ≡ Less) ys) xs
    → IsStrictlySortedBy key_cmp (map key (xs ++ ys))
unfolding IsStrictlySortedBy
sorted_entries [] ys s t a = t
sorted_entries (x ∷ xs) ys s t a = (
  all_mapped key (λ k. key_cmp (key x) k ≡ Less) (xs ++ ys) (all_append _ xs ys (all_map key _ xs s.0) a.0),
  sorted_entries xs ys s.1 t a.1,
)

-- with the same email, the names decide
by_name : (email : Text) (a b : Option Text) → option_cmp text_cmp a b ≡ Less → key_cmp (email, a) (email, b) ≡ Less
by_name email a b less =
    ap (λ o. ordering_then o (option_cmp text_cmp a b)) (tied_itself nat_list_cmp_total email) ∙ less

names_sorted : (email : Text) (ns : List StoredName) → IsStrictlySortedBy text_cmp (map folded_name ns)
    → IsStrictlySortedBy key_cmp (map key (map (name_entry email) ns))
unfolding IsStrictlySortedBy
names_sorted email [] s = tt
names_sorted email (n ∷ ns) s = (
  all_mapped key _ (map (name_entry email) ns) (all_mapped (name_entry email) _ ns (all_weaker ns
      (λ x. by_name (folded email) (Some (folded_name n)) (Some (folded_name x))) (all_map folded_name _ ns s.0))),
  names_sorted email ns s.1,
)

entries_sorted : (g : EmailGroup) → IsStrictlySortedBy text_cmp (map folded_name g.names)
    → IsStrictlySortedBy key_cmp (map key (group_entries g))
unfolding IsStrictlySortedBy
entries_sorted g s =
    sorted_entries (unnamed_entries g) (map (name_entry g.old_email) g.names) (grind (arith, common_steps))
    (names_sorted g.old_email g.names s)
    (unnamed_all _ g (λ _. all_rows _ g.old_email g.names (λ n. by_name (folded_email g) None (Some (folded_name n)) refl)))

listing_sorted : (gs : List EmailGroup) → IsStrictlySortedBy text_cmp (map folded_email gs) → AllByRecursion IsGroup gs
    → IsStrictlySortedBy key_cmp (map key (listing gs))
unfolding IsStrictlySortedBy
listing_sorted [] s each = tt
listing_sorted (g ∷ gs) s each =
    sorted_entries (group_entries g) (listing gs) (entries_sorted g each.0.ascending) (listing_sorted gs s.1 each.1)
    (all_weaker (group_entries g) (λ x same. listing_all _ gs (all_weaker gs (λ z less. all_weaker (group_entries z)
    (λ y alike. less_email x y (ap₂ (λ a b. text_cmp (folded a) (folded b)) same alike ∙ less)) (entries_spelled z))
    (all_map folded_email (λ k. text_cmp (folded_email g) k ≡ Less) gs s.0))) (entries_spelled g))
  where
    less_email : (x y : Mapping) → text_cmp (folded x.old_email) (folded y.old_email) ≡ Less
        → key_cmp (key x) (key y) ≡ Less
    less_email x y less = ap (λ o. ordering_then o (option_cmp text_cmp (key x).1 (key y).1)) less

-- ---- the entries for one email

filter_alike : {X : Type 0} (p : X → Bool) (b : Bool) (xs : List X) → AllByRecursion (λ x. p x ≡ b) xs
    → filter p xs ≡ cond b xs []
filter_alike p true xs a = filter_all p xs a
filter_alike p false xs a = filter_none p xs a

-- the entries for an email are those of the groups that have it
picked : (k : Text) (gs : List EmailGroup) → of_email (listing gs) k
    ≡ listing (filter (λ g. eq_by_cmp text_cmp k (folded_email g)) gs)
picked k [] = refl
picked k (g ∷ gs) =
    let p = λ (x : Mapping). eq_by_cmp text_cmp k (folded x.old_email) in
    let b = eq_by_cmp text_cmp k (folded_email g) in
    let here : filter p (accepted (group_entries g)) ≡ cond b (group_entries g) [] = ap (filter p) (filter_all is_accepted (group_entries g)
    (entries_accepted g)) ∙ filter_alike p b (group_entries g) (all_weaker (group_entries g) (λ x same. ap (λ t. eq_by_cmp text_cmp k
    (folded t)) same) (entries_spelled g)) in
    picked-append p (group_entries g) (listing gs) ∙ ap₂ (λ l m. l ++ m) here (picked k gs)
    ∙ joined b (filter (λ g. eq_by_cmp text_cmp k (folded_email g)) gs)
  where
    joined : (b : Bool) (hs : List EmailGroup) → cond b (group_entries g) [] ++ listing hs ≡ listing (cond b (g ∷ hs) hs)
    joined b hs = grind arith

-- texts that don't compare as equal
pub apart_less : (x y : Text) → text_cmp x y ≡ Less → x ≢ y
apart_less x y p e =
    let q : Equal ≡ Less = sym (tied_itself nat_list_cmp_total y) ∙ ap (λ t. text_cmp t y) (sym e) ∙ p in absurd (cc)

-- no other of the groups has its key
abbrev IsOnly : List EmailGroup → EmailGroup → Type 0
IsOnly gs g = filter (λ h. eq_by_cmp text_cmp (folded_email g) (folded_email h)) gs ≡ g ∷ []

abbrev has_name : Option Text → Mapping → Bool
has_name o e = eq_by_cmp (option_cmp text_cmp) o (key e).1

module _ (gs : List EmailGroup) {g : EmailGroup} (is : IsGroup g) (only : IsOnly gs g) where
  its_entries : of_email (listing gs) (folded_email g) ≡ group_entries g
  its_entries = picked (folded_email g) gs ∙ ap listing only ∙ append-nil (group_entries g)

  spelled_at : spelling (listing gs) (folded_email g) ≡ Some g.old_email
  spelled_at = ap (λ l. option_map (λ e. e.old_email) (first l)) its_entries ∙ at (group_entries g) is.says (entries_spelled g)
    where
      at : (rs : List Mapping) → rs ≢ [] → AllByRecursion (λ r. r.old_email ≡ g.old_email) rs
          → option_map (λ e. e.old_email) (first rs) ≡ Some g.old_email
      at [] some same = absurd (some refl)
      at (r ∷ rs) some same = ap (λ t. Some t) same.0

  named : (o : Option Text) → of_key (listing gs) (folded_email g, o)
      ≡ filter (has_name o) (unnamed_entries g) ++ filter (has_name o) (map (name_entry g.old_email) g.names)
  named o =
      let mailed = λ (e : Mapping). eq_by_cmp text_cmp (folded_email g) (folded e.old_email) in
      filter_agree (λ e. eq_by_cmp key_cmp (folded_email g, o) (key e)) (λ e. mailed e && has_name o e)
      (λ e. both_equal (text_cmp (folded_email g) (folded e.old_email)) (option_cmp text_cmp o (key e).1))
      (accepted (listing gs)) ∙ sym (filter-filter (has_name o) mailed (accepted (listing gs)))
      ∙ ap (filter (has_name o)) its_entries
      ∙ filter-append (has_name o) (unnamed_entries g) (map (name_entry g.old_email) g.names)

  -- the fields without an old name
  given_at : given_fields (listing gs) (folded_email g) ≡ g.unnamed
  given_at =
      let here : of_key (listing gs) (folded_email g, None) ≡ unnamed_entries g = named None ∙ ap₂ (λ l m. l ++ m)
      (filter_all (has_name None) (unnamed_entries g) (unnamed_all (λ e. has_name None e ≡ true) g (λ _. refl)))
      (filter_none (has_name None) (map (name_entry g.old_email) g.names)
      (all_rows (λ e. has_name None e ≡ false) g.old_email g.names (λ n. refl))) ∙ append-nil (unnamed_entries g) in
      rw here (unnamed_given g.unnamed)
    where
      given : List Mapping → Fields
      given l = record { name = last_given (λ x. x.new_name) l; email = last_given (λ x. x.new_email) l }

      unnamed_given : (f : Fields)
          → given (if is_some f.name || is_some f.email then mapping_with f None g.old_email ∷ [] else []) ≡ f
      unnamed_given f = grind arith

  -- the entries for a name
  named_at : (k : Text) → of_key (listing gs) (folded_email g, Some k)
      ≡ map (name_entry g.old_email) (filter (λ n. eq_by_cmp text_cmp k (folded_name n)) g.names)
  named_at k = named (Some k) ∙ ap₂ (λ l m. l ++ m)
      (filter_none (has_name (Some k)) (unnamed_entries g) (unnamed_all (λ e. has_name (Some k) e ≡ false) g (λ _. refl)))
      (filter-map (has_name (Some k)) (name_entry g.old_email) g.names)

listing_spelled : (gs : List EmailGroup) → AreGroups gs
    → AllByRecursion (λ e. spelling (listing gs) (folded e.old_email) ≡ Some e.old_email) (listing gs)
listing_spelled gs are =
    listing_all _ gs (all_apply IsGroup (IsOnly gs) _ (λ g is only. all_weaker (group_entries g) (λ r same. ap (λ t. spelling (listing gs)
    (folded t)) same ∙ spelled_at gs is only ∙ ap (λ t. Some t) (sym same)) (entries_spelled g)) gs are.each
    (alone nat_list_cmp_total folded_email gs are.ascending))

-- the entries of groups are their own normal list
pub groups_normal : (gs : List EmailGroup) → AreGroups gs → IsNormal (listing gs) (listing gs)
groups_normal gs are =
    self_normal (listing gs) (listing_sorted gs are.ascending are.each) (groups_accepted gs) (listing_spelled gs are)

-- the entries of groups are a listing: each old name has a new email
pub groups_listing : (gs : List EmailGroup) → AreGroups gs → IsListing (listing gs)
groups_listing gs are = record {
  own = groups_normal gs are;
  paired = All-from_recursion IsPaired (listing gs) (listing_all IsPaired gs (every each gs));
}
  where
    each : (g : EmailGroup) → AllByRecursion IsPaired (group_entries g)
    each g = all_append IsPaired (unnamed_entries g) (map (name_entry g.old_email) g.names)
        (unnamed_all IsPaired g (λ _ named. absurd (true≢false (sym named)))) (all_rows IsPaired g.old_email g.names
        (λ n _. refl))

-- ---- the answer to a signature

at_index : {X : Type 0} (P : X → Type 0) (xs : List X) → AllByRecursion P xs → (i : ℕ) (x : X) → i < length xs
    → x ≡ get_or xs i x → P x
at_index P xs all i x lt read = subst P (sym read) (All-from_recursion P xs all i x lt)

module _ (gs : List EmailGroup) (are : AreGroups gs) where
  at_email : (i : ℕ) (g : EmailGroup) → i < length gs → g ≡ get_or gs i g → IsGroup g × IsOnly gs g
  at_email i g lt read = (
    at_index IsGroup gs are.each i g lt read,
    at_index (IsOnly gs) gs (alone nat_list_cmp_total folded_email gs are.ascending) i g lt read,
  )

  pub spelled_there : (i : ℕ) (g : EmailGroup) → i < length gs → g ≡ get_or gs i g
      → spelling (listing gs) (folded_email g) ≡ Some g.old_email
  spelled_there i g lt read = let w = at_email i g lt read in spelled_at gs w.0 w.1

module _ (gs : List EmailGroup) (are : AreGroups gs) (name email : Text) (i : ℕ) (g : EmailGroup) (lt : i < length gs)
    (read : g ≡ get_or gs i g) (same : folded g.old_email ≡ folded email) where
  is : IsGroup g
  is = (at_email gs are i g lt read).0

  only : IsOnly gs g
  only = (at_email gs are i g lt read).1

  -- by the names of the email that are equal to the given one
  answer_at : (ns : List StoredName) → filter (λ n. eq_by_cmp text_cmp (folded name) (folded_name n)) g.names ≡ ns
      → answer_of (listing gs) name email ≡ fields_with_spelling email
      (unwrap_or (option_map new_fields (last (map (name_entry g.old_email) ns))) g.unnamed) (Some g.old_email)
  answer_at ns these =
      let keyed = ap (λ t. of_key (listing gs) (t, Some (folded name))) (sym same) ∙ named_at gs is only (folded name)
      ∙ ap (map (name_entry g.old_email)) these in
      let given = ap (given_fields (listing gs)) (sym same) ∙ given_at gs is only in
      let spelled = ap (spelling (listing gs)) (sym same) ∙ spelled_at gs is only in
      λ j. fields_with_spelling email (unwrap_or (option_map new_fields (last (keyed j))) (given j)) (spelled j)

  -- if the name is there
  pub scan_name_at : (j : ℕ) (n : StoredName) → j < length g.names → n ≡ get_or g.names j n
      → folded n.old_name ≡ folded name
      → answer_of (listing gs) name email ≡ fields_with_spelling email (name_fields n) (Some g.old_email)
  scan_name_at j n lt_name read_name same_name =
      answer_at (n ∷ []) (ap (λ t. filter (λ n. eq_by_cmp text_cmp t (folded_name n)) g.names) (sym same_name)
      ∙ at_index (λ n. filter (λ m. eq_by_cmp text_cmp (folded_name n) (folded_name m)) g.names ≡ n ∷ []) g.names
      (alone nat_list_cmp_total folded_name g.names is.ascending) j n lt_name read_name)

  -- if it isn't
  pub scan_own_at : AllByRecursion (λ n. folded_name n ≡ folded name → ⊥) g.names
      → answer_of (listing gs) name email ≡ fields_with_spelling email g.unnamed (Some g.old_email)
  scan_own_at other = answer_at [] (filter_none _ g.names (all_weaker g.names
      (λ n no. other_text (folded name) (folded_name n) no) other))

-- the answer if the email isn't there
pub scan_missing : (gs : List EmailGroup) (name email : Text) → AllByRecursion (λ g. folded_email g ≡ folded email → ⊥) gs
    → answer_of (listing gs) name email ≡ None
scan_missing gs name email other =
    let f : Fields = unwrap_or (last_fields (listing gs) (folded email, Some (folded name))) (given_fields (listing gs)
    (folded email)) in
    ap (λ l. fields_with_spelling email f (option_map (λ e. e.old_email) (first l))) (picked (folded email) gs
    ∙ ap listing (filter_none _ gs (all_weaker gs (λ g no. other_text (folded email) (folded_email g) no) other)))

-- ---- elements that no search finds

-- if a search finds no index, no element has the key
pub none_has : {X : Type 0} (f : X → Text) (k : Text) (xs : List X) (i : ℕ) → i ≤ length xs → IsMissing f k xs i
    → AllByRecursion (λ x. f x ≡ k → ⊥) xs
none_has f k xs i le missing =
    let low = missing-below text_cmp f k xs i le missing in
    let high = missing-above text_cmp f k xs i missing in
    grind (arith, common_steps, recursion_from_All, cases_lt, tied_itself, nat_list_cmp_total)

-- ---- empty tables

pub no_groups : AreGroups []
unfolding IsStrictlySortedBy
no_groups = record { ascending = tt; each = tt }

-- ---- the entries of a listing that are left, step by step

-- without a name left, the next email follows: its own entry, if there is one, and its names
pub next_email : (t : Contents) (email : Text) (ns : List RowTexts) (i : ℕ) (r : RowTexts) (rest : List RowTexts)
    (own : List Mapping) (next : Text) → ns ≡ [] → slice_get t.groups i ≡ Some (group_of t.pool r rest)
    → own ≡ unnamed_entries (group_of t.pool r []) → next ≡ spelled t.pool (old_span r)
    → left_to_list t email ns i ≡ own ++ left_to_list t next rest (i + 1)
next_email t email ns i r rest own next none read own_is next_is =
    let g : EmailGroup = group_of t.pool r rest in
    let lt : i < length t.groups = slice_get_within t.groups i g read in
    rw (none, own_is, next_is, drop_more t.groups i g lt, get_or_from_slice_get t.groups i g g read)
    (append_assoc (unnamed_entries g) (map (name_entry g.old_email) g.names) (listing (drop (i + 1) t.groups)))
