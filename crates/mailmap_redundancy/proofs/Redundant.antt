-- An accepted entry is redundant exactly if without it its key is still there and has the same value.
use Rattle.std.proofs.Common.{rules, ◌≡◌, Bool, true, false, List, [], ◌∷◌, ◌++◌, filter, Option, None, Some, refl, ap, sym, ◌∙◌, true≢false, append_assoc, ⊎_elim, inl, inr, is_some, unwrap_or, subst, arith}
use Rattle.std.specs.Prelude.{◌↔◌, ◌⊎◌, ◌&&◌, ◌||◌, IfSome, nat_eq}
use Rattle.std.specs.Bool.{Decides}
use Rattle.std.specs.Borrow.{Bor}
use Rattle.std.specs.Cmp.{tied_itself}
use Rattle.std.specs.Cmp.Lexicographic.{nat_list_cmp_total, pointwise}
use Rattle.std.specs.Ordering.{eq_by_cmp, is_eq}
use Rattle.std.specs.Option.{option_and_then, option_map, option_or}
use Rattle.std.proofs.lemmas.Bool.{and_from, and_parts, cases_Bool}
use Rattle.std.proofs.lemmas.List.Elements.{filter-append, recursion_from_All, filter_passes}
use Rattle.std.proofs.lemmas.Map.Lookups.{exact_bytes}
use Rattle.std.proofs.lemmas.Map.Views.{tells_apart}
use Rattle.mailmap_entries.specs.Entries.{Mapping}
use Rattle.mailmap_entries.specs.Folding.{Text, folded, text_cmp}
use Rattle.mailmap_entries.specs.Listings.{same_entry, same_optional}
use Rattle.std.proofs.lemmas.Cmp.{nat_list_eq_equiv}
use Rattle.mailmap_entries.specs.Semantics.{IsNormal, Key, accepted, first, has_key, is_accepted, key, key_cmp, last, last_given, of_email, of_key, value}
use Rattle.mailmap_entries.specs.Alike.{Alike}
use Rattle.mailmap_entries.proofs.Alike.{alike_accepted, alike_back, same_normal, same_value}
use Rattle.mailmap_entries.proofs.EqualListings.{entry_decides, optional_decides}
use Rattle.mailmap_entries.proofs.Exists.{normal, is_normal}
use Rattle.mailmap_entries.proofs.Joined.{alike_trans, first-map, last-map}
use Rattle.mailmap_entries.proofs.Keys.{keys_total, keys_exact}
use Rattle.mailmap_entries.proofs.Normal.{alike_normal, known}
use Rattle.mailmap_entries.proofs.Parts.{all_last, filter-map, first-append, is_some-option_map, last-append}
use Rattle.mailmap_redundancy.specs.Redundancy.{IsRedundant, LocatedMapping, entries, entries_of_key, located_of_reference}
use Rattle.mailmap_redundancy.specs.declared.located.LocatedEntry.{LocatedEntry}
use Rattle.mailmap_redundancy.specs.Origins.{entries_of_email, last_with}
use Rattle.mailmap_redundancy.specs.Summaries.{Summary, email_origin, is_redundant, joined_summary, later_of, name_origin, referred, summary_for, summary_by, summary_of_one, value_from}
use Rattle.std.proofs.lemmas.List.{map-append}
use Rattle.std.specs.List.{AllByRecursion}

-- ---- tests

pub own_key : (e : Mapping) → eq_by_cmp key_cmp (key e) (key e) ≡ true
own_key e = ap is_eq (tied_itself keys_total (key e))

pub own_email : (e : Mapping) → eq_by_cmp text_cmp (folded e.old_email) (folded e.old_email) ≡ true
own_email e = ap is_eq (tied_itself nat_list_cmp_total (folded e.old_email))

-- an entry of a key is an entry of its email
pub of_its_email : (k : Key) (e : Mapping) → eq_by_cmp key_cmp k (key e) ≡ true
    → eq_by_cmp text_cmp k.0 (folded e.old_email) ≡ true
of_its_email k e is = search (rules, keys_exact, own_email, tells_apart)

-- what passes no weaker test passes no stronger one
pub none_passes : {X : Type 0} (p q : X → Bool) → ((x : X) → p x ≡ true → q x ≡ true) → (xs : List X)
    → filter q xs ≡ [] → filter p xs ≡ []
none_passes p q weaker [] none = refl
none_passes p q weaker (x ∷ xs) none = grind (arith, weaker x, none_passes p q weaker xs)

-- ---- what entries say of a key

abbrev pub LocatedMappings : Type 0
LocatedMappings = List LocatedMapping

abbrev pub good : LocatedMappings → LocatedMappings
good xs = filter (λ x. is_accepted x.entry) xs

pub keyed_good : (xs : LocatedMappings) (k : Key) → of_key (entries xs) k ≡ entries (entries_of_key (good xs) k)
keyed_good xs k = search (rules, filter-map)

pub mailed_good : (xs : LocatedMappings) (email : Text)
    → of_email (entries xs) email ≡ entries (entries_of_email (good xs) email)
mailed_good xs email = search (rules, filter-map)

pub none_of_key : (xs : LocatedMappings) (k : Key) → entries_of_email xs k.0 ≡ [] → entries_of_key xs k ≡ []
none_of_key xs k = search (rules, none_passes, of_its_email)

pub last_is : {X : Type 0} (P : X → Type 0) (xs : List X) → AllByRecursion P xs → IfSome (last xs) P
last_is P [] all = tt
last_is P (x ∷ xs) all = all_last P x xs all.0 all.1

pub last_passes : {X : Type 0} (p : X → Bool) (xs : List X) → IfSome (last (filter p xs)) (λ x. p x ≡ true)
last_passes p xs = last_is (λ x. p x ≡ true) (filter p xs) (recursion_from_All _ _ (filter_passes p xs))

-- the last value of a field, by the entry that sets it
pub given_last : (f : Mapping → Option Text) (xs : LocatedMappings)
    → last_given f (entries xs) ≡ option_and_then (λ x. f x.entry) (last_with f xs)
given_last f [] = refl
given_last f (x ∷ xs) =
    let some = last_passes (λ x. is_some (f x.entry)) xs in grind (arith, given_last f xs, some)

-- what the accepted entries say
abbrev pub good_summary : LocatedMappings → Key → Summary
good_summary xs k = summary_for (good xs) k

value_by : (xs : LocatedMappings) (k : Key) → value (entries xs) k ≡ value_from (is_some k.1) (good_summary xs k)
value_by xs (email, None) = search (rules, keyed_good, mailed_good, given_last, first-map)
value_by xs (email, Some name) = search (rules, keyed_good, mailed_good, first-map, last-map)

pub there_by : (xs : LocatedMappings) (k : Key) → has_key (accepted (entries xs)) k ≡ is_some (good_summary xs k).of_key.last
there_by xs k = known (entries xs) k ∙ ap (λ l. is_some (first l)) (keyed_good xs k) ∙ some (entries_of_key (good xs) k)
  where
    some : (l : LocatedMappings) → is_some (first (entries l)) ≡ is_some (last l)
    some [] = refl
    some (x ∷ l) = refl

good_parts : (xs ys : LocatedMappings) (k : Key) → good_summary (xs ++ ys) k ≡ joined_summary (good_summary xs k) (good_summary ys k)
good_parts xs ys k = simp (filter-append, first-append, last-append)

good_own : (x : LocatedMapping) → is_accepted x.entry ≡ true → good_summary (x ∷ []) (key x.entry) ≡ summary_of_one x
good_own x fine = search (rules, own_email, own_key)

-- ---- redundant entries

-- whether x is redundant between entries with these summaries
abbrev pub is_redundant_between : Summary → LocatedMapping → Summary → Bool
is_redundant_between before x after = is_redundant before x (later_of x after)

-- lists with the same keys, each of the same value, have the same normal lists
same_values : (h g n : List Mapping) → ((k : Key) → has_key (accepted h) k ≡ has_key (accepted g) k)
    → ((k : Key) → value h k ≡ value g k) → IsNormal h n → IsNormal g n
same_values h g n keys values d = record {
  ascending = d.ascending;
  keys = λ k. d.keys k ∙ keys k;
  values = λ i e within. d.values i e within ∙ values _;
}

pub alike_redundant : (a : List Mapping) (e : Mapping) (c : List Mapping) → Alike (a ++ e ∷ c) (a ++ c)
    → IsRedundant a e c
alike_redundant a e c alike n = search (rules, alike_back, same_normal)

pub unaccepted_redundant : (a : List Mapping) (e : Mapping) (c : List Mapping) → is_accepted e ≡ false
    → IsRedundant a e c
unaccepted_redundant a e c bad = grind (arith, alike_redundant, alike_accepted, filter-append)

redundant_alike : (a : List Mapping) (e : Mapping) (c : List Mapping) → IsRedundant a e c → Alike (a ++ e ∷ c) (a ++ c)
redundant_alike a e c redundant =
    let d = is_normal (a ++ e ∷ c) in
    let d' = (redundant (normal (a ++ e ∷ c))).0 d in
    search (rules, alike_trans, alike_normal, alike_back)

-- ---- dropping one entry

-- without x, the summaries before and after it still have its key, with the same value
pub record Stays (is_named : Bool) (before : Summary) (x : LocatedMapping) (after : Summary) : Type 0 where
  pub there : is_some (joined_summary before after).of_key.last ≡ true
  pub same : value_from is_named (joined_summary (joined_summary before (summary_of_one x)) after)
      ≡ value_from is_named (joined_summary before after)

pub has_referred : (o : Option (Bor LocatedEntry)) → is_some (referred o) ≡ is_some o
has_referred o = sym (is_some-option_map located_of_reference o)

-- the test that decides whether it stays: whether the key is there without x, and has the same value
optional_itself : (o : Option Text) → same_optional o o ≡ true
optional_itself o = (optional_decides o o).1 refl

there_without : (before after : Option LocatedMapping)
    → is_some after || is_some before ≡ is_some (option_or after before)
there_without before None = refl
there_without before (Some y) = refl

and_twice : (a b c : Bool) → (a && b) && c ≡ a && (b && c)
and_twice true b c = refl
and_twice false b c = refl

-- a later entry overrides a field, or x doesn't change it
overridden : (f : Mapping → Option Text) (before own after : Option LocatedMapping)
    → is_some after || same_optional (option_and_then (λ y. f y.entry) (option_or own before)) (option_and_then (λ y. f y.entry) before)
    ≡ same_optional (option_and_then (λ y. f y.entry) (option_or after (option_or own before))) (option_and_then (λ y. f y.entry) (option_or after before))
overridden f before own None = refl
overridden f before own (Some y) = sym (optional_itself (f y.entry))

module _ (before : Summary) (x : LocatedMapping) (after : Summary) where
  abbrev own : Summary
  own = summary_of_one x

  abbrev value_with : Bool → Mapping
  value_with n = value_from n (joined_summary (joined_summary before own) after)

  abbrev value_without : Bool → Mapping
  value_without n = value_from n (joined_summary before after)

  new_name_test : (n : Bool)
      → is_some (name_origin n after.of_key) || same_optional (value_from n (joined_summary before own)).new_name (value_from n before).new_name
      ≡ same_optional (value_with n).new_name (value_without n).new_name
  new_name_test true = overridden (λ e. e.new_name) before.of_key.last own.of_key.last after.of_key.last
  new_name_test false = overridden (λ e. e.new_name) before.of_key.name own.of_key.name after.of_key.name

  new_email_test : (n : Bool)
      → is_some (email_origin n after.of_key) || same_optional (value_from n (joined_summary before own)).new_email (value_from n before).new_email
      ≡ same_optional (value_with n).new_email (value_without n).new_email
  new_email_test true = overridden (λ e. e.new_email) before.of_key.last own.of_key.last after.of_key.last
  new_email_test false = overridden (λ e. e.new_email) before.of_key.email own.of_key.email after.of_key.email

  abbrev named : Bool
  named = is_some (key x.entry).1

  old_name_test : is_some before.of_key.first || same_optional x.entry.old_name (value_from named after).old_name
      ≡ same_optional (value_with named).old_name (value_without named).old_name
  old_name_test = grind (arith, optional_itself)

  old_email_test : is_some before.spelling || pointwise nat_eq x.entry.old_email (value_from named after).old_email
      ≡ pointwise nat_eq (value_with named).old_email (value_without named).old_email
  old_email_test = grind (arith, nat_list_eq_equiv)

  pub tests_values : is_redundant_between before x after ≡ is_some (joined_summary before after).of_key.last && same_entry (value_with named) (value_without named)
  tests_values = (λ i. there_without before.of_key.last after.of_key.last i
      && ((new_name_test named i && new_email_test named i) && (old_name_test i && old_email_test i)))
      ∙ ap (λ b. is_some (joined_summary before after).of_key.last && b)
      (and_twice (same_optional (value_with named).new_name (value_without named).new_name)
      (same_optional (value_with named).new_email (value_without named).new_email) _)

module _ (a : LocatedMappings) (x : LocatedMapping) (c : LocatedMappings) (fine : is_accepted x.entry ≡ true) where
  abbrev k : Key
  k = key x.entry

  abbrev with_x : LocatedMappings
  with_x = a ++ x ∷ c

  abbrev without : LocatedMappings
  without = a ++ c

  abbrev pub KeyStays : Type 0
  KeyStays = Stays (is_some k.1) (good_summary a k) x (good_summary c k)

  around : good_summary with_x k ≡ joined_summary (joined_summary (good_summary a k) (summary_of_one x)) (good_summary c k)
  around = ap (λ l. good_summary l k) (sym (append_assoc a (x ∷ []) c)) ∙ good_parts (a ++ x ∷ []) c k
      ∙ ap (λ s. joined_summary s (good_summary c k)) (good_parts a (x ∷ []) k ∙ ap (joined_summary (good_summary a k)) (good_own x fine))

  there : is_some (good_summary with_x k).of_key.last ≡ true
  there = ap (λ (s : Summary). is_some s.of_key.last) around ∙ some (good_summary c k).of_key.last
    where
      some : (o : Option LocatedMapping) → is_some (option_or o (Some x)) ≡ true
      some None = refl
      some (Some y) = refl

  own_value : KeyStays → value_from (is_some k.1) (good_summary with_x k) ≡ value_from (is_some k.1) (good_summary without k)
  own_value stays = ap (value_from (is_some k.1)) around ∙ stays.same
      ∙ ap (value_from (is_some k.1)) (sym (good_parts a c k))

  -- the entries of another key are the same, and so is the spelling of each email
  of_other : (j : Key) → eq_by_cmp key_cmp j k ≡ false
      → entries_of_key (good with_x) j ≡ entries_of_key (good without) j
  of_other j other = search (rules, filter-append)

  abbrev spelled : LocatedMappings → Text → Text
  spelled xs email = unwrap_or (option_map (λ y. y.entry.old_email) (first (entries_of_email (good xs) email))) []

  same_spelling : KeyStays → (email : Text) → spelled with_x email ≡ spelled without email
  same_spelling stays email = ⊎_elim
      (λ own. subst (λ t. spelled with_x t ≡ spelled without t) (sym (tells_apart exact_bytes email k.0 own))
      (ap (λ e. e.old_email) (own_value stays)))
      (λ other.
      let same : entries_of_email (good with_x) email ≡ entries_of_email (good without) email =
      search (rules, filter-append) in
      ap (λ l. unwrap_or (option_map (λ (y : LocatedMapping). y.entry.old_email) (first l)) []) same)
      (cases_Bool (eq_by_cmp text_cmp email k.0))

  -- a key is there with and without x, or it isn't, and its value is the same
  abbrev IsSame : Key → Type 0
  IsSame j = (is_some (good_summary with_x j).of_key.last ≡ is_some (good_summary without j).of_key.last)
      × (value_from (is_some j.1) (good_summary with_x j) ≡ value_from (is_some j.1) (good_summary without j))

  same : KeyStays → (j : Key) → IsSame j
  same stays j = ⊎_elim
      (λ own. subst IsSame (sym (tells_apart keys_exact j k own)) (
        there ∙ sym (ap (λ (s : Summary). is_some s.of_key.last) (good_parts a c k) ∙ stays.there),
        own_value stays,
      ))
      (λ other. (
        ap (λ l. is_some (last l)) (of_other j other),
        λ i. record (value_from (is_some j.1) (summary_by (of_other j other i) [])) { old_email = same_spelling stays j.0 i },
      ))
      (cases_Bool (eq_by_cmp key_cmp j k))

  pub stays_decides : IsRedundant (entries a) x.entry (entries c) ↔ KeyStays
  stays_decides = (
    λ redundant.
        let alike : Alike (entries with_x) (entries without) =
        rw (map-append (λ (y : LocatedMapping). y.entry) a (x ∷ c), map-append (λ (y : LocatedMapping). y.entry) a c)
        (redundant_alike (entries a) x.entry (entries c) redundant) in
        record {
          there = ap (λ (s : Summary). is_some s.of_key.last) (sym (good_parts a c k)) ∙ sym (there_by without k)
              ∙ sym (alike.keys k) ∙ there_by with_x k ∙ there;
          same = ap (value_from (is_some k.1)) (sym around) ∙ sym (value_by with_x k)
              ∙ same_value (entries with_x) (entries without) alike k ∙ value_by without k
              ∙ ap (value_from (is_some k.1)) (good_parts a c k);
        },
    λ stays n.
        let keys : (j : Key) → has_key (accepted (entries with_x)) j ≡ has_key (accepted (entries without)) j =
        λ j. there_by with_x j ∙ (same stays j).0 ∙ sym (there_by without j) in
        let values : (j : Key) → value (entries with_x) j ≡ value (entries without) j =
        λ j. value_by with_x j ∙ (same stays j).1 ∙ sym (value_by without j) in
        rw (
          ← map-append (λ (y : LocatedMapping). y.entry) a (x ∷ c),
          ← map-append (λ (y : LocatedMapping). y.entry) a c,
        ) (
          same_values (entries with_x) (entries without) n keys values,
          same_values (entries without) (entries with_x) n (λ j. sym (keys j)) (λ j. sym (values j)),
        ),
  )

  pub summaries_decide : Decides (is_redundant_between (good_summary a k) x (good_summary c k)) (IsRedundant (entries a) x.entry (entries c))
  summaries_decide =
      let same = entry_decides _ _ in (
        λ yes.
            let both = and_parts (is_some (joined_summary (good_summary a k) (good_summary c k)).of_key.last) _ (sym (tests_values (good_summary a k) x (good_summary c k)) ∙ yes) in
            stays_decides.1 (record { there = both.0; same = same.0 both.1 }),
        λ redundant.
            let stays = stays_decides.0 redundant in
            tests_values (good_summary a k) x (good_summary c k)
            ∙ and_from (is_some (joined_summary (good_summary a k) (good_summary c k)).of_key.last) _ stays.there (same.1 stays.same),
      )

-- each entry is redundant or not
pub redundant_or_not : (a : LocatedMappings) (x : LocatedMapping) (c : LocatedMappings)
    → IsRedundant (entries a) x.entry (entries c) ⊎ (IsRedundant (entries a) x.entry (entries c) → ⊥)
redundant_or_not a x c = ⊎_elim (λ fine.
    let decides = summaries_decide a x c fine in
    ⊎_elim (λ yes. inl (decides.0 yes)) (λ no. inr (λ redundant. true≢false (sym (decides.1 redundant) ∙ no)))
    (cases_Bool (is_redundant_between (good_summary a (key x.entry)) x (good_summary c (key x.entry)))))
    (λ bad. inl (unaccepted_redundant (entries a) x.entry (entries c) bad)) (cases_Bool (is_accepted x.entry))
