-- Putting one entry into groups.
use Rattle.std.proofs.Common.{arith, ℕ, ◌<◌, ◌≤◌, length, take, set, get_or, ◌≡◌, ◌≢◌, List, [], ◌∷◌, ◌++◌, map}
use Rattle.std.proofs.Common.{append_assoc, true, option_map, unwrap_or, is_some, IsSome, Option, Some, None, Result, Ok, Err, Less}
use Rattle.std.proofs.Common.{is_eq, refl, sym, ap, subst, ◌∙◌}
use Rattle.std.proofs.lemmas.Grind.{common_steps}
use Rattle.std.specs.Option.{ForSome, option_or, option_to_list}
use Rattle.std.specs.Ordering.{ordering_reverse}
use Rattle.std.specs.List.{AllByRecursion, cons_option, insert, slice_get}
use Rattle.std.specs.List.Sorted.{IsStrictlySortedBy}
use Rattle.std.proofs.lemmas.List.{map-append}
use Rattle.std.proofs.lemmas.List.Elements.{All-from_recursion, recursion_from_All}
use Rattle.std.proofs.lemmas.Option.{get_or_from_slice_get, slice_get_within}
use Rattle.mailmap_entries.specs.Entries.{Mapping, mapping_of}
use Rattle.mailmap_entries.specs.declared.entry.Entry.{Entry}
use Rattle.mailmap_entries.specs.Building.{IsPaired}
use Rattle.mailmap_entries.specs.Folding.{Text, folded, text_cmp}
use Rattle.mailmap_entries.specs.Semantics.{Fields, IsNormal, is_accepted, key, key_cmp, mapping_with, new_fields}
use Rattle.mailmap_entries.specs.Semantics.{spelling, value}
use Rattle.mailmap_entries.proofs.Alike.{Alike, alike_back, alike_itself, alike_joined, first_parts, same_normal}
use Rattle.mailmap_entries.proofs.Ascending.{after as above}
use Rattle.mailmap_entries.proofs.Building.{same_text}
use Rattle.mailmap_entries.proofs.Keys.{keys_exact, keys_total}
use Rattle.mailmap_entries.proofs.Joined.{IsApart, alike_swapped, alike_trans}
use Rattle.mailmap_entries.proofs.Normal.{old_email_is}
use Rattle.mailmap_entries.proofs.Parts.{all_apply, all_map, all_tail}
use Rattle.mailmap_batches.specs.Batches.{folded_email_of}
use Rattle.mailmap_batches.proofs.Respelled.{alike_respelled}
use Rattle.mailmap_tables.specs.Groups.{AreGroups, EmailGroup, IsGroup, StoredName, folded_email, listing, folded_name}
use Rattle.mailmap_tables.specs.Groups.{name_entry, unnamed_entries, group_entries}
use Rattle.mailmap_tables.specs.KeySearch.{IsFound, IsMissing, IsPlace, found_in, placed}
use Rattle.mailmap_tables.specs.Put.{IsPutInto, email_given, name_given, spelled_name, with_old_email}
use Rattle.mailmap_tables.proofs.Grouped.{groups_normal, listing-append, spelled_there}
use Rattle.mailmap_tables.proofs.KeySearch.{after, all_placed, found_key, found_same, index_of, new_parts, old_parts, place_within}
use Rattle.mailmap_tables.proofs.KeySearch.{placed_found, placed_sorted}

-- ---- an entry u after a list, in which v then stands for it and for the entries mid

module _ (front mid back n : List Mapping) (u v : Mapping) (parts : n ≡ front ++ v ∷ back) (normal : IsNormal n n)
    (same : key u ≡ key v) (email : u.old_email ≡ v.old_email) where
  -- emails that are the same without case have one spelling in a normal list
  spelled : (e : Mapping) → e ≡ value n (key e) → e.old_email ≡ unwrap_or (spelling n (folded e.old_email)) []
  spelled e is = ap (λ x. x.old_email) is ∙ old_email_is n n normal (key e)

  apart : AllByRecursion (λ y. AllByRecursion (λ x. IsApart y x) (u ∷ [])) back
  apart =
      let up = above keys_total keys_exact (map key front) (key v) (map key back)
      (subst (IsStrictlySortedBy key_cmp) (ap (map key) parts ∙ map-append key front (v ∷ back)) normal.ascending) in
      let values = all_tail (λ e. e ≡ value n (key e)) front (v ∷ back)
      (subst (AllByRecursion (λ e. e ≡ value n (key e))) parts (recursion_from_All _ n normal.values)) in
      let spells = λ (t : Text). unwrap_or (spelling n t) [] in
      let alone : (y : Mapping) → key_cmp (key v) (key y) ≡ Less → y ≡ value n (key y) → IsApart y u = λ y less is. (
        ap (λ k. is_eq (key_cmp (key y) k)) same
            ∙ ap is_eq (keys_total.antisymm (key y) (key v) ∙ ap ordering_reverse less),
        λ alike. spelled y is ∙ ap spells ((same_text (folded y.old_email) (folded u.old_email)).0 alike)
            ∙ ap (λ t. spells (folded t)) email ∙ sym (email ∙ spelled v values.0),
      ) in
      all_apply _ _ _ (λ y less is. (alone y less is, tt)) back
      (all_map key (λ k. key_cmp (key v) k ≡ Less) back up) values.1

  put_among : Alike (mid ++ u ∷ []) (v ∷ []) → Alike ((front ++ (mid ++ back)) ++ u ∷ []) n
  put_among here =
      let moved = alike_joined mid (back ++ u ∷ []) mid (u ∷ back) (alike_itself mid)
      (alike_swapped back (u ∷ []) apart) in
      let done : Alike (mid ++ u ∷ back) (v ∷ back) =
      rw append_assoc at (alike_joined (mid ++ u ∷ []) back (v ∷ []) back here (alike_itself back)) in
      rw (parts, append_assoc front (mid ++ back) (u ∷ []), append_assoc mid back (u ∷ []))
      (alike_joined front (mid ++ (back ++ u ∷ [])) front (v ∷ back) (alike_itself front)
      (alike_trans (mid ++ (back ++ u ∷ [])) (mid ++ u ∷ back) (v ∷ back) moved done))

-- ---- an entry in groups, whose email has the entries h then

abbrev found_entries : Option EmailGroup → List Mapping
found_entries None = []
found_entries (Some g) = group_entries g

some : (front : List Mapping) (v : Mapping) (back : List Mapping) → front ++ v ∷ back ≢ []
some [] v back none = cc
some (x ∷ front) v back none = cc

some_or : (o : Option Text) → IsSome o → Some (unwrap_or o []) ≡ o
some_or o s = grind arith

-- the row of a name with the fields of an entry
name_given_entry : (m : Mapping) (old_name : Text) → m.old_name ≡ Some old_name → IsSome m.new_email → (email : Text)
    → name_entry email (name_given old_name m) ≡ with_old_email email m
name_given_entry m old_name is some email = grind (arith, some_or)

-- an email with one entry
pub one_entry : (m : Mapping) (o : Option Text) → m.old_name ≡ o → is_accepted m ≡ true
    → (IsSome o → IsSome m.new_email) → group_entries (email_given m o) ≡ m ∷ []
one_entry m None is good paired = grind arith
one_entry m (Some name) is good paired = grind (arith, some_or, paired refl)

pub one_sorted : (m : Mapping) (o : Option Text) → IsStrictlySortedBy text_cmp (map folded_name (email_given m o).names)
unfolding IsStrictlySortedBy
one_sorted m None = tt
one_sorted m (Some name) = (tt, tt)

pub entry_paired : (e : Entry) → IsPaired (mapping_of e)
entry_paired e is = grind (arith, common_steps)

-- each field that is given, otherwise the existing one
abbrev pub given_or : Fields → Fields → Fields
given_or given existing = record {
  name = option_or given.name existing.name;
  email = option_or given.email existing.email;
}

own_once : (g : EmailGroup) (u : Mapping) → u.old_name ≡ None → u.old_email ≡ g.old_email → is_accepted u ≡ true
    → Alike (unnamed_entries g ++ u ∷ []) (mapping_with (given_or (new_fields u) g.unnamed) None g.old_email ∷ [])
own_once g u plain same good = grind (arith, common_steps)

name_same : (name : Text) (o : Option StoredName) → ForSome o (λ k. folded_name k ≡ folded name)
    → folded (unwrap_or (option_map (λ k. k.old_name) o) name) ≡ folded name
name_same name o same = grind (arith, same)

-- an entry replaces the fields of a name, or adds the name
name_combined : (e name : Text) (m : Mapping) → m.old_name ≡ Some name → IsSome m.new_email → (o : Option StoredName)
    → ForSome o (λ k. folded_name k ≡ folded name)
    → Alike (map (name_entry e) (option_to_list o) ++ with_old_email e m ∷ [])
    (name_entry e (name_given (unwrap_or (option_map (λ k. k.old_name) o) name) m) ∷ [])
name_combined e name m is some None same = rw (name_given_entry m name is some e) (alike_itself (with_old_email e m ∷ []))
name_combined e name m is some (Some k) same = let here = same k refl in grind (arith, common_steps)

map-parted : {X Y : Type 0} (f : X → Y) (xs : List X) (o : Option X) (ys : List X)
    → map f (xs ++ cons_option o ys) ≡ map f xs ++ (map f (option_to_list o) ++ map f ys)
map-parted f xs o ys = grind (arith, map-append)

listing-parted : (before after : List EmailGroup) (o : Option EmailGroup)
    → listing (before ++ cons_option o after) ≡ listing before ++ (found_entries o ++ listing after)
listing-parted before after o = grind (arith, listing-append)

module _ (m : Mapping) {gs : List EmailGroup} (are : AreGroups gs) (r : Result ℕ ℕ)
    (place : IsPlace folded_email (folded_email_of m) gs r) where
  -- the group h in the place of the entry's email, whose entries are those that were there, and v for mid and u
  pub put_placed : (h : EmailGroup) → folded_email h ≡ folded_email_of m
      → IsStrictlySortedBy text_cmp (map folded_name h.names) → (front mid back : List Mapping) (u v : Mapping)
      → found_entries (found_in gs r) ≡ front ++ (mid ++ back) → group_entries h ≡ front ++ v ∷ back
      → Alike (listing gs ++ m ∷ []) (listing gs ++ u ∷ []) → key u ≡ key v → u.old_email ≡ v.old_email
      → Alike (mid ++ u ∷ []) (v ∷ []) → IsPutInto m gs (index_of r) (placed gs r h)
  put_placed h same up front mid back u v old new respelt keys email here =
      let within = place_within folded_email (folded_email_of m) gs r place in
      let made : AreGroups (placed gs r h) = record {
        ascending = placed_sorted folded_email (folded_email_of m) gs r h same are.ascending place;
        each = all_placed IsGroup gs r h are.each
            (record { ascending = up; says = λ none. some front v back (sym new ∙ none) });
      } in
      let lower = listing (take (index_of r) gs) in
      let higher = listing (after gs r) in
      let n = listing (placed gs r h) in
      let normal = groups_normal (placed gs r h) made in
      let parts : n ≡ (lower ++ front) ++ v ∷ (back ++ higher) = rw (
        new_parts h gs r within,
        listing-parted (take (index_of r) gs) (after gs r) (Some h),
        new,
      ) (grind (arith, append_assoc)) in
      let whole : listing gs ≡ (lower ++ front) ++ (mid ++ (back ++ higher)) =
      ap listing (old_parts h gs r within) ∙ listing-parted (take (index_of r) gs) (after gs r) (found_in gs r)
      ∙ ap (λ l. lower ++ (l ++ higher)) old ∙ grind (arith, append_assoc) in
      record {
        put = record {
          groups = made;
          normal = same_normal n _ n (alike_back _ n (alike_trans _ (listing gs ++ u ∷ []) n respelt
              (rw whole (put_among (lower ++ front) mid (back ++ higher) n u v parts normal keys email here)))) normal;
        };
        found = placed_found folded_email (folded_email_of m) gs r h same within;
      }

module _ (m : Mapping) {gs : List EmailGroup} (are : AreGroups gs) (i : ℕ) where
  -- an email that is not there is added
  pub put_missing : i ≤ length gs → IsMissing folded_email (folded_email_of m) gs i → is_accepted m ≡ true
      → IsPaired m → IsPutInto m gs i (insert gs i (email_given m m.old_name))
  put_missing le missing good paired =
      put_placed m are (Err i) (le, missing) (email_given m m.old_name) (same m.old_name) (one_sorted m m.old_name) [] [] [] m m
      refl (one_entry m m.old_name refl good paired) (alike_itself _) refl refl (alike_itself (m ∷ []))
    where
      same : (o : Option Text) → folded_email (email_given m o) ≡ folded_email_of m
      same o = grind arith

  module _ (found : IsFound folded_email (folded_email_of m) gs i) (g : EmailGroup) (read : slice_get gs i ≡ Some g) where
    within : i < length gs
    within = slice_get_within gs i g read

    here : g ≡ get_or gs i g
    here = sym (get_or_from_slice_get gs i g g read)

    same_email : folded_email g ≡ folded_email_of m
    same_email = found_key folded_email (folded_email_of m) gs i found g here

    -- the entry, spelled as the email is
    abbrev spelt : Mapping
    spelt = with_old_email g.old_email m

    respelt : Alike (listing gs ++ m ∷ []) (listing gs ++ spelt ∷ [])
    respelt =
        let there : spelling (listing gs ++ m ∷ []) (folded_email_of m) ≡ Some g.old_email =
        first_parts (λ e. e.old_email) _ (listing gs) (m ∷ [])
        ∙ ap (λ o. option_or o (spelling (m ∷ []) (folded_email_of m)))
        (ap (spelling (listing gs)) (sym same_email) ∙ spelled_there gs are i g within here) in
        subst (λ o. Alike (listing gs ++ m ∷ []) (listing gs ++ record m { old_email = unwrap_or o [] } ∷ [])) there
        (alike_respelled (listing gs) (m ∷ []) (m ∷ []) (λ k. refl))

    pub names_ascend : IsStrictlySortedBy text_cmp (map folded_name g.names)
    names_ascend = (subst IsGroup (sym here) (All-from_recursion IsGroup gs are.each i g within)).ascending

    -- a group in the place of g, with the same email and v for the entries mid
    put_there : (h : EmailGroup) → h.old_email ≡ g.old_email → IsStrictlySortedBy text_cmp (map folded_name h.names)
        → (front mid back : List Mapping) (v : Mapping) → group_entries g ≡ front ++ (mid ++ back)
        → group_entries h ≡ front ++ v ∷ back → key spelt ≡ key v → v.old_email ≡ g.old_email
        → Alike (mid ++ spelt ∷ []) (v ∷ []) → IsPutInto m gs i (set gs i h)
    put_there h email up front mid back v old new same email_is alike =
        put_placed m are (Ok i) found h (ap folded email ∙ same_email) up front mid back spelt v
        (ap found_entries read ∙ old) new respelt same (sym email_is) alike

    pub fields_put : is_accepted m ≡ true → m.old_name ≡ None
        → IsPutInto m gs i (set gs i (record g { unnamed = given_or (new_fields m) g.unnamed }))
    fields_put good plain =
        let h : EmailGroup = record g { unnamed = given_or (new_fields m) g.unnamed } in
        let v = mapping_with h.unnamed None g.old_email in
        put_there h refl names_ascend [] (unnamed_entries g) (map (name_entry g.old_email) g.names) v refl
        (grind (arith, common_steps)) (grind arith) refl (own_once g spelt plain refl good)

    pub names_ascend_with : (name : Text) (r : Result ℕ ℕ) → IsPlace folded_name (folded name) g.names r
        → IsStrictlySortedBy text_cmp (map folded_name (placed g.names r (name_given (spelled_name g.names r name) m)))
    names_ascend_with name r place =
        placed_sorted folded_name (folded name) g.names r (name_given (spelled_name g.names r name) m)
        (name_same name (found_in g.names r) (found_same folded_name (folded name) g.names r place)) names_ascend place

    pub name_put : (name : Text) → m.old_name ≡ Some name → IsPaired m → (r : Result ℕ ℕ)
        → IsPlace folded_name (folded name) g.names r
        → IsPutInto m gs i (set gs i (record g { names = placed g.names r (name_given (spelled_name g.names r name) m) }))
    name_put name is paired r place =
        let some : IsSome m.new_email = paired (ap is_some is) in
        let ns = g.names in
        let n = name_given (spelled_name ns r name) m in
        let row = name_entry g.old_email in
        let within = place_within folded_name (folded name) ns r place in
        let same = name_same name (found_in ns r) (found_same folded_name (folded name) ns r place) in
        put_there (record g { names = placed ns r n }) refl
        (names_ascend_with name r place)
        (unnamed_entries g ++ map row (take (index_of r) ns)) (map row (option_to_list (found_in ns r)))
        (map row (after ns r)) (row n)
        (ap (λ l. unnamed_entries g ++ map row l) (old_parts n ns r within)
        ∙ grind (arith, append_assoc, map-parted))
        (ap (λ l. unnamed_entries g ++ map row l) (new_parts n ns r within)
        ∙ grind (arith, append_assoc, map-append))
        (grind (arith, common_steps, same)) refl
        (name_combined g.old_email name m is some (found_in ns r) (found_same folded_name (folded name) ns r place))
