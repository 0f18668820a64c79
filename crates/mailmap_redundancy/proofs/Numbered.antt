-- Sorted keys and their numbers, binary search for them, and the loop that numbers entries in key order.
use Rattle.std.proofs.Common.{rules, ◌≡◌, ◌≢◌, ◌≤◌, ◌<◌, ℕ, Bool, true, false, Result, Ok, Err, List, [], ◌∷◌, length, get_or, Some, refl, ap, subst, ◌∙◌, ⊎_elim, arith, ◌+◌, ◌-◌, ◌++◌, Option, None, option_to_list, unwrap_or, length-append, sym, map, drop, set}
use Rattle.std.proofs.lemmas.Map.Keys.{Less-from_sorted, sorted_from_all_adjacent}
use Rattle.std.proofs.lemmas.List.Sorted.{searchable_from_sorted, Contains-permutation, IsPermutation-sym}
use Rattle.std.proofs.lemmas.Grind.{common_steps, get_or-set_at}
use Rattle.std.proofs.lemmas.Option.{gets, same_Some, slice_get-get_or, slice_get_within, get_or_from_slice_get}
use Rattle.std.specs.List.Sorted.{IsSortedBy, IsBinarySearchResult, IsSearchInRange, IsStrictlySortedBy, IsPermutation}
use Rattle.std.specs.Prelude.{Contains, IfNone, IfSome, All}
use Rattle.std.specs.Cmp.{tied_itself}
use Rattle.std.specs.List.{slice_get, enumerate_from}
use Rattle.std.specs.Ordering.{eq_by_cmp, is_lt}
use Rattle.std.specs.Result.{result_ok}
use Rattle.std.proofs.lemmas.Bool.{cases_lt, cases_order, cases_eq}
use Rattle.std.proofs.lemmas.Map.Lookups.{exact_bytes}
use Rattle.mailmap_entries.specs.Entries.{Mapping, mapping_of}
use Rattle.mailmap_entries.specs.Folding.{Text, text_cmp}
use Rattle.mailmap_entries.specs.Semantics.{Key, is_accepted, key, key_cmp}
use Rattle.mailmap_entries.proofs.Keys.{keys_total, keys_exact}
use Rattle.mailmap_redundancy.specs.Summaries.{IsNumber, AreAscending, IsPushed, IsNotBelowLast, email_key, last_key, IsNumbered, numbered_mapping, located_mapping_of, located_mappings}
use Rattle.std.proofs.lemmas.List.{drop_more, length-map, get_or-map, get_or-set_other}
use Rattle.std.proofs.lemmas.List.FromFn.{length-enumerate_from, get_or-enumerate_from}
use Rattle.std.proofs.Math.Seq.{map-set_same}
use Rattle.mailmap_batches.specs.Batches.{IsWeaklySortedBy, IsSorted, indexed_mapping}
use Rattle.mailmap_batches.specs.declared.indexed.IndexedEntry.{IndexedEntry}
use Rattle.mailmap_redundancy.specs.Redundancy.{located_of}
use Rattle.mailmap_redundancy.specs.declared.keys.NumberedEntry.{NumberedEntry}
use Rattle.mailmap_redundancy.specs.declared.located.LocatedEntry.{LocatedEntry}

pub by_cases : {G : Type 0} (b : Bool) → (b ≡ true → G) → (b ≡ false → G) → G
by_cases true whether otherwise = whether refl
by_cases false whether otherwise = otherwise refl

pub unequal_keys : (x y : Key) → x ≢ y → eq_by_cmp key_cmp x y ≡ false
unequal_keys x y other = search (rules, by_cases, keys_exact, other)

pub unequal_emails : (x y : Text) → x ≢ y → eq_by_cmp text_cmp x y ≡ false
unequal_emails x y other = search (rules, by_cases, exact_bytes, other)

not_before : (ks : List Key) (i j : ℕ) (k : Key) → IsStrictlySortedBy key_cmp ks → IsNumber ks k i → IsNumber ks k j
    → i < j → ⊥
not_before ks i j k up p q less =
    let e = Less-from_sorted key_cmp ks i j k up less (slice_get_within ks j k q) in
    let a = get_or_from_slice_get ks i k k p in
    let b = get_or_from_slice_get ks j k k q in
    let same = tied_itself keys_total k in
    cc

-- a key has only one number
pub same_number : (ks : List Key) (i j : ℕ) (k : Key) → IsStrictlySortedBy key_cmp ks → IsNumber ks k i
    → IsNumber ks k j → i ≡ j
same_number ks i j k up p q = ⊎_elim (λ same. same) (⊎_elim (λ less. absurd (not_before ks i j k up p q less))
    (λ more. absurd (not_before ks j i k up q p more))) (cases_order i j)

-- ---- a binary search

sorted : (ks : List Key) → IsStrictlySortedBy key_cmp ks → IsSortedBy (λ a b. is_lt (key_cmp a b)) ks
sorted ks up = λ k d _ lt. grind (arith, Less-from_sorted, keys_total)

-- what the search's result means for a key
pub searched : (ks : List Key) (q : Key) (r : Result ℕ ℕ) → IsStrictlySortedBy key_cmp ks
    → IsSearchInRange r (length ks) → IsBinarySearchResult (λ k. key_cmp k q) ks r
    → IfSome (result_ok r) (IsNumber ks q) × IfNone (result_ok r) (Contains ks q → ⊥)
searched ks q (Ok i) up within found =
    (slice_get-get_or ks i q within ∙ ap (λ k. Some k) (keys_exact (get_or ks i q) q (found q)), tt)
searched ks q (Err i) up within found = (
  tt,
  λ has.
      let point = found (searchable_from_sorted keys_total (λ k. k) ks q (sorted ks up)) in
      let tied = tied_itself keys_total q in
      grind (arith, point, has, tied, cases_lt),
)

-- ---- appending a key

at_end : {X : Type 0} (xs : List X) (x : X) → slice_get (xs ++ x ∷ []) (length xs) ≡ Some x
at_end xs x = grind (arith, common_steps, gets)

kept_after : {X : Type 0} (xs ys : List X) (i : ℕ) (x : X) → slice_get xs i ≡ Some x → slice_get (xs ++ ys) i ≡ Some x
kept_after xs ys i x is = grind (arith, common_steps, gets)

last_pushed : (ks : List Key) (k : Key) → last_key (ks ++ k ∷ []) ≡ Some k
last_pushed ks k =
    let one_less : length (ks ++ k ∷ []) - 1 ≡ length ks = omega (arith, length-append ks (k ∷ [])) in
    ap (slice_get (ks ++ k ∷ [])) one_less ∙ at_end ks k

-- ---- the keys still ascend

pushed : (ks : List Key) (k : Key) → IsStrictlySortedBy key_cmp ks
    → ((l : Key) → last_key ks ≡ Some l → is_lt (key_cmp l k) ≡ true) → IsStrictlySortedBy key_cmp (ks ++ k ∷ [])
pushed ks k up above = sorted_from_all_adjacent keys_total (ks ++ k ∷ []) k
    (λ i lt. grind (arith, common_steps, gets, Less-from_sorted, above, cases_lt))

-- ---- a key that is not above the last one

-- a last key that is neither below the key of the email of k nor above k has this email
same_email : (l k : Key) → is_lt (key_cmp l (email_key k.0)) ≡ false → is_lt (key_cmp k l) ≡ false → l.0 ≡ k.0
same_email l k not_above reached = grind (arith, keys_total, exact_bytes)

same_key : (l k : Key) → is_lt (key_cmp l k) ≡ false → is_lt (key_cmp k l) ≡ false → l ≡ k
same_key l k not_above reached = grind (arith, keys_exact, keys_total)

own_email_first : (k : Key) → is_lt (key_cmp k (email_key k.0)) ≡ false
own_email_first k = grind (arith, tied_itself, keys_total)

-- ---- pushing both keys of an entry

pub keeps : (ks ks' : List Key) (k : Key) (number : Option ℕ) → IsPushed ks k number ks' → (l : Key) (i : ℕ)
    → IsNumber ks l i → IsNumber ks' l i
keeps ks ks' k None p l i is = subst (λ m. IsNumber m l i) (sym p.0) is
keeps ks ks' k (Some n) p l i is = subst (λ m. IsNumber m l i) (sym p.0) (kept_after ks (k ∷ []) i l is)

-- the last key has the email of k, whose key has this number, and isn't above k
pub record HasEmail (ks : List Key) (email : ℕ) (k : Key) : Type 0 where
  pub so : AreAscending ks email
  pub reached : IsNotBelowLast ks k
  pub last : (l : Key) × (last_key ks ≡ Some l) × (l.0 ≡ k.0)

-- after pushing the key of its email
pub email_pushed : (ks ks' : List Key) (email : ℕ) (k : Key) (number : Option ℕ) → AreAscending ks email
    → IsNotBelowLast ks k → IsPushed ks (email_key k.0) number ks' → HasEmail ks' (unwrap_or number email) k
email_pushed ks ks' email k None so reached p = grind (arith, so, p, same_email, reached)
email_pushed ks ks' email k (Some n) so reached p = rw p.0 (record {
  so = record {
    ascending = pushed ks (email_key k.0) so.ascending p.2;
    of_email = λ l at. grind (arith, last_pushed, at_end, same_Some, p.1, at);
  };
  reached = λ l at. grind (arith, last_pushed, same_Some, own_email_first, at);
  last = (email_key k.0, last_pushed ks (email_key k.0), refl);
})

-- and then its own key
pub key_pushed : (ks ks' : List Key) (email : ℕ) (k : Key) (number : Option ℕ) → HasEmail ks email k
    → IsPushed ks k number ks' → AreAscending ks' email × (last_key ks' ≡ Some k)
key_pushed ks ks' email k None has p =
    let l = p.1 in rw p.0 (has.so, l.1 ∙ ap (λ q. Some q) (same_key l.0 k l.2 (has.reached l.0 l.1)))
key_pushed ks ks' email k (Some n) has p = rw p.0 (
  record {
    ascending = pushed ks k has.so.ascending p.2;
    of_email = λ l at. grind (arith, last_pushed, kept_after, same_Some, at, has);
  },
  last_pushed ks k,
)

abbrev pub Indexed : Type 0
Indexed = ℕ × Mapping

abbrev pub entry_mappings : List LocatedEntry → List Mapping
entry_mappings history = map (λ x. mapping_of x.entry) history

-- ---- sorted entries with their indices

module _ (ms : List Mapping) (ps : List Indexed) (moved : IsPermutation (enumerate_from 0 ms) ps) where
  -- an entry is found at its index
  pub at_its_index : (p : Indexed) → Contains ps p → slice_get ms p.0 ≡ Some p.1
  at_its_index p has =
      let here = Contains-permutation ps (enumerate_from 0 ms) p (IsPermutation-sym (enumerate_from 0 ms) ps moved) has in
      let within : here.0 < length ms = omega (arith, here.1, length-enumerate_from 0 ms) in
      let is = get_or-enumerate_from 0 ms here.0 p within in
      grind (arith, here, is, gets)

  -- each index occurs
  pub comes : (i : ℕ) (m : Mapping) → slice_get ms i ≡ Some m → Contains ps (i, m)
  comes i m is =
      let within : i < length ms = slice_get_within ms i m is in
      let at = get_or-enumerate_from 0 ms i (i, m) within in
      let read : get_or (enumerate_from 0 ms) i (i, m) ≡ (i, m) = grind (arith, at, gets) in
      Contains-permutation (enumerate_from 0 ms) ps (i, m) moved
      (i, omega (arith, within, length-enumerate_from 0 ms), read)

-- ---- the loop

abbrev pub HasNumbers : List Key → Key → NumberedEntry → Type 0
HasNumbers keys k x = IsNumber keys k x.key_number × IsNumber keys (email_key k.0) x.email_number

-- Before position i of the order: the keys are those of the earlier entries, whose rows are numbered, and none of the
-- others is below them.
pub record IsWalk (history : List LocatedEntry) (order : List IndexedEntry) (i : ℕ) (keys : List Key) (email : ℕ)
    (rows : List NumberedEntry) : Type 0 where
  pub sorted : IsSorted (entry_mappings history) (map indexed_mapping order)
  pub located : located_mappings rows ≡ map located_of history
  pub keyed : AreAscending keys email
  pub ascending : IsWeaklySortedBy key_cmp (option_to_list (last_key keys)
      ++ map (λ p. key p.1) (drop i (map indexed_mapping order)))
  pub numbered : (j : ℕ) (p : Indexed) (d : NumberedEntry) → j < i → get_or (map indexed_mapping order) j p ≡ p
      → HasNumbers keys (key p.1) (get_or rows p.0 d)

next : (o : Option Key) (k : Key) (rest : List Key) → IsWeaklySortedBy key_cmp (option_to_list o ++ k ∷ rest)
    → ((l : Key) → o ≡ Some l → is_lt (key_cmp k l) ≡ false) × IsWeaklySortedBy key_cmp (k ∷ rest)
next None k rest up = (λ l is. absurd (cc), up)
next (Some m) k rest up = (λ l is. subst (λ l. is_lt (key_cmp k l) ≡ false) (same_Some m l is) up.0.0, up.1)

module _ (history : List LocatedEntry) (order : List IndexedEntry) (i : ℕ) (keys : List Key) (email : ℕ)
    (rows : List NumberedEntry) (walk : IsWalk history order i keys email rows) (at : IndexedEntry)
    (within : i < length order) (is : at ≡ get_or order i at) where
  abbrev ps : List Indexed
  ps = map indexed_mapping order

  abbrev p : Indexed
  p = indexed_mapping at

  here : (i < length ps) × (get_or ps i p ≡ p)
  here = grind (arith, common_steps, is, length-map, get_or-map)

  found : slice_get (entry_mappings history) p.0 ≡ Some p.1
  found = at_its_index (entry_mappings history) ps walk.sorted.moved p (i, here.0, here.1)

  pub row_within : at.index < length rows
  row_within =
      let inside = slice_get_within (entry_mappings history) p.0 p.1 found in
      omega (
        arith,
        length-map rows located_mapping_of,
        length-map history located_of,
        ap length walk.located,
        length-map history (λ (x : LocatedEntry). mapping_of x.entry),
      )

  ascends : IsWeaklySortedBy key_cmp (option_to_list (last_key keys) ++ key p.1 ∷ map (λ q. key q.1) (drop (i + 1) ps))
  ascends = subst (λ l. IsWeaklySortedBy key_cmp (option_to_list (last_key keys) ++ map (λ q. key q.1) l))
      (drop_more ps i p here.0 ∙ ap (λ q. q ∷ drop (i + 1) ps) here.1) walk.ascending

  pub reached : IsNotBelowLast keys (key p.1)
  reached = (next _ _ _ ascends).0

  -- one step: the entry at position i gets its numbers
  pub walked : (keys' : List Key) (email' : ℕ) (row old : NumberedEntry) → AreAscending keys' email'
      → last_key keys' ≡ Some (key p.1) → ((k : Key) (n : ℕ) → IsNumber keys k n → IsNumber keys' k n)
      → row.located ≡ (get_or rows p.0 old).located → row.key_number ≡ length keys' - 1 → row.email_number ≡ email'
      → IsWalk history order (i + 1) keys' email' (set rows p.0 row)
  walked keys' email' row old keyed last keeps same own first = record {
    sorted = walk.sorted;
    located = map-set_same located_mapping_of rows p.0 row old (ap (λ x. located_of x.now) same) ∙ walk.located;
    keyed = keyed;
    ascending = subst (λ o. IsWeaklySortedBy key_cmp (option_to_list o ++ map (λ q. key q.1) (drop (i + 1) ps))) (sym last)
        (next _ _ _ ascends).1;
    numbered = λ j q d lt has. ⊎_elim (λ same.
        let other = at_its_index (entry_mappings history) ps walk.sorted.moved q (j, omega (arith, here.0, lt), has) in
        let one : p.1 ≡ q.1 = grind (arith, found, other, same) in
        rw (get_or-set_at rows p.0 q.0 row d same row_within) (subst (λ m. HasNumbers keys' (key m) row) one
        (rw own last, rw first (keyed.of_email _ last))))
        (λ apart.
        let before : j < i = grind (arith, here, has, lt, apart, same_Some, slice_get-get_or, cases_eq) in
        let was = walk.numbered j q d before has in
        rw (get_or-set_other rows p.0 q.0 row d apart) (keeps _ _ was.0, keeps _ _ was.1))
        (cases_eq q.0 p.0);
  }

-- before the first step
pub none_walked : (history : List LocatedEntry) (order : List IndexedEntry) (keys : List Key) (rows : List NumberedEntry)
    → keys ≡ [] → located_mappings rows ≡ map located_of history → IsSorted (entry_mappings history) (map indexed_mapping order)
    → IsWalk history order 0 keys 0 rows
unfolding IsStrictlySortedBy
none_walked history order keys rows none located sorted = subst (λ l. IsWalk history order 0 l 0 rows) (sym none) (record {
  sorted = sorted;
  located = located;
  keyed = record { ascending = tt; of_email = λ l is. absurd (cc) };
  ascending = sorted.ascending;
  numbered = λ j p d lt here. absurd (omega (arith, lt));
})

-- after the last step, all entries are numbered
pub all_numbered : (history : List LocatedEntry) (order : List IndexedEntry) (i : ℕ) (keys : List Key) (email : ℕ)
    (rows : List NumberedEntry) → IsWalk history order i keys email rows → length order ≤ i
    → All (λ x. is_accepted (mapping_of x.entry) ≡ true) history → All (IsNumbered keys) rows
all_numbered history order i keys email rows walk over accepted m d within =
    let h = d.located.now in
    let e = numbered_mapping (get_or rows m d) in
    let inside : m < length history =
    omega (arith, length-map rows located_mapping_of, length-map history located_of, ap length walk.located) in
    let same : e ≡ mapping_of (get_or history m h).entry =
    ap (λ x. x.entry) (sym (get_or-map located_mapping_of rows m d (located_of h) within)
    ∙ ap (λ l. get_or l m (located_of h)) walk.located ∙ get_or-map located_of history m h (located_of h) inside) in
    let has = comes (entry_mappings history) (map indexed_mapping order) walk.sorted.moved m e
    (subst (λ x. slice_get (entry_mappings history) m ≡ Some x) (sym same) (grind (arith, common_steps, gets))) in
    let is = walk.numbered has.0 (m, e) d (omega (arith, has.1, length-map order indexed_mapping)) has.2 in
    record { own = is.0; of_email = is.1; accepted = subst (λ x. is_accepted x ≡ true) (sym same) (accepted m h inside) }
