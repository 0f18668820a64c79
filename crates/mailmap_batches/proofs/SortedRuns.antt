-- A batch that is sorted by prefix, and then within each run of entries with the same prefix: `run_sorted` is for the
-- loop of `sort_runs`, `by_names` for `sort_run`, and `sorted_from` for `sorted`.
use Rattle.std.proofs.Common.{◌≡◌, ◌<◌, ◌≤◌, ◌-◌, ◌+◌, ℕ, true, false, List, [], ◌∷◌, ◌++◌}
use Rattle.std.proofs.Common.{All, map, take, drop, get_or, length, Option, Ordering, Equal, Greater, refl, sym}
use Rattle.std.proofs.Common.{ap, ap₂, append_assoc, subst, subst₂, ◌∙◌, arith, length-append, length-drop, length-take-le}
use Rattle.std.specs.Cmp.{IsTotalOrder, tied_itself}
use Rattle.std.specs.Cmp.Lexicographic.{nat_list_cmp_total}
use Rattle.std.specs.Fn.{Called}
use Rattle.std.specs.List.{AllByRecursion, enumerate_from}
use Rattle.std.specs.List.Sorted.{IsNonDecreasingBy, IsPermutation, IsSortedByClosure, IsSortedByKey, IsStableByClosure}
use Rattle.std.specs.List.Sorted.{IsStableByKey, ties}
use Rattle.std.specs.Option.{option_cmp}
use Rattle.std.specs.Ordering.{is_le, is_lt, nat_cmp, ordering_reverse, ordering_then}
use Rattle.std.proofs.lemmas.Bool.Decides.{nat_tests}
use Rattle.std.proofs.lemmas.List.{get_or-drop, get_or-take, length-take, map-append, take_at}
use Rattle.std.proofs.Math.Seq.{take-add}
use borrow.Rule.Slice.PartMut.{Post-is, drop_put, mid_len, mid_of, post_of, put_mid, same_len_mid}
use denote.Param.Members.{Mut}
use denote.Ref.{Bor}
use Rattle.std.proofs.lemmas.List.Elements.{All-from_get_or, All-head, All-tail, All-take, All-weaker, recursion_from_All}
use Rattle.std.proofs.lemmas.List.Sorted.{All-permutation, IsPermutation-append, IsPermutation-map, IsPermutation-refl, IsPermutation-trans}
use Rattle.std.proofs.lemmas.List.Sorted.{answers_always, ranks_by, sorted_far}
use Rattle.mailmap_entries.specs.Entries.{Mapping}
use Rattle.mailmap_entries.specs.Folding.{Text, text_cmp}
use Rattle.mailmap_entries.specs.Semantics.{Key, key, key_cmp, of_key}
use Rattle.mailmap_entries.proofs.Alike.{picked-append}
use Rattle.mailmap_entries.proofs.Keys.{keys_total}
use Rattle.mailmap_entries.proofs.Parts.{all_append, all_mapped}
use Rattle.mailmap_entries.proofs.Prefixes.{prefix_less}
use Rattle.mailmap_batches.specs.Batches.{IsWeaklySortedBy, IsSorted, IsSortedFrom, KeepsOrder, folded_email_at, email_prefix, indexed_mapping}
use Rattle.mailmap_batches.specs.Batches.{key_at, mapping_at}
use Rattle.mailmap_batches.specs.declared.indexed.IndexedEntry.{IndexedEntry}
use Rattle.mailmap_batches.proofs.Numbered.{ascending_from, mapped_twice, numbered}
use Rattle.mailmap_batches.proofs.Stable.{keyed_from_stable}

-- ---- entries that keep the order of those of each key

pub kept : (xs : List IndexedEntry) → KeepsOrder xs xs
kept xs = record { moved = IsPermutation-refl xs; keyed = λ k. refl }

pub kept_then : {xs ys zs : List IndexedEntry} → KeepsOrder xs ys → KeepsOrder ys zs → KeepsOrder xs zs
kept_then {xs} {ys} {zs} p q = record {
  moved = IsPermutation-trans xs ys zs p.moved q.moved;
  keyed = λ k. p.keyed k ∙ q.keyed k;
}

of_key-append : (xs ys : List IndexedEntry) (k : Key)
    → of_key (map mapping_at (xs ++ ys)) k ≡ of_key (map mapping_at xs) k ++ of_key (map mapping_at ys) k
of_key-append xs ys k = grind (arith, map-append, picked-append)

kept_joined : (xs ys xs' ys' : List IndexedEntry) → KeepsOrder xs xs' → KeepsOrder ys ys'
    → KeepsOrder (xs ++ ys) (xs' ++ ys')
kept_joined xs ys xs' ys' s t = record {
  moved = IsPermutation-append xs xs' ys ys' s.moved t.moved;
  keyed = λ k. of_key-append xs ys k ∙ ap₂ (λ l m. l ++ m) (s.keyed k) (t.keyed k) ∙ sym (of_key-append xs' ys' k);
}

module _ {K : Type 0} {R : K → K → Ordering} (o : IsTotalOrder R) (by : IndexedEntry → K)
    (told : (p q : IndexedEntry) → key_at p ≡ key_at q → by p ≡ by q) (old new : List IndexedEntry)
    (moved : IsPermutation old new) where
  -- a stable sort by what the key tells
  pub kept_by : IsStableByKey by R old new → KeepsOrder old new
  kept_by stable = record {
    moved = moved;
    keyed = keyed_from_stable mapping_at (λ p q. is_lt (R (by p) (by q))) (λ p q e. tied p q (told p q e)) old new stable;
  }
    where
      tied : (p q : IndexedEntry) → by p ≡ by q → ties (λ p q. is_lt (R (by p) (by q))) p q ≡ true
      tied p q e = let same = tied_itself o (by p) in grind arith

  -- what the clauses of `sort_by` say where the closure compares what the key tells
  pub sorted_by : {F : Type 0} {g : Mut F (Bor IndexedEntry × (Bor IndexedEntry × Unit {0})) Ordering} {f : F}
      → IsStableByClosure g f old new → IsSortedByClosure g f new
      → ((f : F) (a : Bor IndexedEntry × (Bor IndexedEntry × Unit {0})) (r : Ordering) (f' : F) → Called g f a r f'
      → r ≡ R (by a.0.now) (by a.1.0.now)) → KeepsOrder old new × IsSortedByKey by R new
  sorted_by stable sorted says =
      let compares = answers_always _ _ _ (λ f a r f' called. ap is_lt (says f a r f' called)) in
      (kept_by (stable _ (ranks_by o by) compares), sorted _ (ranks_by o by) compares)

-- ---- one run after another

abbrev IsNotBelow : IndexedEntry → IndexedEntry → Type 0
IsNotBelow q p = is_lt (key_cmp (key_at q) (key_at p)) ≡ false

-- this entry is at most each of these: none of them is below it
abbrev IsAtMost : List IndexedEntry → IndexedEntry → Type 0
IsAtMost ys p = All (λ q. IsNotBelow q p) ys

ascending_join : (xs ys : List IndexedEntry) → IsWeaklySortedBy key_cmp (map key_at xs) → IsWeaklySortedBy key_cmp (map key_at ys)
    → All (IsAtMost ys) xs → IsWeaklySortedBy key_cmp (map key_at (xs ++ ys))
ascending_join [] ys s t a = t
ascending_join (x ∷ xs) ys s t a =
    let above = all_mapped key_at (λ k. is_lt (key_cmp k (key_at x)) ≡ false) ys
    (recursion_from_All (λ q. IsNotBelow q x) ys (All-head (IsAtMost ys) x xs a)) in (
      subst (AllByRecursion (λ k. is_lt (key_cmp k (key_at x)) ≡ false)) (sym (map-append key_at xs ys))
          (all_append _ (map key_at xs) (map key_at ys) s.0 above),
      ascending_join xs ys s.1 t (All-tail (IsAtMost ys) x xs a),
    )

sorted_joined : (xs ys xs' ys' : List IndexedEntry) → IsSortedFrom xs xs' → IsSortedFrom ys ys' → All (IsAtMost ys) xs
    → IsSortedFrom (xs ++ ys) (xs' ++ ys')
sorted_joined xs ys xs' ys' s t a = record {
  kept = kept_joined xs ys xs' ys' s.kept t.kept;
  ascending = ascending_join xs' ys' s.ascending t.ascending (All-permutation (IsAtMost ys') xs xs' s.kept.moved
      (All-weaker (IsAtMost ys) (IsAtMost ys') (λ p. All-permutation (λ q. IsNotBelow q p) ys ys' t.kept.moved) xs a));
}

-- an entry with a greater prefix is not below one with a smaller
greater_key : (p q : IndexedEntry) → email_prefix p < email_prefix q → IsNotBelow q p
greater_key p q lt =
    let x = folded_email_at p in
    let y = folded_email_at q in
    let above : text_cmp y x ≡ Greater =
    nat_list_cmp_total.antisymm y x ∙ ap ordering_reverse (prefix_less 16 x y p.is_prefix.bytes q.is_prefix.bytes lt) in
    ap (λ o. is_lt (ordering_then o (option_cmp text_cmp (key_at q).1 (key_at p).1))) above

-- if the prefix rises at an index, no entry from there on is below one before it
rises_at : (xs : List IndexedEntry) (e : ℕ) → 0 < e → e ≤ length xs → IsNonDecreasingBy email_prefix xs
    → ((d : IndexedEntry) → e < length xs → email_prefix (get_or xs (e - 1) d) < email_prefix (get_or xs e d))
    → All (IsAtMost (drop e xs)) (take e xs)
rises_at xs e some le ascending rises i d i_lt =
    let i_in : i < e = omega (arith, i_lt, length-take e xs) in
    All-from_get_or (λ q. IsNotBelow q (get_or (take e xs) i d)) (drop e xs) d (λ j j_lt.
    let j_in : e + j < length xs = omega (arith, j_lt, length-drop e xs) in
    let lower = ascending i (e - 1) d (omega arith) (omega arith) in
    let upper = ascending e (e + j) d (omega arith) j_in in
    subst₂ IsNotBelow (sym (get_or-drop e xs j d)) (sym (get_or-take e xs i d i_in))
    (greater_key (get_or xs i d) (get_or xs (e + j) d) (omega (arith, lower, upper, rises d (omega arith)))))

-- the entries before an index are sorted in place, none of the others is below one of them, and the others are as they were
pub record IsSortedTo (e : ℕ) (old new : List IndexedEntry) : Type 0 where
  pub sorted : IsSortedFrom (take e old) (take e new)
  pub apart : All (IsAtMost (drop e old)) (take e old)
  pub others : drop e new ≡ drop e old
  pub len : length new ≡ length old

-- what is at an index from a on is the same in lists that are the same from there on
get_or-others : (xs ys : List IndexedEntry) (a i : ℕ) (d : IndexedEntry) → drop a xs ≡ drop a ys → a ≤ i
    → get_or xs i d ≡ get_or ys i d
get_or-others xs ys a i d same le =
    let at : a + (i - a) ≡ i = omega (arith, le) in
    ap (λ k. get_or xs k d) (sym at) ∙ sym (get_or-drop a xs (i - a) d) ∙ ap (λ l. get_or l (i - a) d) same
    ∙ get_or-drop a ys (i - a) d ∙ ap (λ k. get_or ys k d) at

-- one more run is sorted, from the index a to e
pub run_sorted : (old new run : List IndexedEntry) (a e : ℕ) → a < e → e ≤ length new → length run ≡ e - a
    → IsNonDecreasingBy email_prefix old
    → ((d : IndexedEntry) → e < length new → email_prefix (get_or new (e - 1) d) < email_prefix (get_or new e d))
    → IsSortedTo a old new → IsSortedFrom (mid_of a (e - a) new) run → IsSortedTo e old (put_mid a (e - a) new run)
run_sorted old new run a e lt le count ascending greater before sorted =
    let mid = mid_of a (e - a) old in
    let le' : e ≤ length old = omega (arith, le, before.len) in
    let parts : take a old ++ mid ≡ take e old = grind (arith, take-add a (e - a) old) in
    let run_of : IsSortedFrom mid run = subst (λ l. IsSortedFrom (take (e - a) l) run) before.others sorted in
    let le_a : a ≤ length new = omega (arith, lt, le) in
    let some : length (take a new ++ run) ≡ e = omega (arith, length-append (take a new) run, length-take-le a new le_a, count, lt) in
    let front : take a new ++ run ≡ take e (put_mid a (e - a) new run) =
    sym (ap (take e) (sym (append_assoc (take a new) run (post_of a (e - a) new))) ∙ take_at (take a new ++ run) (post_of a (e - a) new) e some) in
    record {
      sorted = subst₂ IsSortedFrom parts front (sorted_joined (take a old) mid (take a new) run before.sorted run_of
          (All-weaker (IsAtMost (drop a old)) (IsAtMost mid)
          (λ p. All-take (λ q. IsNotBelow q p) (e - a) (drop a old)) (take a old) before.apart));
      apart = rises_at old e (omega (arith, lt)) le' ascending (λ d lt'. subst₂ (λ x y. email_prefix x < email_prefix y)
          (get_or-others new old a (e - 1) d before.others (omega (arith, lt))) (get_or-others new old a e d before.others (omega (arith, lt)))
          (greater d (omega (arith, lt', before.len))));
      others = drop_put a e new run (omega (arith, lt)) le count
          ∙ sym (Post-is a e new (omega (arith, lt))) ∙ ap (drop (e - a)) before.others ∙ Post-is a e old (omega (arith, lt));
      len = same_len_mid a (e - a) new run (count ∙ sym (mid_len a e new le)) ∙ before.len;
    }

pub one_sorted : (xs : List IndexedEntry) → length xs ≡ 1 → IsSortedFrom xs xs
one_sorted [] e = absurd (omega (arith, e))
one_sorted (x ∷ []) e = record { kept = kept (x ∷ []); ascending = (tt, tt) }
one_sorted (x ∷ y ∷ xs) e = absurd (omega (arith, e))

pub none_sorted : (xs : List IndexedEntry) → IsSortedTo 0 xs xs
none_sorted xs = record {
  sorted = record { kept = kept []; ascending = tt };
  apart = λ i d lt. absurd (omega arith);
  others = refl;
  len = refl;
}

-- ---- the entries of one email, by name

pub ascending_by_key : (xs : List IndexedEntry) → IsSortedByKey key_at key_cmp xs
    → IsWeaklySortedBy key_cmp (map key_at xs)
ascending_by_key xs sorted = ascending_from key_cmp key_at xs (sorted_far _ (ranks_by keys_total key_at) xs sorted)

abbrev pub name_at : IndexedEntry → Option Text
name_at p = (key_at p).1

pub by_names : (first : IndexedEntry → IndexedEntry) (xs : List IndexedEntry)
    → ((d : IndexedEntry) → All (λ p. folded_email_at p ≡ folded_email_at (first d)) xs)
    → IsSortedByKey name_at (option_cmp text_cmp) xs → IsSortedByKey key_at key_cmp xs
by_names first xs one sorted k d low lt =
    let p = get_or xs k d in
    let q = get_or xs (k + 1) d in
    let tied : text_cmp (folded_email_at q) (folded_email_at p) ≡ Equal =
    ap₂ text_cmp (one d (k + 1) d lt) (one d k d (omega arith)) ∙ tied_itself nat_list_cmp_total (folded_email_at (first d)) in
    ap (λ o. is_lt (ordering_then o (option_cmp text_cmp (name_at q) (name_at p)))) tied ∙ sorted k d low lt

-- ---- all entries

pub le_from_answer : (m n : ℕ) → true ≡ is_le (nat_cmp m n) → m ≤ n
le_from_answer m n e = grind (arith, nat_tests)

-- entries with their indexes, which are sorted by prefix and then by key
pub sorted_from : (xs : List Mapping) (old mid new : List IndexedEntry) → map indexed_mapping old ≡ enumerate_from 0 xs
    → KeepsOrder old mid → IsSortedFrom mid new → IsSorted xs (map indexed_mapping new)
sorted_from xs old mid new is first sorted =
    let says : (ps : List IndexedEntry) → map (λ p. p.1) (map indexed_mapping ps) ≡ map mapping_at ps =
    mapped_twice indexed_mapping (λ p. p.1) in
    let whole = kept_then first sorted.kept in
    record {
      moved = subst (λ l. IsPermutation l (map indexed_mapping new)) is (IsPermutation-map indexed_mapping old new whole.moved);
      keyed = λ k. ap (λ l. of_key l k) (sym (numbered 0 xs) ∙ ap (map (λ p. p.1)) (sym is) ∙ says old) ∙ whole.keyed k
          ∙ ap (λ l. of_key l k) (sym (says new));
      ascending = subst (IsWeaklySortedBy key_cmp) (sym (mapped_twice indexed_mapping (λ p. key p.1) new)) sorted.ascending;
    }
