-- Tables that are built of a sorted batch, email by email.
use Rattle.std.proofs.Common.{◌≡◌, ◌≢◌, ◌<◌, ◌≤◌, ℕ, zero, suc, List, [], ◌∷◌, ◌++◌, map, take, drop, length, All}
use Rattle.std.proofs.Common.{Contains, HoldsAt, get_or, Less, Some, append-nil, append_assoc, take-append-drop, true, false}
use Rattle.std.proofs.Common.{refl, sym, ap, subst, ◌∙◌, arith}
use Rattle.std.specs.Cmp.{tied_itself}
use Rattle.std.specs.Cmp.Lexicographic.{nat_list_cmp_total}
use Rattle.std.specs.List.{AllByRecursion, enumerate_from}
use Rattle.std.specs.Ordering.{is_lt}
use Rattle.std.proofs.lemmas.Grind.{common_steps}
use Rattle.std.proofs.lemmas.List.{get_or-map, length-map, map-append}
use Rattle.std.proofs.lemmas.List.Elements.{All-contains, All-from_recursion, recursion_from_All, Contains-append_left}
use Rattle.std.proofs.lemmas.List.Elements.{Contains-append_right}
use Rattle.std.proofs.lemmas.List.Sorted.{All-permutation}
use Rattle.std.proofs.lemmas.Map.Lookups.{exact_bytes}
use Rattle.mailmap_entries.specs.Entries.{Mapping}
use Rattle.mailmap_entries.specs.Folding.{Text, text_cmp}
use Rattle.mailmap_entries.specs.Semantics.{Key, is_accepted, key, key_cmp, of_key, spelling}
use Rattle.mailmap_entries.proofs.Parts.{all_append, all_head, all_map, all_mapped, all_tail, all_weaker, map_alike}
use Rattle.mailmap_batches.specs.Batches.{IsWeaklySortedBy, IsSorted, folded_email_at as by, folded_email_of, indexed_mapping, mapping_at}
use Rattle.mailmap_batches.specs.declared.indexed.IndexedEntry.{IndexedEntry}
use Rattle.mailmap_batches.proofs.Numbered.{mapped_twice, numbered}
use Rattle.mailmap_batches.proofs.Respelled.{alike_respelled, least_spells, respelled}
use Rattle.mailmap_tables.specs.Groups.{EmailGroup, listing}
use Rattle.mailmap_tables.specs.Put.{AreAccepted, Represent, with_old_email}
use Rattle.mailmap_tables.proofs.Grouped.{apart_less, no_groups}
use Rattle.mailmap_tables.proofs.Merged.{none_put, put_alike, put_more}

contains_mapped : {X Y : Type 0} (f : X → Y) (xs : List X) (x : X) → Contains xs x → Contains (map f xs) (f x)
contains_mapped f xs x c =
    (c.0, omega (arith, c.1, length-map xs f), get_or-map f xs c.0 x (f x) c.1 ∙ ap f c.2)

-- ---- the entries after those for an email have other emails

less_if_other : (f x : Text) → is_lt (text_cmp x f) ≡ false → x ≢ f → text_cmp f x ≡ Less
less_if_other f x e other = grind (arith, common_steps, exact_bytes, nat_list_cmp_total)

-- what isn't below a key above f isn't f
above_other : (f x y : Text) → text_cmp f x ≡ Less → is_lt (text_cmp y x) ≡ false → f ≢ y
above_other f x y less not_below same = grind arith

others_after : (f : Text) (xs : List IndexedEntry) (n : ℕ) → AllByRecursion (λ x. is_lt (text_cmp (by x) f) ≡ false) xs
    → IsWeaklySortedBy text_cmp (map by xs) → (n < length xs → HoldsAt (λ p. by p ≢ f) xs n)
    → AllByRecursion (λ q. f ≢ by q) (drop n xs)
others_after f [] zero low up other = tt
others_after f [] (suc n) low up other = tt
others_after f (x ∷ xs) (suc n) low up other = others_after f xs n low.1 up.1 (λ lt. other (omega arith))
others_after f (x ∷ xs) zero low up other =
    let less = less_if_other f (by x) low.0 (other (omega arith) x) in (
      apart_less f (by x) less,
      all_weaker xs (λ y e. above_other f (by x) (by y) less e) (all_map by (λ k. is_lt (text_cmp k (by x)) ≡ false) xs
          up.0),
    )

ascending_drop : (n : ℕ) (xs : List IndexedEntry) → IsWeaklySortedBy text_cmp (map by xs)
    → IsWeaklySortedBy text_cmp (map by (drop n xs))
ascending_drop zero xs up = up
ascending_drop (suc n) [] up = up
ascending_drop (suc n) (x ∷ xs) up = ascending_drop n xs up.1

-- ---- the loop over the emails

abbrev pub IsGood : IndexedEntry → Type 0
IsGood p = is_accepted (mapping_at p) ≡ true

-- an entry, spelled as in the first entry of its email
abbrev respelled_at : List Mapping → IndexedEntry → Mapping
respelled_at xs p = respelled xs (mapping_at p)

-- tables of the entries before those that are left
pub record AreBuilt (xs : List Mapping) (batch left : List IndexedEntry) (gs : List EmailGroup) : Type 0 where
  pub passed : List IndexedEntry
  pub whole : batch ≡ passed ++ left
  pub ascending : IsWeaklySortedBy text_cmp (map by left)
  pub apart : AllByRecursion (λ p. AllByRecursion (λ q. by p ≢ by q) left) passed
  pub accepted : AllByRecursion IsGood left
  pub put : Represent (map (respelled_at xs) passed) gs

not_lt_emails : (a b : Mapping) → is_lt (key_cmp (key a) (key b)) ≡ false
    → is_lt (text_cmp (folded_email_of a) (folded_email_of b)) ≡ false
not_lt_emails a b e = grind (arith, common_steps)

emails_ascend : (xs : List IndexedEntry) → IsWeaklySortedBy key_cmp (map (λ p. key p.1) (map indexed_mapping xs))
    → IsWeaklySortedBy text_cmp (map by xs)
emails_ascend [] up = tt
emails_ascend (x ∷ xs) up = (
  all_mapped by _ xs (all_weaker xs (λ y. not_lt_emails (mapping_at y) (mapping_at x))
      (all_map indexed_mapping _ xs (all_map (λ p. key p.1) _ (map indexed_mapping xs) up.0))),
  emails_ascend xs up.1,
)

-- the next entries are accepted, too
pub group_good : {xs : List Mapping} {batch left : List IndexedEntry} {gs : List EmailGroup} (n : ℕ)
    → AreBuilt xs batch left gs → All IsGood (take n left)
group_good {left = left} n st = All-from_recursion IsGood (take n left) (all_head IsGood (take n left) (drop n left)
    (rw take-append-drop st.accepted))

-- the entries for an email, spelled as in the earliest of them
respelled_group : (xs : List Mapping) (e : IndexedEntry) → spelling xs (by e) ≡ Some (mapping_at e).old_email
    → (group : List IndexedEntry) → AllByRecursion (λ p. by p ≡ by e) group
    → map (λ p. with_old_email (mapping_at e).old_email (mapping_at p)) group ≡ map (respelled_at xs) group
respelled_group xs e is group same =
    map_alike _ _ group (all_weaker group (λ p at. grind (arith, common_steps)) same)

module _ {xs : List Mapping} {batch : List IndexedEntry} (good : AreAccepted xs)
    (sorted : IsSorted xs (map indexed_mapping batch)) where
  pub built_start : AreBuilt xs batch batch []
  built_start = record {
    passed = [];
    whole = refl;
    ascending = emails_ascend batch sorted.ascending;
    apart = tt;
    accepted = all_map indexed_mapping (λ p. is_accepted p.1 ≡ true) batch (recursion_from_All _ _
        (All-permutation (λ p. is_accepted p.1 ≡ true) (enumerate_from 0 xs) (map indexed_mapping batch)
        sorted.moved (All-from_recursion _ _ (all_map (λ p. p.1) (λ m. is_accepted m ≡ true) (enumerate_from 0 xs)
        (subst AreAccepted (sym (numbered 0 xs)) good)))));
    put = none_put no_groups;
  }

  pub built_step : {left : List IndexedEntry} {gs hs : List EmailGroup} (n : ℕ) (e : IndexedEntry)
      → AreBuilt xs batch left gs → 0 < length left
      → ((d : IndexedEntry) → All (λ p. by p ≡ by (get_or left 0 d)) (take n left))
      → ((d : IndexedEntry) → n < length left → by (get_or left n d) ≢ by (get_or left 0 d))
      → Contains (take n left) e → All (λ (q : IndexedEntry). e.index ≤ q.index) (take n left)
      → Represent (listing gs ++ map (λ p. with_old_email (mapping_at e).old_email (mapping_at p)) (take n left)) hs
      → AreBuilt xs batch (drop n left) hs
  built_step {left = []} n e st some same other among first done = absurd (omega arith)
  built_step {left = x ∷ left} {gs = gs} {hs = hs} n e st some same other among first done =
      let group = take n (x ∷ left) in
      let rest = drop n (x ∷ left) in
      let parts : x ∷ left ≡ group ++ rest = sym (take-append-drop n (x ∷ left)) in
      let whole : batch ≡ st.passed ++ (group ++ rest) = st.whole ∙ ap (λ l. st.passed ++ l) parts in
      let low : AllByRecursion (λ y. is_lt (text_cmp (by y) (by x)) ≡ false) (x ∷ left) =
      (ap is_lt (tied_itself nat_list_cmp_total (by x)), all_map by _ left st.ascending.0) in
      let after : AllByRecursion (λ q. by x ≢ by q) rest = others_after (by x) (x ∷ left) n low st.ascending (λ lt d. other d lt) in
      let email : by e ≡ by x = All-contains (λ q. by q ≡ by x) group e (same x) among in
      let one = recursion_from_All (λ q. by q ≡ by x) group (same x) in
      let least : AllByRecursion (λ q. by q ≡ by e → e.index ≤ q.index) batch =
      rw whole (all_append _ st.passed (group ++ rest) (all_weaker st.passed (λ p no is. absurd (no.0 (is ∙ email))) st.apart)
      (all_append _ group rest (all_weaker group (λ q le _. le)
      (recursion_from_All (λ q. e.index ≤ q.index) group first))
      (all_weaker rest (λ q no is. absurd (no (sym (is ∙ email)))) after))) in
      let spells = least_spells xs (map indexed_mapping batch) (indexed_mapping e) good sorted.moved
      (contains_mapped indexed_mapping batch e (rw whole (Contains-append_right st.passed _ _
      (Contains-append_left group _ _ among))))
      (All-from_recursion _ _ (all_mapped indexed_mapping (λ q. folded_email_of q.1 ≡ by e → e.index ≤ q.0) batch least)) in
      let spelt = respelled_group xs e spells group (all_weaker group (λ p is. is ∙ sym email) one) in
      record {
        passed = st.passed ++ group;
        whole = whole ∙ sym (append_assoc st.passed group rest);
        ascending = ascending_drop n (x ∷ left) st.ascending;
        apart = all_append _ st.passed group
            (all_weaker st.passed (λ p no. all_tail _ group rest (subst (AllByRecursion (λ q. by p ≢ by q)) parts no))
            st.apart) (all_weaker group (λ p is. all_weaker rest (λ q no same. no (sym is ∙ same)) after) one);
        accepted = all_tail IsGood group rest (subst (AllByRecursion IsGood) parts st.accepted);
        put = rw (map-append (respelled_at xs) st.passed group) (put_more _ _ gs hs st.put (rw spelt at done));
      }

  pub built_end : {gs : List EmailGroup} → AreBuilt xs batch [] gs → Represent xs gs
  built_end {gs} st =
      let us = map mapping_at batch in
      let keyed : (k : Key) → of_key xs k ≡ of_key us k = λ k. sorted.keyed k
      ∙ ap (λ l. of_key l k) (mapped_twice indexed_mapping (λ p. p.1) batch) in
      let all : map (respelled_at xs) st.passed ≡ map (respelled xs) us =
      ap (map (respelled_at xs)) (sym (st.whole ∙ append-nil st.passed))
      ∙ sym (mapped_twice mapping_at (respelled xs) batch) in
      put_alike xs (map (respelled xs) us) gs (alike_respelled [] xs us keyed) (rw all at st.put)
