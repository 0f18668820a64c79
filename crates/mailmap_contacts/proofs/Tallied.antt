-- Each distinct contact of a history once, with all its occurrences.
use Rattle.std.proofs.Common.{◌≡◌, ◌∙◌, ◌+◌, ◌<◌, ℕ, Bool, true, false, cond, Option, None, Some, List, [], ◌∷◌, Ordering, Less, ap, arith, filter, map, refl, subst, sym, unwrap_or, ⊎_elim, rules}
use Rattle.std.specs.Prelude.{◌↔◌, IfSome, ◌&&◌, is_some, not}
use Rattle.std.specs.Cmp.{IsTotalOrder}
use Rattle.std.specs.List.{AllByRecursion, Contains, IsDistinct}
use Rattle.std.specs.List.Sorted.{IsPermutation, IsStrictlySortedBy}
use Rattle.std.specs.Map.{keys_of}
use Rattle.std.specs.Ordering.{is_eq, nat_cmp, on}
use Rattle.std.proofs.lemmas.Bool.{cases_Bool, not-true}
use Rattle.std.proofs.lemmas.Bool.Decides.{nat_tests}
use Rattle.std.proofs.lemmas.Cmp.{eq_by_cmp_equiv, nat_cmp_total, nat_list_eq_equiv, on_total}
use Rattle.std.proofs.lemmas.List.Elements.{All-contains, All-contains_itself, All-from_recursion, All-weaker, filter_passes, recursion_from_All}
use Rattle.std.proofs.lemmas.List.Kept.{IsStrictlySortedBy-filter}
use Rattle.std.proofs.lemmas.Map.Keys.{IsDistinct-IsPermutation}
use Rattle.std.proofs.lemmas.Grind.{common_steps}
use Rattle.mailmap_entries.specs.Folding.{Text}
use Rattle.mailmap_entries.proofs.Parts.{all_apply, all_map, all_mapped, all_weaker}
use Rattle.mailmap_contacts.specs.Contacts.{AreTallies, Contact, Tally, both_seen, contact_cmp, once, raw_contacts_from, read_by, same_contact, seen_where, tallied}
use Rattle.mailmap_contacts.specs.Counts.{SameTallies}
use Rattle.mailmap_contacts.specs.declared.occurrences.Occurrences.{Occurrences}
pub use Rattle.mailmap_contacts.proofs.Entries.{then_eq}
use Rattle.mailmap_contacts.proofs.Entries.{contact_total, entry_tally, key_cmp, keys_once, same_by_cmp, same_is}
use Rattle.mailmap_contacts.proofs.Steps.{HasOnly, NoneBefore, all_filtered, all_unfiltered, distinct_filter, one_order, permuted, permuted_back}

abbrev contact_of : Tally → Contact
contact_of t = t.contact

abbrev of : Contact → List Tally → Option Occurrences
of c ts = seen_where (same_contact c) ts

abbrev tally : Contact → Occurrences → Tally
tally c s = record { contact = c; seen = s }

-- ---- contacts that are the same

abbrev pub same : Tally → Tally → Bool
same a b = same_contact a.contact b.contact

pub turned : (a b : Tally) → same a b ≡ same b a
turned a b = search (rules, contact_total, eq_by_cmp_equiv, same_by_cmp)

pub itself : (c : Contact) → same_contact c c ≡ true
itself c = λ i. nat_list_eq_equiv.refl c.name i && nat_list_eq_equiv.refl c.email i

-- ---- the occurrences of one contact

not_first : (c : Contact) (t : Tally) (ts : List Tally) → same_contact c t.contact ≡ false → of c (t ∷ ts) ≡ of c ts
not_first c t ts other = ap (λ b. both_seen (cond b (Some t.seen) None) (of c ts)) other

none_of : (c : Contact) (ts : List Tally) → AllByRecursion (λ t. same_contact c t.contact ≡ false) ts → of c ts ≡ None
none_of c [] all = refl
none_of c (t ∷ ts) all = not_first c t ts all.0 ∙ none_of c ts all.1

-- what holds of each contact of a list holds of one that comes there
pub at_seen : (P : Contact → Type 0) (c : Contact) (ts : List Tally) → AllByRecursion (λ t. P t.contact) ts
    → is_some (of c ts) ≡ true → P c
at_seen P c [] all some = absurd (cc)
at_seen P c (t ∷ ts) all some = search (rules, at_seen P c ts all.1)

-- each contact of a list comes there
each_comes : (ts : List Tally) → AllByRecursion (λ t. is_some (of t.contact ts) ≡ true) ts
each_comes [] = tt
each_comes (t ∷ ts) = search (rules, each_comes ts, all_weaker)

-- ---- distinct contacts

abbrev AreDistinct : List Tally → Type 0
AreDistinct ts = IsDistinct same ts

sorted_distinct : (ts : List Tally) → IsStrictlySortedBy contact_cmp (map contact_of ts) → AreDistinct ts
unfolding IsDistinct IsStrictlySortedBy
sorted_distinct [] up = tt
sorted_distinct (t ∷ ts) up = (
  all_map contact_of (λ c. same_contact t.contact c ≡ false) ts (all_weaker (map contact_of ts) (λ c less. sym (same_by_cmp t.contact c) ∙ ap is_eq less) up.0),
  sorted_distinct ts up.1,
)

-- each has only its own occurrences
own : (ts : List Tally) → AreDistinct ts → AllByRecursion (λ u. of u.contact ts ≡ Some u.seen) ts
unfolding IsDistinct
own [] once = tt
own (t ∷ ts) once = search (rules, own ts once.1, none_of, all_apply)

-- ---- tallies

abbrev IsAmong : List Tally → Contact → Type 0
IsAmong us c = Contains (map contact_of us) c

-- the entries of a map are the tallies of what has their occurrences
pub map_tallies : {K : Type 0} (shown : K → Contact) (es : List (K × Occurrences)) (ts us : List Tally)
    → IsStrictlySortedBy (key_cmp shown) (keys_of es)
    → us ≡ map (entry_tally shown) es → SameTallies (map (entry_tally shown) es) ts → AreTallies ts us
map_tallies shown es ts us up is same = subst (AreTallies ts) (sym is) (record {
  every = λ t among. at_seen (IsAmong all) t.contact all (all_map contact_of (IsAmong all) all (recursion_from_All (IsAmong all) (map contact_of all) (All-contains_itself (map contact_of all))))
      (ap is_some (same (same_contact t.contact)) ∙ All-contains (λ t. is_some (of t.contact ts) ≡ true) ts t (All-from_recursion (λ t. is_some (of t.contact ts) ≡ true) ts (each_comes ts)) among);
  each = all_weaker all (λ u is. sym (same (same_contact u.contact)) ∙ is) (own all (sorted_distinct all distinct));
  distinct = distinct;
})
  where
    all : List Tally
    all = map (entry_tally shown) es

    distinct : IsStrictlySortedBy contact_cmp (map contact_of all)
    distinct = keys_once shown es up

-- `us` has all occurrences of each contact of `ts`
pub record HasTallies (ts us : List Tally) : Type 1 where
  pub each : AllByRecursion (λ u. of u.contact ts ≡ Some u.seen) us
  pub has : (P : Contact → Type 0) → AllByRecursion (λ u. P u.contact) us → AllByRecursion (λ t. P t.contact) ts

-- what holds of each contact there, with its occurrences, holds of all others that have them
same_tallies : (ts us vs : List Tally) → HasTallies ts us → HasTallies ts vs → HasOnly us vs
same_tallies ts us vs all others P each =
    let Q : Contact → Type 0 = λ c. (s : Occurrences) → of c ts ≡ Some s → P (tally c s) in
    let known : AllByRecursion (λ u. Q u.contact) us =
    all_apply (λ u. of u.contact ts ≡ Some u.seen) P (λ u. Q u.contact)
    (λ u is p s also. subst (λ o. P (tally u.contact (unwrap_or o s))) (sym is ∙ also) p) us all.each each in
    all_weaker vs (λ v is. at_seen Q v.contact ts (all.has Q known) (ap is_some is) v.seen is) others.each

pub of_tallies : (ts us : List Tally) → AreTallies ts us → HasTallies ts us
of_tallies ts us are = record {
  each = are.each;
  has = λ P all.
      let each = All-from_recursion P (map contact_of us) (all_mapped contact_of P us all) in
      recursion_from_All (λ t. P t.contact) ts
      (All-weaker (Contains ts) (λ t. P t.contact) (λ t among. All-contains P (map contact_of us) t.contact each (are.every t among)) ts (All-contains_itself ts));
}

-- ---- the definition

-- what holds of contacts holds of their tallies
pub each_tallied : (P : Contact → Type 0) (ts : List Tally) → AllByRecursion (λ t. P t.contact) ts → AllByRecursion (λ t. P t.contact) (tallied ts)
each_tallied P [] all = tt
each_tallied P (t ∷ ts) all = (all.0, all_filtered (λ u. not (same t u)) (λ u. P u.contact) (λ u. P u.contact) (λ u p _. p) (tallied ts) (each_tallied P ts all.1))

-- and the other way round
pub each_untallied : (P : Contact → Type 0) (ts : List Tally) → AllByRecursion (λ t. P t.contact) (tallied ts) → AllByRecursion (λ t. P t.contact) ts
each_untallied P [] all = tt
each_untallied P (t ∷ ts) all = (
  all.0,
  each_untallied P ts (all_weaker (tallied ts) (λ u p. ⊎_elim (λ yes. subst P (same_is t.contact u.contact yes) all.0) (λ no. p (ap not no)) (cases_Bool (same t u)))
      (all_unfiltered (λ u. not (same t u)) (λ u. P u.contact) (tallied ts) all.1)),
)

-- if what holds of all contacts of ys holds of those of xs, they are contacts of ys
held_by : (xs ys : List Tally) → ((P : Contact → Type 0) → AllByRecursion (λ t. P t.contact) ys → AllByRecursion (λ t. P t.contact) xs) → (c : Contact)
    → Contains (map contact_of xs) c → Contains (map contact_of ys) c
held_by xs ys all c =
    let P : Contact → Type 0 = Contains (map contact_of ys) in
    All-contains P (map contact_of xs) c (All-from_recursion P (map contact_of xs) (all_mapped contact_of P xs
    (all P (all_map contact_of P ys (recursion_from_All P (map contact_of ys) (All-contains_itself (map contact_of ys)))))))

pub same_contacts : (ts : List Tally) (c : Contact) → Contains (map contact_of ts) c ↔ Contains (map contact_of (tallied ts)) c
same_contacts ts c = (held_by ts (tallied ts) (λ P. each_untallied P ts) c, held_by (tallied ts) ts (λ P. each_tallied P ts) c)

tallied_each : (ts : List Tally) → AllByRecursion (λ u. of u.contact ts ≡ Some u.seen) (tallied ts)
tallied_each [] = tt
tallied_each (t ∷ ts) = (
  search rules,
  all_filtered (λ u. not (same t u)) (λ u. of u.contact ts ≡ Some u.seen) (λ u. of u.contact (t ∷ ts) ≡ Some u.seen)
      (λ u is other. not_first u.contact t ts (turned u t ∙ not-true (same t u) other) ∙ is) (tallied ts) (tallied_each ts),
)

of_tallied : (ts : List Tally) → HasTallies ts (tallied ts)
of_tallied ts = record { each = tallied_each ts; has = λ P. each_untallied P ts }

pub distinct_tallied : (ts : List Tally) → AreDistinct (tallied ts)
unfolding IsDistinct
distinct_tallied [] = tt
distinct_tallied (t ∷ ts) = search (rules, distinct_tallied ts, recursion_from_All, filter_passes, distinct_filter)

-- tallies in an order, as a list with the same ones has them
pub one_list : (cmp : Tally → Tally → Ordering) → IsTotalOrder cmp → (ts us vs ws : List Tally) → AreTallies ts us → IsPermutation us vs → NoneBefore cmp vs
    → IsStrictlySortedBy cmp ws → HasOnly (tallied ts) ws → HasOnly ws (tallied ts) → vs ≡ ws
one_list cmp total ts us vs ws are moved up strict to from =
    one_order cmp total same (λ t. itself t.contact) vs ws up (IsDistinct-IsPermutation same turned us vs moved (sorted_distinct us are.distinct)) strict
    (λ P all. to P (same_tallies ts us (tallied ts) (of_tallies ts us are) (of_tallied ts) P (permuted_back us vs moved P all)))
    (λ P all. permuted us vs moved P (same_tallies ts (tallied ts) us (of_tallied ts) (of_tallies ts us are) P (from P all)))

-- ---- first lines

abbrev pub line_cmp : Tally → Tally → Ordering
line_cmp = on (λ t. t.seen.first_line) nat_cmp

abbrev pub Ascend : List Tally → Type 0
Ascend ts = IsStrictlySortedBy line_cmp ts

abbrev Later : ℕ → Tally → Type 0
Later n t = nat_cmp n t.seen.first_line ≡ Less

pub compared : (m n : ℕ) → m < n → nat_cmp m n ≡ Less
compared m n lt = grind (arith, nat_tests)

of_later : (n : ℕ) (c : Contact) (ts : List Tally) → AllByRecursion (Later n) ts → IfSome (of c ts) (λ s. n < s.first_line)
of_later n c [] all = tt
of_later n c (t ∷ ts) all = grind (arith, common_steps, of_later n c ts all.1)

tallied_later : (n : ℕ) (ts : List Tally) → AllByRecursion (Later n) ts → AllByRecursion (Later n) (tallied ts)
tallied_later n ts all = all_weaker (tallied ts) (λ u is. compared n u.seen.first_line (subst (λ o. IfSome o (λ s. n < s.first_line)) is (of_later n u.contact ts all))) (tallied_each ts)

-- the first line of all occurrences of the first contact is its own
first_stays : (t : Tally) (o : Option Occurrences) → IfSome o (λ s. t.seen.first_line < s.first_line) → (unwrap_or (both_seen (Some t.seen) o) t.seen).first_line ≡ t.seen.first_line
first_stays t o later = grind arith

pub tallied_ascend : (ts : List Tally) → Ascend ts → Ascend (tallied ts)
unfolding IsStrictlySortedBy
tallied_ascend [] up = tt
tallied_ascend (t ∷ ts) up =
    let line : (unwrap_or (of t.contact (t ∷ ts)) t.seen).first_line ≡ t.seen.first_line =
    ap (λ b. (unwrap_or (both_seen (cond b (Some t.seen) None) (of t.contact ts)) t.seen).first_line) (itself t.contact) ∙ first_stays t (of t.contact ts) (of_later t.seen.first_line t.contact ts up.0) in (
      subst (λ n. AllByRecursion (Later n) (filter (λ u. not (same t u)) (tallied ts))) (sym line)
          (all_filtered (λ u. not (same t u)) (Later t.seen.first_line) (Later t.seen.first_line) (λ u later _. later) (tallied ts) (tallied_later t.seen.first_line ts up.0)),
      IsStrictlySortedBy-filter line_cmp (λ u. not (same t u)) (tallied ts) (tallied_ascend ts up.1),
    )

raw_later : (m n : ℕ) (lines : List Text) → m < n → AllByRecursion (Later m) (raw_contacts_from n lines)
raw_later m n [] lt = tt
raw_later m n (l ∷ ls) lt = search (rules, raw_later m (n + 1) ls)

raw_ascend : (n : ℕ) (lines : List Text) → Ascend (raw_contacts_from n lines)
unfolding IsStrictlySortedBy
raw_ascend n [] = tt
raw_ascend n (l ∷ ls) = grind (arith, common_steps, raw_ascend (n + 1) ls, raw_later n (n + 1) ls)

-- they come where they come as they are
read_ascend : (read : Contact → Contact) (ts : List Tally) → Ascend ts → Ascend (map (read_by read) ts)
unfolding IsStrictlySortedBy
read_ascend read [] up = tt
read_ascend read (t ∷ ts) up = (all_mapped (read_by read) (Later t.seen.first_line) ts up.0, read_ascend read ts up.1)

-- the contacts on lines as they are read, each once
pub sorted_tallies : (read : Contact → Contact) (lines : List Text) (us vs : List Tally) → AreTallies (map (read_by read) (raw_contacts_from 1 lines)) us
    → IsPermutation us vs → NoneBefore line_cmp vs → vs ≡ tallied (map (read_by read) (raw_contacts_from 1 lines))
sorted_tallies read lines us vs are moved up =
    let ts = map (read_by read) (raw_contacts_from 1 lines) in
    let all = tallied_ascend ts (read_ascend read (raw_contacts_from 1 lines) (raw_ascend 1 lines)) in
    search (rules, one_list, on_total, nat_cmp_total)
