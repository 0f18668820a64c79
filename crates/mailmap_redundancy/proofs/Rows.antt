-- The rows of a table, what summaries decide, the loop of one pass, and passes until one drops nothing.
use Rattle.std.proofs.lemmas.Grind.{common_steps, get_or-set_at}
use Rattle.std.proofs.Common.{rules, ◌≡◌, ◌<◌, ◌+◌, ◌≢◌, ℕ, Bool, true, false, not, cond, List, [], ◌∷◌, ◌++◌, filter, take, drop, length, get_or, set, append-nil, inl, inr, refl, sym, ap, subst, ◌∙◌, arith, true≢false, ◌≤◌}
use Rattle.std.specs.Prelude.{Contains, All, vec_len}
use Rattle.std.specs.List.{AllByRecursion}
use Rattle.std.specs.List.Sorted.{IsStrictlySortedBy}
use Rattle.std.proofs.lemmas.Bool.{eqb-true, eqb-false}
use Rattle.std.proofs.lemmas.List.{map_more, drop_more, length-set, get_or-set_other, map_push}
use Rattle.std.proofs.lemmas.List.Elements.{filter-append, All-drop, All-push, recursion_from_All}
use Rattle.std.proofs.lemmas.Option.{same_Some, slice_get_within, get_or_from_slice_get}
use Rattle.mailmap_entries.specs.Folding.{Text, folded}
use Rattle.mailmap_entries.specs.Semantics.{Key, is_accepted, key, key_cmp}
use Rattle.mailmap_entries.proofs.Parts.{all_append, all_weaker, first-append, last-append, all_mapped}
use Rattle.mailmap_redundancy.specs.Origins.{entries_of_email}
use Rattle.mailmap_redundancy.specs.Redundancy.{LocatedMapping, entries_of_key, IsPass, IsRedundant, goes, stays, entries, AreEffective, settled, again}
use Rattle.mailmap_redundancy.specs.Summaries.{IsTried, is_redundant, IsKnown, IsNumber, IsNumbered, IsTableOf, IsWith, email_key, joined_summary, located_mapping_of, located_mappings, summary_for, summary_of_one, IsTable, numbered_mapping, later_of, later_of_each}
use Rattle.mailmap_redundancy.specs.declared.keys.NumberedEntry.{NumberedEntry}
use Rattle.mailmap_redundancy.proofs.Numbered.{unequal_emails, unequal_keys, same_number}
use Rattle.mailmap_redundancy.proofs.Redundant.{is_redundant_between, own_email, own_key, summaries_decide}
use Rattle.std.specs.Bool.{Decides}
use Rattle.mailmap_redundancy.specs.declared.passes.Later.{Later}
use Rattle.mailmap_redundancy.specs.declared.table.Table.{Table}
use Rattle.mailmap_redundancy.proofs.Kept.{all_good as good_itself, pass_whole}

-- ---- one step

-- the entries before the index after one step forwards, and those from it on after one step backwards
pub located_mappings_more : (xs : List NumberedEntry) (i : ℕ) (x : NumberedEntry) → i < length xs → x ≡ get_or xs i x
    → located_mappings (take (i + 1) xs) ≡ located_mappings (take i xs) ++ located_mapping_of x ∷ []
located_mappings_more xs i x within is = grind (arith, common_steps, map_more)

pub located_mappings_next : (xs : List NumberedEntry) (i j : ℕ) (x : NumberedEntry) → i < length xs → x ≡ get_or xs i x
    → j ≡ i + 1 → located_mappings (drop i xs) ≡ located_mapping_of x ∷ located_mappings (drop j xs)
located_mappings_next xs i j x within is next = search (rules, drop_more)

pub same_ends : {X : Type 0} (xs ys : List X) (x y : X) → xs ++ x ∷ [] ≡ ys ++ y ∷ [] → (xs ≡ ys) × (x ≡ y)
same_ends [] [] x y e = (refl, cc)
same_ends [] (b ∷ []) x y e = absurd (cc)
same_ends [] (b ∷ c ∷ ys) x y e = absurd (cc)
same_ends (a ∷ []) [] x y e = absurd (cc)
same_ends (a ∷ c ∷ xs) [] x y e = absurd (cc)
same_ends (a ∷ xs) (b ∷ ys) x y e = grind (arith, common_steps)

-- ---- keys that are there, and keys that are not

contained : (ks : List Key) (k : Key) (i : ℕ) → IsNumber ks k i → Contains ks k
contained ks k i is = (i, slice_get_within ks i k is, get_or_from_slice_get ks i k k is)

pub known : (ks : List Key) (x : NumberedEntry) → IsNumbered ks x → IsKnown ks (located_mapping_of x)
known ks x n = search (rules, contained)

pub none_of_unknown : (ks : List Key) (k : Key) → (Contains ks k → ⊥) → (xs : List LocatedMapping)
    → AllByRecursion (IsKnown ks) xs → entries_of_key xs k ≡ []
none_of_unknown ks k none [] all = refl
none_of_unknown ks k none (x ∷ xs) all =
    let other = unequal_keys k (key x.entry) (λ same. none (rw same all.0.own)) in
    grind (arith, other, (none_of_unknown ks k none xs all.1))

pub none_of_unknown_email : (ks : List Key) (email : Text) → (Contains ks (email_key email) → ⊥)
    → (xs : List LocatedMapping) → AllByRecursion (IsKnown ks) xs → entries_of_email xs email ≡ []
none_of_unknown_email ks email none [] all = refl
none_of_unknown_email ks email none (x ∷ xs) all =
    let other = unequal_emails email (folded x.entry.old_email) (λ same. none (rw same all.0.of_email)) in
    grind (arith, other, (none_of_unknown_email ks email none xs all.1))

pub all_accepted : (ks : List Key) (xs : List LocatedMapping) → AllByRecursion (IsKnown ks) xs
    → AllByRecursion (λ x. is_accepted x.entry ≡ true) xs
all_accepted ks xs = all_weaker {P = IsKnown ks} xs (λ x is. is.accepted)

-- ---- one row

-- the row of x follows a change of f at x, and no other row changes
pub row_changed : {X Y Z : Type 0} (keys : List Key) (key_of : X → Key) (view : Z → Y) (f g : X → Y) (rows : List Z)
    (x : X) (i : ℕ) (z : Z) → IsStrictlySortedBy key_cmp keys → ((a b : X) → key_of a ≡ key_of b → a ≡ b)
    → IsTableOf keys key_of f view rows → IsNumber keys (key_of x) i
    → view z ≡ g x → ((y : X) → y ≢ x → g y ≡ f y) → IsTableOf keys key_of g view (set rows i z)
row_changed {X} keys key_of view f g rows x i z up one table is new others y j n = search (rules, eqb-false, eqb-true, get_or-set_at, get_or-set_other, length-set, same_number, same_Some)

-- the numbers of entry i are within a table
module _ (keys : List Key) (all : List NumberedEntry) (numbered : All (IsNumbered keys) all) (i : ℕ) (x : NumberedEntry)
    (within : i < length all) (is : x ≡ get_or all i x) where
  pub numbered_at : IsNumbered keys x
  numbered_at = subst (IsNumbered keys) (sym is) (numbered i x within)

  module _ (xs : List LocatedMapping) (t : Table) (table : IsTable keys xs t) where
    pub key_within : x.key_number < vec_len t.key_summaries
    key_within = omega (arith, t.key_summaries.ok.0, (table.of_keys (key (numbered_mapping x)) x.key_number numbered_at.own).0)

    pub email_within : x.email_number < vec_len t.email_summaries
    email_within = omega (arith, t.email_summaries.ok.0, (table.of_emails (key (numbered_mapping x)).0 x.email_number numbered_at.of_email).0)

-- ---- appending an entry, and prepending one

pub email_keys : (a b : Text) → email_key a ≡ email_key b → a ≡ b
email_keys a b e = ap (λ k. k.0) e

pub summary_parts : (xs ys : List LocatedMapping) (k : Key) → summary_for (xs ++ ys) k ≡ joined_summary (summary_for xs k) (summary_for ys k)
summary_parts xs ys k = simp (filter-append, first-append, last-append)

summary_own : (x : LocatedMapping) → summary_for (x ∷ []) (key x.entry) ≡ summary_of_one x
summary_own x = search (rules, own_email, own_key)

module _ (xs : List LocatedMapping) (x : LocatedMapping) where
  pub summary_after : summary_for (xs ++ x ∷ []) (key x.entry) ≡ joined_summary (summary_for xs (key x.entry)) (summary_of_one x)
  summary_after = summary_parts xs (x ∷ []) (key x.entry) ∙ ap (joined_summary (summary_for xs (key x.entry))) (summary_own x)

  pub summary_before : summary_for (x ∷ xs) (key x.entry) ≡ joined_summary (summary_of_one x) (summary_for xs (key x.entry))
  summary_before = summary_parts (x ∷ []) xs (key x.entry) ∙ ap (λ s. joined_summary s (summary_for xs (key x.entry))) (summary_own x)

  -- an entry that fails the filter's test doesn't matter
  pub not_with : (p : LocatedMapping → Bool) (ys : List LocatedMapping) → IsWith xs x ys → p x ≡ false
      → filter p ys ≡ filter p xs
  not_with p ys (inl after) isn't = search (rules, append-nil, filter-append)
  not_with p ys (inr before) isn't = ap (filter p) before ∙ ap (λ b. cond b (x ∷ filter p xs) (filter p xs)) isn't

  pub all_with : (P : LocatedMapping → Type 0) (ys : List LocatedMapping) → IsWith xs x ys → AllByRecursion P xs → P x
      → AllByRecursion P ys
  all_with P ys (inl after) all is = rw after (all_append P xs (x ∷ []) all (is, tt))
  all_with P ys (inr before) all is = rw before (is, all)

-- ---- one pass

abbrev IsGood : LocatedMapping → Type 0
IsGood x = is_accepted x.entry ≡ true

all_good : (keys : List Key) (all : List NumberedEntry) (i : ℕ) → All (IsNumbered keys) all
    → AllByRecursion IsGood (located_mappings (drop i all))
all_good keys all i n =
    let after = recursion_from_All (IsNumbered keys) (drop i all) (All-drop (IsNumbered keys) i all n) in
    search (rules, all_mapped, all_weaker)

-- The state before entry i: what is left of the result of each_later, the table of the kept entries, and the fact that
-- a pass over the remaining entries completes the whole pass.
pub record IsPassing (keys : List Key) (all : List NumberedEntry) (i : ℕ) (later_ones : List Later) (before : Table)
    (kept : List NumberedEntry) : Type 0 where
  pub asked : later_ones ≡ later_of_each (located_mappings (drop i all))
  pub table : IsTable keys (located_mappings kept) before
  pub numbered : All (IsNumbered keys) kept
  pub left : (out : List LocatedMapping) → IsPass (located_mappings kept) (located_mappings (drop i all)) out
      → IsPass [] (located_mappings all) out

module _ (keys : List Key) (all : List NumberedEntry) (numbered : All (IsNumbered keys) all) (i : ℕ) (x : NumberedEntry)
    (within : i < length all) (is : x ≡ get_or all i x) (n : IsNumbered keys x) (later_ones : List Later)
    (before : Table) (kept : List NumberedEntry) (so : IsPassing keys all i later_ones before kept)
    (left : List Later) (later : Later) (popped : later_ones ≡ left ++ later ∷ []) where
  abbrev rest : List LocatedMapping
  rest = located_mappings (drop (i + 1) all)

  next : located_mappings (drop i all) ≡ located_mapping_of x ∷ rest
  next = located_mappings_next all i (i + 1) x within is refl

  pub ends : (left ≡ later_of_each rest) × (later ≡ later_of (located_mapping_of x) (summary_for rest (key (numbered_mapping x))))
  ends = same_ends left (later_of_each rest) later (later_of (located_mapping_of x) (summary_for rest (key (numbered_mapping x))))
      (sym popped ∙ so.asked ∙ ap later_of_each next)

  abbrev test : Bool
  test = is_redundant_between (summary_for (located_mappings kept) (key (numbered_mapping x))) (located_mapping_of x) (summary_for rest (key (numbered_mapping x)))

  decides : Decides test (IsRedundant (entries (located_mappings kept)) (numbered_mapping x) (entries rest))
  decides = subst (λ (l : List LocatedMapping × List LocatedMapping). Decides (is_redundant_between (summary_for l.0 (key (numbered_mapping x)))
      (located_mapping_of x) (summary_for l.1 (key (numbered_mapping x)))) (IsRedundant (entries (located_mappings kept)) (numbered_mapping x) (entries rest)))
      (λ j. (
        good_itself (located_mappings kept) (all_accepted keys (located_mappings kept) so.table.known) j,
        good_itself rest (all_good keys all (i + 1) numbered) j,
      ))
      (summaries_decide (located_mappings kept) (located_mapping_of x) rest n.accepted)

  going : (after : Table) → test ≡ true → IsTable keys (located_mappings kept) after
      → IsPassing keys all (i + 1) left after kept
  going after redundant table = record {
    asked = ends.0;
    table = table;
    numbered = so.numbered;
    left = λ out p. so.left out (rw next (goes (located_mappings kept) (located_mapping_of x) rest out (decides.0 redundant) p));
  }

  staying : (after : Table) (kept' : List NumberedEntry) → test ≡ false → kept' ≡ kept ++ x ∷ []
      → IsTable keys (located_mappings kept ++ located_mapping_of x ∷ []) after → IsPassing keys all (i + 1) left after kept'
  staying after kept' works pushed table =
      let grown : located_mappings kept' ≡ located_mappings kept ++ located_mapping_of x ∷ [] =
      ap located_mappings pushed ∙ map_push located_mapping_of kept x in
      record {
        asked = ends.0;
        table = rw grown table;
        numbered = rw pushed (All-push (IsNumbered keys) kept x so.numbered n);
        left = λ out p. so.left out (rw next (stays (located_mappings kept) (located_mapping_of x) rest out
            (λ redundant. true≢false (sym (decides.1 redundant) ∙ works)) (rw (← grown) p)));
      }

  -- the state after entry i
  pub tried : (appended : Bool) (after : Table) (kept' : List NumberedEntry) → kept' ≡ cond appended (kept ++ x ∷ []) kept
      → IsTried keys (located_mappings kept) (located_mapping_of x) later appended after
      → IsPassing keys all (i + 1) left after kept'
  tried appended after kept' is t =
      let same = ap (is_redundant (summary_for (located_mappings kept) (key (numbered_mapping x))) (located_mapping_of x)) (sym ends.1) in
      by appended is t.table (same ∙ t.tested)
    where
      by : (b : Bool) → kept' ≡ cond b (kept ++ x ∷ []) kept
          → IsTable keys (cond b (located_mappings kept ++ located_mapping_of x ∷ []) (located_mappings kept)) after
          → test ≡ not b → IsPassing keys all (i + 1) left after kept'
      by true is table works = staying after kept' works is table
      by false is table redundant = rw is (going after redundant table)

-- ---- repeated passes

-- the last pass went over `len` entries, and kept the entries `kept`; passes before it may have dropped others
pub record IsSettling (history : List LocatedMapping) (len : ℕ) (kept : List LocatedMapping) : Type 0 where
  pub some : List LocatedMapping
  pub counted : length some ≡ len
  pub passed : IsPass [] some kept
  pub rest : (out : List LocatedMapping) → AreEffective some out → AreEffective history out

pub further : (history kept more : List LocatedMapping) (len n : ℕ) → IsSettling history len kept → length kept ≡ n
    → IsPass [] kept more → IsSettling history n more
further history kept more len n so counted passed = record {
  some = kept;
  counted = counted;
  passed = passed;
  rest = λ out s. so.rest out (again so.some kept out so.passed s);
}

pub over : (history kept : List LocatedMapping) (len : ℕ) → IsSettling history len kept → len ≤ length kept
    → AreEffective history kept
over history kept len so many =
    let all : kept ≡ so.some = (pass_whole [] so.some kept so.passed (omega (arith, so.counted))).0 in
    so.rest kept (rw (← all) (settled kept (subst (λ l. IsPass [] l kept) (sym all) so.passed)))
