-- Summaries of the entries for a key and an email, the numbers of keys, and tables with a summary for each number.
use Rattle.std.specs.Prelude.{nat_eq, ◌≡◌, ◌<◌, ◌⊎◌, ◌&&◌, ◌||◌, ◌-◌, Bool, false, if◌then◌else◌, true, List, [], ◌∷◌, ◌++◌, ℕ, Option, Some, None, Contains, is_some, map, length, not, unwrap_or}
use Rattle.std.specs.Borrow.{Bor}
use Rattle.std.specs.Option.{option_and_then, option_copied, option_map, option_or}
use Rattle.std.specs.List.{slice_get, slice_index_or, AllByRecursion}
use Rattle.std.specs.Cmp.Lexicographic.{pointwise}
use Rattle.std.specs.List.Sorted.{IsStrictlySortedBy}
use Rattle.std.specs.Ordering.{is_lt}
use Rattle.mailmap_entries.specs.Entries.{Mapping, mapping_of}
use Rattle.mailmap_entries.specs.Folding.{Text}
use Rattle.mailmap_entries.specs.Listings.{same_optional}
use Rattle.mailmap_entries.specs.Semantics.{Key, Fields, first, key, key_cmp, is_accepted, last}
use Rattle.mailmap_redundancy.specs.Redundancy.{LocatedMapping, AreEffective, located_of, located_of_reference, entries_of_key}
use Rattle.mailmap_redundancy.specs.Origins.{Origins, entries_of_email, last_with}
use Rattle.mailmap_redundancy.specs.declared.keys.NumberedEntry.{NumberedEntry}
use Rattle.mailmap_redundancy.specs.declared.located.LocatedEntry.{LocatedEntry}
use Rattle.mailmap_redundancy.specs.declared.origins.Fields.{Fields as FieldSlices}
use Rattle.mailmap_redundancy.specs.declared.origins.Origins.{Origins as OriginEntries}
use Rattle.mailmap_redundancy.specs.declared.passes.Later.{Later}
use Rattle.mailmap_redundancy.specs.declared.table.KeySummary.{KeySummary as KeyEntries}
use Rattle.mailmap_redundancy.specs.declared.table.EmailSummary.{EmailSummary as EmailEntries}
use Rattle.mailmap_redundancy.specs.declared.table.Summary.{Summary as SummaryEntries}
use Rattle.mailmap_redundancy.specs.declared.table.Table.{Table}
use Rattle.mailmap_redundancy.specs.declared.table.Value.{Value}

-- ---- what the program's values say

abbrev pub fields_of : FieldSlices → Fields
fields_of f = record { name = option_copied f.name; email = option_copied f.email }

abbrev pub referred : Option (Bor LocatedEntry) → Option LocatedMapping
referred o = option_map located_of_reference o

abbrev pub origins_of : OriginEntries → Origins
origins_of g = record { name = referred g.name; email = referred g.email; spelling = referred g.spelling }

abbrev pub numbered_mapping : NumberedEntry → Mapping
numbered_mapping x = mapping_of x.located.now.entry

abbrev pub located_mapping_of : NumberedEntry → LocatedMapping
located_mapping_of x = located_of x.located.now

abbrev pub located_mappings : List NumberedEntry → List LocatedMapping
located_mappings xs = map located_mapping_of xs

-- ---- the entries that matter

-- of a key: the first, the last with a new name, the last with a new email, and the last
pub record KeySummary : Type 0 where
  pub first : Option LocatedMapping
  pub name : Option LocatedMapping
  pub email : Option LocatedMapping
  pub last : Option LocatedMapping

abbrev pub key_summary : List LocatedMapping → KeySummary
key_summary xs = record {
  first = first xs;
  name = last_with (λ e. e.new_name) xs;
  email = last_with (λ e. e.new_email) xs;
  last = last xs;
}

abbrev pub key_summary_of : KeyEntries → KeySummary
key_summary_of s =
    record { first = referred s.first; name = referred s.name; email = referred s.email; last = referred s.last }

-- what a range of entries says of a key and of its email
pub record Summary : Type 0 where
  pub of_key : KeySummary
  pub spelling : Option LocatedMapping

-- the key has the entries in the first list, and its email those in the second
abbrev pub summary_by : List LocatedMapping → List LocatedMapping → Summary
summary_by keyed mailed = record { of_key = key_summary keyed; spelling = first mailed }

abbrev pub summary_for : List LocatedMapping → Key → Summary
summary_for xs k = summary_by (entries_of_key xs k) (entries_of_email xs k.0)

abbrev pub first_of : EmailEntries → Option LocatedMapping
first_of s = referred s.first

abbrev pub summary_of : SummaryEntries → Summary
summary_of s = record { of_key = key_summary_of s.of_key; spelling = first_of s.of_email }

-- what one entry says of its own key and email
abbrev pub summary_of_one : LocatedMapping → Summary
summary_of_one x = summary_by (x ∷ []) (x ∷ [])

-- the summary of a range followed by another
abbrev pub joined_summary : Summary → Summary → Summary
joined_summary a b = record {
  of_key = record {
    first = option_or a.of_key.first b.of_key.first;
    name = option_or b.of_key.name a.of_key.name;
    email = option_or b.of_key.email a.of_key.email;
    last = option_or b.of_key.last a.of_key.last;
  };
  spelling = option_or a.spelling b.spelling;
}

-- the entries that give a key with or without an old name its new name and its new email
abbrev pub name_origin : Bool → KeySummary → Option LocatedMapping
name_origin is_named s = if is_named then s.last else s.name

abbrev pub email_origin : Bool → KeySummary → Option LocatedMapping
email_origin is_named s = if is_named then s.last else s.email

-- the value that a summary gives to a key with or without an old name
abbrev pub value_from : Bool → Summary → Mapping
value_from is_named s = record {
  new_name = option_and_then (λ x. x.entry.new_name) (name_origin is_named s.of_key);
  new_email = option_and_then (λ x. x.entry.new_email) (email_origin is_named s.of_key);
  old_name = if is_named then option_and_then (λ x. x.entry.old_name) s.of_key.first else None;
  old_email = unwrap_or (option_map (λ x. x.entry.old_email) s.spelling) [];
}

abbrev pub value_of : Value → Mapping
value_of v = record {
  new_name = option_copied v.new_name;
  new_email = option_copied v.new_email;
  old_name = option_copied v.old_name;
  old_email = v.old_email.now;
}

-- what the redundancy of x depends on in the entries after it, whose summary this is
abbrev pub later_of : LocatedMapping → Summary → Later
later_of x after =
    let is_named = is_some (key x.entry).1 in
    let value = value_from is_named after in
    record {
      has_key = is_some after.of_key.last;
      overrides_name = is_some (name_origin is_named after.of_key);
      overrides_email = is_some (email_origin is_named after.of_key);
      same_old_name = same_optional x.entry.old_name value.old_name;
      same_old_email = pointwise nat_eq x.entry.old_email value.old_email;
    }

-- a later entry overrides a new field, or it is the same with and without this entry
abbrev pub keeps_new_fields : Later → Mapping → Mapping → Bool
keeps_new_fields later with_x without = (later.overrides_name || same_optional with_x.new_name without.new_name)
    && (later.overrides_email || same_optional with_x.new_email without.new_email)

-- an earlier entry spells the old name and the email, or the next one spells them alike
abbrev pub keeps_spellings : Later → Summary → Bool
keeps_spellings later before = (is_some before.of_key.first || later.same_old_name)
    && (is_some before.spelling || later.same_old_email)

-- the new fields are the same with x and without it
abbrev pub changes_no_new_field : Summary → LocatedMapping → Later → Bool
changes_no_new_field before x later =
    let is_named = is_some (key x.entry).1 in
    keeps_new_fields later (value_from is_named (joined_summary before (summary_of_one x))) (value_from is_named before)

-- without x, the entries before and after it still have its key, with the same value
abbrev pub is_redundant : Summary → LocatedMapping → Later → Bool
is_redundant before x later = (later.has_key || is_some before.of_key.last)
    && (changes_no_new_field before x later && keeps_spellings later before)

-- what matters of those after each entry of a list; the last entry's comes first
abbrev pub later_of_each : List LocatedMapping → List Later
later_of_each [] = []
later_of_each (x ∷ xs) = later_of_each xs ++ later_of x (summary_for xs (key x.entry)) ∷ []

-- ---- numbers

-- the key of an email's entries without an old name
abbrev pub email_key : Text → Key
email_key email = (email, None)

abbrev pub IsNumber : List Key → Key → ℕ → Type 0
IsNumber keys k i = slice_get keys i ≡ Some k

-- an accepted entry with the numbers of its key and of its email's key
pub record IsNumbered (keys : List Key) (x : NumberedEntry) : Type 0 where
  pub own : IsNumber keys (key (numbered_mapping x)) x.key_number
  pub of_email : IsNumber keys (email_key (key (numbered_mapping x)).0) x.email_number
  pub accepted : is_accepted (numbered_mapping x) ≡ true

-- ---- keys in ascending order

abbrev pub last_key : List Key → Option Key
last_key keys = slice_get keys (length keys - 1)

-- the key isn't below the last one
abbrev pub IsNotBelowLast : List Key → Key → Type 0
IsNotBelowLast keys k = (l : Key) → last_key keys ≡ Some l → is_lt (key_cmp k l) ≡ false

-- the keys ascend, and `email` is the number of the last key's email
pub record AreAscending (keys : List Key) (email : ℕ) : Type 0 where
  pub ascending : IsStrictlySortedBy key_cmp keys
  pub of_email : (l : Key) → last_key keys ≡ Some l → IsNumber keys (email_key l.0) email

-- a key is appended if it is above the last one, and then it has this number
abbrev pub IsPushed : List Key → Key → Option ℕ → List Key → Type 0
IsPushed ks k None ks' = (ks' ≡ ks) × ((l : Key) × (last_key ks ≡ Some l) × (is_lt (key_cmp l k) ≡ false))
IsPushed ks k (Some number) ks' = (ks' ≡ ks ++ k ∷ []) × (number ≡ length ks)
    × ((l : Key) → last_key ks ≡ Some l → is_lt (key_cmp l k) ≡ true)

-- ---- tables

-- an accepted entry whose key, and whose email's key, are among the keys
pub record IsKnown (keys : List Key) (x : LocatedMapping) : Type 0 where
  pub own : Contains keys (key x.entry)
  pub of_email : Contains keys (email_key (key x.entry).0)
  pub accepted : is_accepted x.entry ≡ true

-- for each x whose key has a number, there is a row at that number, and its view is f x
abbrev pub IsTableOf : {X Y Z : Type 0} → List Key → (X → Key) → (X → Y) → (Z → Y) → List Z → Type 0
IsTableOf {X} {Y} {Z} keys key_of f view rows = (x : X) (i : ℕ) → IsNumber keys (key_of x) i
    → (i < length rows) × ((d : Z) → view (slice_index_or rows i d) ≡ f x)

-- each row refers to the entries of xs that matter for its key, or for its email
pub record IsTable (keys : List Key) (xs : List LocatedMapping) (t : Table) : Type 0 where
  pub of_keys : IsTableOf keys (λ k. k) (λ k. key_summary (entries_of_key xs k)) key_summary_of t.key_summaries.items
  pub of_emails : IsTableOf keys email_key (λ email. first (entries_of_email xs email)) first_of t.email_summaries.items
  pub known : AllByRecursion (IsKnown keys) xs

-- x is appended to the range xs of a table unless it is redundant
pub record IsTried (keys : List Key) (xs : List LocatedMapping) (x : LocatedMapping) (later : Later) (appended : Bool)
    (t : Table) : Type 0 where
  pub tested : is_redundant (summary_for xs (key x.entry)) x later ≡ not appended
  pub table : IsTable keys (if appended then xs ++ x ∷ [] else xs) t

-- the second list is the first with x at its end or at its start
abbrev pub IsWith : List LocatedMapping → LocatedMapping → List LocatedMapping → Type 0
IsWith xs x ys = (ys ≡ xs ++ x ∷ []) ⊎ (ys ≡ x ∷ xs)

-- ---- effective entries

-- the view of an `Effective`: all entries, and those that aren't redundant
pub record EffectiveEntries : Type 0 where
  pub history : List LocatedMapping
  pub kept : List LocatedMapping

pub record IsEffectiveState (keys : List Key) (history kept : List LocatedMapping) (table : Table) : Type 0 where
  pub ascending : IsStrictlySortedBy key_cmp keys
  pub effective : AreEffective history kept
  pub says : IsTable keys kept table
