-- Batches of entries, and what a sorted batch is.
use Rattle.std.specs.Prelude.{◌≡◌, ℕ, false, List, [], ◌∷◌, map, unwrap_or}
use Rattle.std.specs.List.{AllByRecursion, enumerate_from}
use Rattle.std.specs.List.Sorted.{IsPermutation}
use Rattle.std.specs.Ordering.{is_lt}
use Rattle.std.specs.declared.cmp.Ordering.{Ordering}
use Rattle.mailmap_entries.specs.Entries.{Mapping, mapping_of}
use Rattle.mailmap_entries.specs.Folding.{Text, folded}
use Rattle.mailmap_entries.specs.Prefixes.{key_prefix}
use Rattle.mailmap_entries.specs.Semantics.{Key, key, key_cmp, of_key}
use Rattle.mailmap_batches.specs.declared.indexed.IndexedEntry.{IndexedEntry}

abbrev pub mapping_at : IndexedEntry → Mapping
mapping_at p = mapping_of p.entry.now

abbrev pub key_at : IndexedEntry → Key
key_at p = key (mapping_at p)

abbrev pub indexed_mapping : IndexedEntry → ℕ × Mapping
indexed_mapping p = (p.index, mapping_at p)

abbrev pub folded_email_of : Mapping → Text
folded_email_of m = folded m.old_email

abbrev pub folded_email_at : IndexedEntry → Text
folded_email_at p = folded_email_of (mapping_at p)

-- the first sixteen bytes of the folded old email as a number
abbrev pub email_prefix : IndexedEntry → ℕ
email_prefix p = key_prefix 16 (folded_email_at p)

-- the same of the old name, 0 if there is none
abbrev pub name_prefix : IndexedEntry → ℕ
name_prefix p = key_prefix 16 (unwrap_or (key_at p).1 [])

-- no key is below one that comes before it
abbrev pub IsWeaklySortedBy : {K : Type 0} → (K → K → Ordering) → List K → Type 0
IsWeaklySortedBy cmp [] = Unit {0}
IsWeaklySortedBy cmp (x ∷ xs) = AllByRecursion (λ y. is_lt (cmp y x) ≡ false) xs × IsWeaklySortedBy cmp xs

-- the entries and their indexes in ascending order of the keys; accepted ones with equal keys keep their order
pub record IsSorted (xs : List Mapping) (ps : List (ℕ × Mapping)) : Type 0 where
  pub moved : IsPermutation (enumerate_from 0 xs) ps
  pub keyed : (k : Key) → of_key xs k ≡ of_key (map (λ p. p.1) ps) k
  pub ascending : IsWeaklySortedBy key_cmp (map (λ p. key p.1) ps)

-- the same entries; accepted ones with equal keys keep their order
pub record KeepsOrder (old new : List IndexedEntry) : Type 0 where
  pub moved : IsPermutation old new
  pub keyed : (k : Key) → of_key (map mapping_at old) k ≡ of_key (map mapping_at new) k

-- the same in ascending order of the keys
pub record IsSortedFrom (old new : List IndexedEntry) : Type 0 where
  pub kept : KeepsOrder old new
  pub ascending : IsWeaklySortedBy key_cmp (map key_at new)
