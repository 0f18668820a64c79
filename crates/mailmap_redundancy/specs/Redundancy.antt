-- Redundant entries: dropping them one after another changes nothing.
use Rattle.std.specs.Prelude.{◌↔◌, List, [], ◌∷◌, ◌++◌, map, filter, Option}
use Rattle.std.specs.Borrow.{Bor}
use Rattle.std.specs.Option.{option_map}
use Rattle.std.specs.Ordering.{eq_by_cmp, nat_cmp, ordering_then}
use Rattle.std.specs.declared.cmp.Ordering.{Ordering}
use Rattle.mailmap_entries.specs.Entries.{Mapping, mapping_of}
use Rattle.mailmap_entries.specs.Semantics.{Key, key, key_cmp, last, IsNormal}
use Rattle.mailmap_redundancy.specs.declared.located.Position.{Position}
use Rattle.mailmap_redundancy.specs.declared.located.LocatedEntry.{LocatedEntry}

-- the order of positions: by buffer, then by line
abbrev pub position_cmp : Position → Position → Ordering
position_cmp a b = ordering_then (nat_cmp a.buffer b.buffer) (nat_cmp a.line b.line)

-- an entry's mapping and position
pub record LocatedMapping : Type 0 where
  pub position : Position
  pub entry : Mapping

abbrev pub located_of : LocatedEntry → LocatedMapping
located_of x = record { position = x.position; entry = mapping_of x.entry }

abbrev pub located_of_reference : Bor LocatedEntry → LocatedMapping
located_of_reference x = located_of x.now

-- the mappings, without their positions
abbrev pub entries : List LocatedMapping → List Mapping
entries xs = map (λ x. x.entry) xs

-- dropping e from between `before` and `after` keeps the normal list
abbrev pub IsRedundant : List Mapping → Mapping → List Mapping → Type 0
IsRedundant before e after = (n : List Mapping) → IsNormal (before ++ e ∷ after) n ↔ IsNormal (before ++ after) n

-- One pass from first to last: an entry is dropped if it is redundant between the entries kept before it and all
-- entries after it. In `IsPass kept xs out`, the pass has kept the entries of the first list, those of the second are
-- still to come, and the third has all that it keeps.
pub data IsPass : List LocatedMapping → List LocatedMapping → List LocatedMapping → Type 0 where
  done : (kept : List LocatedMapping) → IsPass kept [] kept
  goes : (kept : List LocatedMapping) (x : LocatedMapping) (xs out : List LocatedMapping)
      → IsRedundant (entries kept) x.entry (entries xs) → IsPass kept xs out → IsPass kept (x ∷ xs) out
  stays : (kept : List LocatedMapping) (x : LocatedMapping) (xs out : List LocatedMapping)
      → (IsRedundant (entries kept) x.entry (entries xs) → ⊥) → IsPass (kept ++ x ∷ []) xs out
      → IsPass kept (x ∷ xs) out

-- passes repeated until one drops nothing
pub data AreEffective : List LocatedMapping → List LocatedMapping → Type 0 where
  settled : (xs : List LocatedMapping) → IsPass [] xs xs → AreEffective xs xs
  again : (xs some kept : List LocatedMapping) → IsPass [] xs some → AreEffective some kept → AreEffective xs kept

-- the entries of a key, accepted or not
abbrev pub entries_of_key : List LocatedMapping → Key → List LocatedMapping
entries_of_key xs k = filter (λ x. eq_by_cmp key_cmp k (key x.entry)) xs

abbrev pub last_of_key : List LocatedMapping → Key → Option LocatedMapping
last_of_key xs k = last (entries_of_key xs k)

abbrev pub last_position : List LocatedMapping → Key → Option Position
last_position xs k = option_map (λ x. x.position) (last_of_key xs k)

-- the first list is the second without some of its elements, in the same order
pub data IsSublist {X : Type 0} : List X → List X → Type 0 where
  none : IsSublist [] []
  skips : (x : X) (ks xs : List X) → IsSublist ks xs → IsSublist ks (x ∷ xs)
  keeps : (x : X) (ks xs : List X) → IsSublist ks xs → IsSublist (x ∷ ks) (x ∷ xs)
