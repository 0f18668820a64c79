-- What putting one entry into tables does.
use Rattle.std.specs.Prelude.{◌≡◌, ◌++◌, ℕ, true, List, [], ◌∷◌, Option, None, Some, Result, unwrap_or}
use Rattle.std.specs.List.{AllByRecursion}
use Rattle.std.specs.Option.{option_map}
use Rattle.mailmap_entries.specs.Entries.{Mapping}
use Rattle.mailmap_entries.specs.Folding.{Text, folded}
use Rattle.mailmap_entries.specs.Semantics.{IsNormal, is_accepted, new_fields, no_fields}
use Rattle.mailmap_tables.specs.Groups.{AreGroups, EmailGroup, StoredName, folded_email, listing}
use Rattle.mailmap_tables.specs.KeySearch.{IsFound, found_in}

-- each entry has a new name or a new email
abbrev pub AreAccepted : List Mapping → Type 0
AreAccepted ms = AllByRecursion (λ m. is_accepted m ≡ true) ms

-- the entry with this spelling of its old email
abbrev pub with_old_email : Text → Mapping → Mapping
with_old_email e m = record m { old_email = e }

-- an old name with the new fields of the entry m
abbrev pub name_given : Text → Mapping → StoredName
name_given name m = record { old_name = name; new_name = m.new_name; new_email = unwrap_or m.new_email [] }

-- the email of the entry m; the other parameter is its old name, apart so that it can be matched
abbrev pub email_given : Mapping → Option Text → EmailGroup
email_given m None = record { old_email = m.old_email; unnamed = new_fields m; names = [] }
email_given m (Some name) = record { old_email = m.old_email; unnamed = no_fields; names = name_given name m ∷ [] }

-- the old name as it is stored at a place, or else as it is given
abbrev pub spelled_name : List StoredName → Result ℕ ℕ → Text → Text
spelled_name names place name = unwrap_or (option_map (λ n. n.old_name) (found_in names place)) name

-- the groups represent the list h: their entries are its normal list
pub record Represent (h : List Mapping) (gs : List EmailGroup) : Type 0 where
  pub groups : AreGroups gs
  pub normal : IsNormal h (listing gs)

-- the new groups are those of the old ones and the entry, whose email is at the index
pub record IsPutInto (m : Mapping) (old : List EmailGroup) (index : ℕ) (new : List EmailGroup) : Type 0 where
  pub put : Represent (listing old ++ m ∷ []) new
  pub found : IsFound folded_email (folded m.old_email) new index
