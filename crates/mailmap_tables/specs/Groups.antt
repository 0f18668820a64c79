-- A normal list grouped by email: what the tables of a snapshot represent.
use Rattle.std.specs.Prelude.{◌≢◌, ◌+◌, ◌||◌, ◌++◌, ℕ, if◌then◌else◌, is_some, Option, Some, None, List, [], ◌∷◌}
use Rattle.std.specs.Prelude.{length, map, sum_by}
use Rattle.std.specs.List.{AllByRecursion, flat_map}
use Rattle.std.specs.List.Sorted.{IsStrictlySortedBy}
use Rattle.mailmap_entries.specs.Entries.{Mapping}
use Rattle.mailmap_entries.specs.Folding.{Text, folded, text_cmp}
use Rattle.mailmap_entries.specs.Semantics.{Fields, mapping_with}

-- an old name as it is stored, and the fields that replace it and its email
pub record StoredName : Type 0 where
  pub old_name : Text
  pub new_name : Option Text
  pub new_email : Text

-- an old email as it is stored, the new fields for all other names, and the old names of the email
pub record EmailGroup : Type 0 where
  pub old_email : Text
  pub unnamed : Fields
  pub names : List StoredName

abbrev pub folded_email : EmailGroup → Text
folded_email g = folded g.old_email

abbrev pub folded_name : StoredName → Text
folded_name n = folded n.old_name

abbrev pub name_fields : StoredName → Fields
name_fields n = record { name = n.new_name; email = Some n.new_email }

abbrev pub name_entry : Text → StoredName → Mapping
name_entry email n = mapping_with (name_fields n) (Some n.old_name) email

-- the entry of an email for all other names, if it has a field for them
abbrev pub unnamed_entries : EmailGroup → List Mapping
unnamed_entries g = if is_some g.unnamed.name || is_some g.unnamed.email then mapping_with g.unnamed None g.old_email ∷ [] else []

-- all entries for an email
abbrev pub group_entries : EmailGroup → List Mapping
group_entries g = unnamed_entries g ++ map (name_entry g.old_email) g.names

abbrev pub listing : List EmailGroup → List Mapping
listing gs = flat_map group_entries gs

-- an email with at least one entry, its names strictly ascending
pub record IsGroup (g : EmailGroup) : Type 0 where
  pub ascending : IsStrictlySortedBy text_cmp (map folded_name g.names)
  pub says : group_entries g ≢ []

-- such emails, strictly ascending
pub record AreGroups (gs : List EmailGroup) : Type 0 where
  pub ascending : IsStrictlySortedBy text_cmp (map folded_email gs)
  pub each : AllByRecursion IsGroup gs

-- what tables hold: the bytes of their texts, and the emails
pub record Contents : Type 0 where
  pub pool : Text
  pub groups : List EmailGroup

-- the number of names of all emails
abbrev pub name_total : List EmailGroup → ℕ
name_total gs = sum_by (λ g. length g.names) gs

-- the number of emails and names
abbrev pub row_count : Contents → ℕ
row_count t = length t.groups + name_total t.groups
