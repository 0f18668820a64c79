-- The listing of a snapshot: how two compare, and what a hasher gets of one.
use Rattle.std.specs.Prelude.{Bool, ◌&&◌, List, nat_eq, Option}
use lib.Pointwise.{pointwise}
use Rattle.std.specs.Hash as fed
use Rattle.std.specs.List.{flat_map}
use Rattle.std.specs.Option.{option_eq}
use Rattle.mailmap_entries.specs.Entries.{Mapping, mapping_writes}
use Rattle.mailmap_entries.specs.Folding.{Text}

-- whether both texts are missing, or both are there and equal
abbrev pub same_optional : Option Text → Option Text → Bool
same_optional = option_eq (pointwise nat_eq)

-- whether two entries have the same four texts
abbrev pub same_entry : Mapping → Mapping → Bool
same_entry a b = same_optional a.new_name b.new_name && (same_optional a.new_email b.new_email
    && (same_optional a.old_name b.old_name && pointwise nat_eq a.old_email b.old_email))

-- whether two listings have the same entries in the same order
abbrev pub same_entries : List Mapping → List Mapping → Bool
same_entries = pointwise same_entry

-- what a hasher gets of each entry, one after another
abbrev pub entries_hashed : List Mapping → fed.HashWrites
entries_hashed es = flat_map mapping_writes es
