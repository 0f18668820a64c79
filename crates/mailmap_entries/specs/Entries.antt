-- One entry of a mailmap: its four texts.
use Rattle.std.specs.Prelude.{ℕ, Option, None, List, [], ◌++◌}
use Rattle.std.specs.Hash as fed
use Rattle.std.specs.Ordering.{ordering_then}
use Rattle.std.specs.Option.{option_cmp, option_copied}
use Rattle.std.specs.declared.cmp.Ordering.{Ordering}
use Rattle.mailmap_entries.specs.Folding.{Text, text_cmp}
use Rattle.mailmap_entries.specs.declared.entry.Entry.{Entry}

-- the four fields of an entry as texts, independent of where they are in memory
pub record Mapping : Type 0 where
  pub new_name : Option Text
  pub new_email : Option Text
  pub old_name : Option Text
  pub old_email : Text

abbrev pub mapping : Option Text → Option Text → Option Text → Text → Mapping
mapping new_name new_email old_name old_email =
    record { new_name = new_name; new_email = new_email; old_name = old_name; old_email = old_email }

-- the texts that an entry borrows
abbrev pub mapping_of : Entry → Mapping
mapping_of e = record {
  new_name = option_copied e.new_name;
  new_email = option_copied e.new_email;
  old_name = option_copied e.old_name;
  old_email = e.old_email.now;
}

-- what the default entry maps: nothing, for an empty email
abbrev pub nothing : Mapping
nothing = record { new_name = None; new_email = None; old_name = None; old_email = [] }

-- the order of entries: by new name, new email, old name and old email, each byte by byte and a missing one first
abbrev pub mapping_cmp : Mapping → Mapping → Ordering
mapping_cmp a b = ordering_then (option_cmp text_cmp a.new_name b.new_name)
    (ordering_then (option_cmp text_cmp a.new_email b.new_email)
    (ordering_then (option_cmp text_cmp a.old_name b.old_name) (text_cmp a.old_email b.old_email)))

-- what a hasher gets of a text that may be missing
abbrev pub text_writes : Option Text → List (List ℕ)
text_writes = fed.option (fed.slice fed.u8)

-- what a hasher gets of an entry: its four texts in turn, independent of where they are in memory
abbrev pub mapping_writes : Mapping → List (List ℕ)
mapping_writes m = text_writes m.new_name ++ (text_writes m.new_email
    ++ (text_writes m.old_name ++ fed.slice fed.u8 m.old_email))
