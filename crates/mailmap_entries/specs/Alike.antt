-- Alike lists of mappings agree in everything that a normal list and an answer depend on.
use Rattle.std.specs.Prelude.{◌≡◌, List, Option, Some, option_map}
use Rattle.mailmap_entries.specs.Entries.{Mapping}
use Rattle.mailmap_entries.specs.Folding.{Text}
use Rattle.mailmap_entries.specs.Semantics.{Key, first, accepted, of_key, has_key, given_fields, last_fields}
use Rattle.mailmap_entries.specs.Semantics.{spelling}

-- the old name as the first entry of the key spells it
abbrev pub first_name : List Mapping → Key → Option (Option Text)
first_name h k = option_map (λ e. e.old_name) (first (of_key h k))

pub record Alike (h g : List Mapping) : Type 0 where
  pub keys : (k : Key) → has_key (accepted h) k ≡ has_key (accepted g) k
  pub spellings : (email : Text) → spelling h email ≡ spelling g email
  pub given : (email : Text) → given_fields h email ≡ given_fields g email
  pub lasts : (email name : Text) → last_fields h (email, Some name) ≡ last_fields g (email, Some name)
  pub names : (email name : Text) → first_name h (email, Some name) ≡ first_name g (email, Some name)
