-- Results of writing a snapshot.
use Rattle.std.specs.Prelude.{◌≡◌, ◌<◌, ℕ, List, length}
use Rattle.std.specs.List.{All, AllWithin, HoldsAt, flat_map}
use Rattle.mailmap_snapshot.specs.declared.snapshot.text.WriteError.{WriteError}
use Rattle.mailmap_snapshot.specs.declared.snapshot.text.WriteError.TheVariants.{Unwritable, Memory}
use Rattle.mailmap_grammar.specs.CanonicalText.{IsWritable, canonical_text}
use Rattle.mailmap_entries.specs.Entries.{Mapping}
use Rattle.mailmap_entries.specs.Folding.{Text}
use Rattle.mailmap_entries.specs.Semantics.{IsNormal}
use Rattle.mailmap_grammar.specs.Lines.{mappings_of}

-- lines can hold all entries before this place, counted from 0, but not the one at it
pub record IsFirstUnwritable (es : List Mapping) (place : ℕ) : Type 0 where
  pub before : AllWithin IsWritable es 0 place
  pub within : place < length es
  pub unwritable : HoldsAt (λ e. ¬ IsWritable e) es place

-- why entries weren't written: the first that no line can hold, or out of memory if lines can hold all
abbrev pub IsUnwrittenBy : List Mapping → WriteError → Type 0
IsUnwrittenBy es (Unwritable place) = IsFirstUnwritable es place
IsUnwrittenBy es (Memory error) = All IsWritable es

-- the bytes are the text of the normal list of the buffers' mappings, one buffer after another
abbrev pub IsCompacted : List Text → Text → Type 0
IsCompacted buffers bytes = (n : List Mapping) × IsNormal (flat_map mappings_of buffers) n × (bytes ≡ canonical_text n)
