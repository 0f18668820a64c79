-- The mappings of several sources, one after another.
use Rattle.std.specs.Prelude.{◌≡◌, Bool, true, if◌then◌else◌, List, [], ◌∷◌, ◌++◌, map}
use Rattle.std.specs.List.{AllZip}
use Rattle.mailmap_entries.specs.Entries.{Mapping, mapping_of}
use Rattle.mailmap_entries.specs.Semantics.{IsNormal, accepted}
use Rattle.mailmap_grammar.specs.Lines.{mappings_of}
use Rattle.mailmap_snapshot.specs.declared.snapshot.sources.Source.{Source}
use Rattle.mailmap_snapshot.specs.declared.snapshot.sources.Source.TheVariants.{Buffer, Entries}

-- the mappings of a buffer's lines, or the entries
abbrev pub source_mappings : Source → List Mapping
source_mappings (Buffer b) = mappings_of b.now
source_mappings (Entries es) = map mapping_of es.now

-- the mappings of the sources that are marked as made, in order
unfoldable pub merged_mappings : List Source → List Bool → List Mapping
merged_mappings [] made = []
merged_mappings (s ∷ sources) [] = []
merged_mappings (s ∷ sources) (is_made ∷ made) =
    (if is_made then source_mappings s else []) ++ merged_mappings sources made

-- a mark for each source; one without an accepted entry is marked as merged
abbrev pub AreMarks : List Source → List Bool → Type 0
AreMarks sources made = AllZip (λ s is_made. accepted (source_mappings s) ≡ [] → is_made ≡ true) sources made

-- the listing, after these sources: it was `before`, and those that are marked were merged
pub record IsMarked (before : List Mapping) (sources : List Source) (made : List Bool) (listing : List Mapping) : Type 0 where
  pub normal : IsNormal (before ++ merged_mappings sources made) listing
  pub marks : AreMarks sources made
