-- The findings of mailmaps, merged with the lines that no contact needs.
use Rattle.std.specs.Prelude.{◌≡◌, ◌++◌, ◌&&◌, if◌then◌else◌, List, [], ◌∷◌, Option, None, Some, map, not}
use Rattle.std.specs.List.{flat_map}
use Rattle.std.specs.Ordering.{is_lt}
use Rattle.mailmap_entries.specs.Entries.{Mapping}
use Rattle.mailmap_entries.specs.Folding.{Text}
use Rattle.mailmap_redundancy.specs.Redundancy.{AreEffective, LocatedMapping, entries, position_cmp}
use Rattle.mailmap_redundancy.specs.declared.located.Position.{Position}
use Rattle.mailmap_findings.specs.Findings.{Finding, finding_of, findings}
use Rattle.mailmap_findings.specs.Positions.{Line, has_entry_at, located_lines, located, whole_lines}
use Rattle.mailmap_findings.specs.Needs.{any_needs}
use Rattle.mailmap_findings.specs.declared.remarks.Remark.{Remark as the_remark}
use Rattle.mailmap_findings.specs.declared.remarks.Remark.TheVariants as variant

pub data Remark : Type 0 where
  found : Finding → Remark
  unneeded : Position → Remark

-- the specification's view of a remark
abbrev pub remark_of : the_remark → Remark
remark_of (variant.Found f) = found (finding_of f)
remark_of (variant.Unneeded position) = unneeded position

-- the findings of a line, and then whether it has an effect but no contact needs it
abbrev pub line_remarks : List Mapping → List LocatedMapping → List Text → Line → List Remark
line_remarks h kept contacts l = map found (findings h kept l) ++
    (if has_entry_at kept l.position && not (any_needs kept contacts l.position) then unneeded l.position ∷ [] else [])

-- the remarks on the lines of the buffers, in the order of the lines
pub record AreRemarks (buffers : List Text) (contacts : Text) (remarks : List Remark) : Type 0 where
  pub kept : List LocatedMapping
  pub effective : AreEffective (located (located_lines buffers)) kept
  pub whole : remarks ≡ flat_map (line_remarks (entries (located (located_lines buffers))) kept (whole_lines contacts))
      (located_lines buffers)

-- ---- merging findings and positions, each in the order of the lines

-- the positions before a finding, the finding, and then what `rest` makes of the other positions
abbrev pub with_finding : Finding → (List Position → List Remark) → List Position → List Remark
with_finding f rest [] = found f ∷ rest []
with_finding f rest (p ∷ ps) =
    if is_lt (position_cmp p f.position) then unneeded p ∷ with_finding f rest ps else found f ∷ rest (p ∷ ps)

-- merged by line; a line's findings come first
abbrev pub merged_remarks : List Finding → List Position → List Remark
merged_remarks [] ps = map unneeded ps
merged_remarks (f ∷ fs) ps = with_finding f (merged_remarks fs) ps

-- the first position and the others, if it comes before the finding
abbrev pub first_before : Option Finding → List Position → Option (Position × List Position)
first_before ahead [] = None
first_before None (p ∷ ps) = Some (p, ps)
first_before (Some f) (p ∷ ps) = if is_lt (position_cmp p f.position) then Some (p, ps) else None
