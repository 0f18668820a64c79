-- The lines of mailmaps that contacts need.
use Rattle.std.specs.Prelude.{◌≡◌, ◌||◌, Bool, true, false, List, [], ◌∷◌, filter, map, not}
use Rattle.std.specs.List.{list_any}
use Rattle.mailmap_entries.specs.Folding.{Text}
use Rattle.mailmap_grammar.specs.Lines.{ParsedContact, Absent, Unclosed, Closed, contact_in}
use Rattle.mailmap_grammar.specs.Trimming.{trim}
use Rattle.mailmap_redundancy.specs.Origins.{origins}
use Rattle.mailmap_redundancy.specs.Redundancy.{AreEffective, LocatedMapping}
use Rattle.mailmap_redundancy.specs.declared.located.Position.{Position}
use Rattle.mailmap_findings.specs.Explanations.{needed_positions}
use Rattle.mailmap_findings.specs.Findings.{Finding, is_reported_redundant}
use Rattle.mailmap_findings.specs.Positions.{Line, located_lines, located, same_position, whole_lines}

-- ---- lines of contacts

abbrev pub is_contact : ParsedContact → Bool
is_contact Absent = false
is_contact Unclosed = false
is_contact (Closed name email rest) = true

abbrev pub is_empty : Text → Bool
is_empty [] = true
is_empty (b ∷ s) = false

-- a line that is neither blank nor a contact
abbrev pub is_no_contact : Text → Bool
is_no_contact line = not (is_empty (trim line) || is_contact (contact_in line))

-- ---- lines that contacts need

-- whether the answer to a name and an email needs the line at a position
abbrev pub needs : List LocatedMapping → Text → Text → Position → Bool
needs kept name email position = list_any (same_position position) (needed_positions (origins kept name email))

-- whether a contact needs it; a line that is no contact needs nothing
abbrev pub contact_needs : List LocatedMapping → ParsedContact → Position → Bool
contact_needs kept Absent position = false
contact_needs kept Unclosed position = false
contact_needs kept (Closed name email rest) position = needs kept name email position

-- whether one of the contacts needs it
abbrev pub any_needs : List LocatedMapping → List Text → Position → Bool
any_needs kept contacts position = list_any (λ line. contact_needs kept (contact_in line) position) contacts

-- the positions of the effective entries that no contact needs, in the order of the lines
abbrev pub unneeded : List LocatedMapping → List Text → List Position
unneeded kept contacts = filter (λ p. not (any_needs kept contacts p)) (map (λ x. x.position) kept)

-- `found` has the lines of the buffers that have an effect but that no contact needs
pub record AreUnneeded (buffers : List Text) (contacts : Text) (found : List Position) : Type 0 where
  pub kept : List LocatedMapping
  pub effective : AreEffective (located (located_lines buffers)) kept
  pub whole : found ≡ unneeded kept (whole_lines contacts)

-- whether a line is reported as without effect, or as needed by no contact
abbrev pub is_deletable : List Finding → List Position → Line → Bool
is_deletable found missing l = is_reported_redundant found l || list_any (same_position l.position) missing

-- ---- contacts added one by one

-- all entries, the effective ones, and the positions of those that no contact has needed so far
pub record Needs : Type 0 where
  pub history : List LocatedMapping
  pub kept : List LocatedMapping
  pub left : List Position
