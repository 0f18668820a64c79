-- What pruning leaves of a mailmap.
use Rattle.std.specs.Prelude.{◌≡◌, ◌∷◌, ◌++◌, [], false, List, Some, filter, map}
use Rattle.std.specs.List.{flat_map, list_any}
use Rattle.gix_mailmap.specs.Entries.{Mapping}
use Rattle.gix_mailmap.specs.Findings.{Finding, has_no_effect}
use Rattle.gix_mailmap.specs.Folding.{Text}
use Rattle.gix_mailmap.specs.Positions.{Line, entry, located_lines}
use Rattle.gix_mailmap.specs.Pruning.{MarksStay, is_left, lines_left, renumbered}

-- no line is without effect, and the other findings of the kept lines are there, with their new line numbers, unless a
-- byte order mark gets to the beginning
pub record AreFindingsLeft (buffer : Text) (found left : List Finding) : Type 0 where
  pub none : list_any (λ f. has_no_effect f.kind) left ≡ false
  pub others : MarksStay (lines_left buffer found) → left ≡ map (renumbered (lines_left buffer found)) (filter (is_left found) found)

-- a text without one of its lines, which has an entry
pub record IsWithoutOne (text shorter : Text) : Type 0 where
  pub before : List Line
  pub line : Line
  pub after : List Line
  pub whole : located_lines (text ∷ []) ≡ before ++ line ∷ after
  pub mapping : Mapping
  pub is_entry : entry line ≡ Some mapping
  pub rest : shorter ≡ flat_map (λ l. l.text) (before ++ after)
