-- The findings of a pruned text, from those of its buffer.
use Rattle.std.specs.Prelude.{◌≡◌, ◌+◌, ◌&&◌, ℕ, Bool, if◌then◌else◌, List, [], ◌∷◌, filter, not}
use Rattle.std.specs.List.{AllByRecursion, list_any}
use Rattle.std.specs.Option.{option_map}
use Rattle.mailmap_entries.specs.Folding.{Text}
use Rattle.mailmap_redundancy.specs.declared.located.Position.{Position}
use Rattle.mailmap_findings.specs.Findings.{Finding, FindingKind, fault, has_no_effect, is_reported_redundant, itself_mapped, no_effect}
use Rattle.mailmap_findings.specs.Marks.{is_marked}
use Rattle.mailmap_findings.specs.Positions.{Line, located_lines, same_position}

-- the lines of a buffer that pruning keeps: those not reported as without effect
abbrev pub lines_left : Text → List Finding → List Line
lines_left buffer found = filter (λ l. not (is_reported_redundant found l)) (located_lines (buffer ∷ []))

-- whether the line of a finding is kept
abbrev pub is_left : List Finding → Finding → Bool
is_left found f = not (list_any (λ g. has_no_effect g.kind && same_position g.position f.position) found)

-- the number, from 1, of the line at this position among these lines
abbrev pub number_among : List Line → Position → ℕ
number_among [] position = 1
number_among (l ∷ ls) position = if same_position l.position position then 1 else number_among ls position + 1

-- the same as a position in a text that has only these lines
abbrev pub position_among : List Line → Position → Position
position_among ls position = record { buffer = 0; line = number_among ls position }

-- a fault contains the number of its line, and some findings name other lines, which move
abbrev pub with_number : (Position → Position) → ℕ → FindingKind → FindingKind
with_number move n (fault f) = fault (record f { line = n })
with_number move n (no_effect beside is_same) = no_effect (move beside) is_same
with_number move n (itself_mapped contact to line second) =
    itself_mapped contact to (move line) (option_map move second)
with_number move n kind = kind

-- moves a finding, and the lines that it names, to where these are among these lines
abbrev pub renumbered : List Line → Finding → Finding
renumbered ls f = record {
  position = position_among ls f.position;
  kind = with_number (position_among ls) (number_among ls f.position) f.kind;
}

-- No byte order mark gets to the beginning of a text that has only these lines: the first of them has one only if it
-- began the buffer, too.
abbrev pub MarksStay : List Line → Type 0
MarksStay ls = AllByRecursion (λ l. is_marked (record l { position = position_among ls l.position }) ≡ is_marked l) ls
