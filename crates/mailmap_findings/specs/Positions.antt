-- The lines of buffers with their positions, and their entries.
use Rattle.std.specs.Prelude.{◌+◌, ◌==◌, ◌&&◌, ℕ, Bool, if◌then◌else◌, Option, List, [], ◌∷◌, ◌++◌, filter}
use Rattle.std.specs.List.{AllByRecursion, filter_map, flat_map, list_any}
use Rattle.std.specs.Option.{option_map, option_and_then}
use Rattle.std.specs.Result.{result_ok}
use Rattle.mailmap_entries.specs.Entries.{Mapping}
use Rattle.mailmap_entries.specs.Folding.{Text}
use Rattle.mailmap_grammar.specs.Lines.{reading, with_first}
use Rattle.mailmap_redundancy.specs.Redundancy.{LocatedMapping}
use Rattle.mailmap_redundancy.specs.declared.located.Position.{Position}
use Rattle.mailmap_findings.specs.declared.verify.lines.Line.{Line as the_line}

-- each element is in this relation to all later ones
abbrev pub AllLater : {X : Type 0} → (X → X → Type 0) → List X → Type 0
AllLater R [] = Unit {0}
AllLater R (x ∷ xs) = AllByRecursion (R x) xs × AllLater R xs

-- a line, including its line feed if it has one
pub record Line : Type 0 where
  pub position : Position
  pub text : Text

-- the specification's view of a line
abbrev pub line_of : the_line → Line
line_of l = record { position = l.position; text = l.text.now }

-- the lines of a buffer, including their line feeds: they concatenate to the buffer
unfoldable pub whole_lines : Text → List Text
whole_lines [] = []
whole_lines (b ∷ s) = if b == 10 then (b ∷ []) ∷ whole_lines s else with_first b (whole_lines s)

-- gives the lines ts of a buffer their positions, from this line number on
unfoldable pub located_from : ℕ → ℕ → List Text → List Line
located_from buffer line [] = []
located_from buffer line (t ∷ ts) =
    record { position = record { buffer = buffer; line = line }; text = t } ∷ located_from buffer (line + 1) ts

-- the lines of a buffer, numbered from 1
abbrev pub buffer_lines : ℕ → Text → List Line
buffer_lines buffer s = located_from buffer 1 (whole_lines s)

-- the lines of buffers; the first buffer has this index
unfoldable pub lines_from : ℕ → List Text → List Line
lines_from buffer [] = []
lines_from buffer (s ∷ ss) = buffer_lines buffer s ++ lines_from (buffer + 1) ss

-- the lines of buffers
abbrev pub located_lines : List Text → List Line
located_lines buffers = lines_from 0 buffers

-- the texts of buffers without the lines that fail a test, byte for byte; the first buffer has this index
abbrev pub texts_from : (Line → Bool) → ℕ → List Text → List Text
texts_from is_left buffer [] = []
texts_from is_left buffer (s ∷ ss) =
    flat_map (λ l. l.text) (filter is_left (buffer_lines buffer s)) ∷ texts_from is_left (buffer + 1) ss

abbrev pub texts_left : (Line → Bool) → List Text → List Text
texts_left is_left buffers = texts_from is_left 0 buffers

-- the entry of a line, if it has one
unfoldable pub entry : Line → Option Mapping
entry l = option_and_then result_ok (reading l.position.line l.text)

abbrev pub located_entry : Line → Option LocatedMapping
located_entry l = option_map (λ e. record { position = l.position; entry = e }) (entry l)

abbrev pub located : List Line → List LocatedMapping
located ls = filter_map located_entry ls

abbrev pub same_position : Position → Position → Bool
same_position a b = a.buffer == b.buffer && a.line == b.line

-- whether one of the entries is at this position
abbrev pub has_entry_at : List LocatedMapping → Position → Bool
has_entry_at xs position = list_any (λ x. same_position x.position position) xs
