-- A byte order mark at the beginning of a mailmap, and lines as they would be without it.
use Rattle.std.specs.Prelude.{◌==◌, ◌&&◌, Bool, if◌then◌else◌, Option, Some, None, List, ◌∷◌, is_some, unwrap_or}
use Rattle.std.specs.Option.{option_and_then}
use Rattle.mailmap_entries.specs.Folding.{Text}
use Rattle.mailmap_entries.specs.Semantics.{Fields}
use Rattle.mailmap_grammar.specs.Lines.{non_empty}
use Rattle.mailmap_grammar.specs.Trimming.{trim}
use Rattle.mailmap_findings.specs.Positions.{Line}

-- the text after U+FEFF in UTF-8, if it begins with that
abbrev pub after_mark : Text → Option Text
after_mark (a ∷ b ∷ c ∷ s) = if a == 0xEF && (b == 0xBB && c == 0xBF) then Some s else None
after_mark _ = None

-- the text of a line after the byte order mark that its mailmap begins with, if it has one
abbrev pub text_after_mark : Line → Option Text
text_after_mark l = if l.position.line == 1 then after_mark l.text else None

-- the mailmap begins with a byte order mark, and this is its first line
abbrev pub is_marked : Line → Bool
is_marked l = is_some (text_after_mark l)

-- the line without the mark
abbrev pub unmarked : Line → Line
unmarked l = record { position = l.position; text = unwrap_or (text_after_mark l) l.text }

-- a name without a mark that it begins with, if anything is left
abbrev pub unmarked_name : Text → Option Text
unmarked_name name = non_empty (trim (unwrap_or (after_mark name) name))

-- new fields as they would be without such a mark, if the flag is set
abbrev pub unmarked_fields : Bool → Fields → Fields
unmarked_fields bare f = record {
  name = option_and_then (λ name. if bare then unmarked_name name else Some name) f.name;
  email = f.email;
}
