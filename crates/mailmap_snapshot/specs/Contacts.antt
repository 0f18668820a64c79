-- Answers to lines of contacts.
use Rattle.std.specs.Prelude.{◌≡◌, ◌≢◌, ◌⊎◌, List, [], ◌∷◌, ◌++◌, map}
use Rattle.std.specs.List.{AllByRecursion, AllZip, flat_map}
use Rattle.bstr.specs.Text.{lines_of, without_terminator}
use Rattle.mailmap_entries.specs.Entries.{Mapping}
use Rattle.mailmap_entries.specs.Folding.{Text}
use Rattle.mailmap_entries.specs.Semantics.{Fields, fields_for}
pub use Rattle.mailmap_grammar.specs.CanonicalText.{contact_line, contact_with}
use Rattle.mailmap_grammar.specs.Lines.{ParsedContact, Absent, Unclosed, Closed, contact_in, mappings_of, with_line_feeds, HoldsNo}

-- the lines of a text: each ends before its line feed, and before one carriage return directly before that; the last
-- line may have no line feed, and then keeps a carriage return at its end
abbrev pub contact_lines : Text → List Text
contact_lines text = map without_terminator (lines_of text)

-- the line is the piece without one carriage return at its end
abbrev pub IsWithoutReturn : Text → Text → Type 0
IsWithoutReturn piece line = (piece ≡ line ++ 13 ∷ []) ⊎ ((piece ≡ line) × ((front : Text) → line ≡ front ++ 13 ∷ [] → ⊥))

-- ls are the lines of s: the pieces with a line feed, each without its carriage return, and then the last piece as it
-- is, if it has no line feed
pub record AreLines (s : Text) (ls : List Text) : Type 0 where
  pub ended : List Text
  pub bare : List Text
  pub each : AllZip IsWithoutReturn ended bare
  pub no_feed : AllByRecursion (HoldsNo 10) ended
  pub whole : ((s ≡ with_line_feeds ended) × (ls ≡ bare))
      ⊎ ((last : Text) × (last ≢ []) × HoldsNo 10 last × (s ≡ with_line_feeds ended ++ last) × (ls ≡ bare ++ last ∷ []))

-- the answer to a line that starts with this contact, given the fields for contacts; a line without a contact is its own
-- answer
abbrev pub contact_answer : (Text → Text → Fields) → Text → ParsedContact → Text
contact_answer fields line Absent = line
contact_answer fields line Unclosed = line
contact_answer fields line (Closed name email rest) = contact_with (fields name email) name email

-- the answer to a line; a contact is at the start of the trimmed line, and its email may be empty
abbrev pub answer : List Mapping → Text → Text
answer h line = contact_answer (fields_for h) line (contact_in line)

-- the answers to lines of contacts, each followed by a line feed
abbrev pub answers : List Mapping → Text → Text
answers h contacts = flat_map (λ line. answer h line ++ 10 ∷ []) (contact_lines contacts)

-- the answers to lines of contacts with the mappings of the buffers, one after another
abbrev pub answers_by : List Text → Text → Text
answers_by buffers contacts = answers (flat_map mappings_of buffers) contacts
