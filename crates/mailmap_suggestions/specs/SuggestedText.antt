-- The text of suggestions: groups with their counted answers as comments, and the lines of their entries. It is a
-- mailmap, in which the lines that need a look first are comments, too.
use Rattle.std.specs.Prelude.{◌++◌, ◌==◌, ℕ, Bool, true, false, if◌then◌else◌, Option, None, Some, codes, decimal}
use Rattle.std.specs.Prelude.{unwrap_or, List, [], ◌∷◌}
use Rattle.std.specs.List.{flat_map}
use Rattle.mailmap_contacts.specs.Contacts.{Contact, Tally}
use Rattle.mailmap_entries.specs.Entries.{Mapping}
use Rattle.mailmap_entries.specs.Folding.{Text}
use Rattle.mailmap_entries.specs.Semantics.{last}
pub use Rattle.mailmap_suggestions.specs.EntryLines.{entry_line, fields_text}
use Rattle.mailmap_suggestions.specs.Forms.{Histories}
use Rattle.mailmap_suggestions.specs.Shortened.{short_contact, shortened, shortened_to}
use Rattle.mailmap_suggestions.specs.Suggestions.{GroupClasses, Kind, Suggestion, by_alike_names, by_email, by_login}
use Rattle.mailmap_suggestions.specs.Suggestions.{by_name, by_shared_email, lines_in, needs_review, suggestions}
use Rattle.shown_text.specs.Shown.{shown}

-- ---- lines, without their line feeds

-- `#?` before the line of an entry that needs a look first
abbrev pub mark : Bool → Text
mark needs_review = if needs_review then codes "#?" else []

abbrev pub by_git : Bool → Text
by_git is_gits = if is_gits then codes " by git" else []

-- A comment with escapes. git would read what comes after 1,023 bytes as a line of its own, so a long one is cut.
abbrev pub comment : Text → Text
comment text = codes "# " ++ shortened_to 1000 (shown text)

-- how often an answer comes
abbrev pub count_line : Bool → ℕ → Contact → Text
count_line is_gits count c = comment (decimal count ++ 32 ∷ short_contact c.name c.email ++ by_git is_gits)

-- ---- what comes first, with line feeds

abbrev pub cut_lines : Bool → Text
cut_lines is_cut = if is_cut then codes "# too long for git" ++ 10 ∷ [] else []

abbrev pub kind_lines : Kind → Text
kind_lines by_email = []
kind_lines (by_shared_email email) = comment (codes "several people may share " ++ shortened email) ++ 10 ∷ []
kind_lines by_name = []
kind_lines by_alike_names = codes "# alike" ++ 10 ∷ []
kind_lines (by_login login) = comment (codes "login " ++ shortened login) ++ 10 ∷ []

-- ---- the text

abbrev pub count_lines : Bool → List Tally → Text
count_lines is_gits ts = flat_map (λ t. count_line is_gits t.seen.count t.contact ++ 10 ∷ []) ts

abbrev pub entry_lines : Bool → List Mapping → Text
entry_lines needs_review es = flat_map (λ e. mark needs_review ++ entry_line e ++ 10 ∷ []) es

-- the comments of a suggestion
abbrev pub comments : Suggestion → Text
comments s = cut_lines s.is_cut ++ kind_lines s.kind ++ count_lines false s.answers ++ count_lines true s.git_answers

-- the comments and the lines of a suggestion, and an empty line
abbrev pub suggestion_text : Bool → Suggestion → Text
suggestion_text is_marked s = comments s ++ entry_lines is_marked s.entries ++ 10 ∷ []

-- the text of suggestions, in which the lines of those that need a look are marked
abbrev pub suggestions_text : List Suggestion → Text
suggestions_text found = flat_map (λ s. suggestion_text (needs_review s.kind) s) found

-- a line feed after a last byte that is none
abbrev pub feed_unless : Option ℕ → Text
feed_unless None = []
feed_unless (Some b) = if b == 10 then [] else 10 ∷ []

-- a line feed if the last mailmap isn't empty and doesn't end with one
abbrev pub feed_after : List Text → Text
feed_after buffers = feed_unless (last (unwrap_or (last buffers) []))

-- what is printed for the contacts, to be appended to the last mailmap
abbrev pub printed : List Text → List Suggestion → Text
printed buffers [] = []
printed buffers (s ∷ rest) = feed_after buffers ++ suggestions_text (s ∷ rest)

abbrev pub suggested_text : List Text → GroupClasses → List Text → Histories → List Tally → Text
suggested_text shared c buffers h ts = printed buffers (suggestions shared c (lines_in buffers) h ts)
