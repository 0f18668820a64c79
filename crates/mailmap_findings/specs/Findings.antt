-- The findings of mailmaps, and the lines that pruning keeps.
use Rattle.std.specs.Prelude.{◌≡◌, ◌<◌, ◌≤◌, ◌⊎◌, ◌++◌, ◌∷◌, ◌||◌, ◌&&◌, Bool, true, false, if◌then◌else◌, Option, Some, None, List, [], Ok, Err, map, filter, is_none, is_some, nat_eq, unwrap_or}
use Rattle.std.specs.List.{flat_map, list_any}
use Rattle.std.specs.Option.{option_and_then, option_copied, option_map, option_or, option_to_list}
use lib.Pointwise.{pointwise}
use Rattle.mailmap_entries.specs.Entries.{Mapping}
use Rattle.mailmap_entries.specs.Folding.{Text}
use Rattle.mailmap_grammar.specs.Lines.{Fault, fault_of, Reading, trailing_text, cut, is_comment, non_empty, strict_reading}
use Rattle.mailmap_grammar.specs.Trimming.{trim}
use Rattle.mailmap_findings.specs.Explanations.{origin_positions}
use Rattle.mailmap_findings.specs.Git.{GitReading, git_reading_of, read_in_place}
use Rattle.mailmap_findings.specs.Marks.{is_marked, unmarked, unmarked_fields}
use Rattle.mailmap_entries.specs.Semantics.{Fields, fields_for, first, key}
use Rattle.mailmap_entries.specs.Listings.{same_optional}
use Rattle.mailmap_redundancy.specs.Origins.{origins}
use Rattle.mailmap_redundancy.specs.Redundancy.{LocatedMapping, AreEffective, entries, last_of_key}
use Rattle.mailmap_redundancy.specs.declared.located.Position.{Position}
use Rattle.mailmap_findings.specs.Positions.{AllLater, Line, entry, located_lines, located, same_position, has_entry_at}
use Rattle.mailmap_findings.specs.declared.verify.Contact as the_contact
use Rattle.mailmap_findings.specs.declared.verify.Finding as the_finding
use Rattle.mailmap_findings.specs.declared.verify.FindingKind as the_kind
use Rattle.mailmap_findings.specs.declared.verify.FindingKind.TheVariants as variant

pub record NewContact : Type 0 where
  pub name : Option Text
  pub email : Text

-- the kinds of findings
pub data FindingKind : Type 0 where
  byte_order_mark : FindingKind
  fault : Fault → FindingKind
  ignored_text : Text → FindingKind
  comment_in_line : FindingKind
  git_reads : GitReading → FindingKind
  no_effect : Position → Bool → FindingKind
  itself_mapped : NewContact → NewContact → Position → Option Position → FindingKind

pub record Finding : Type 0 where
  pub position : Position
  pub kind : FindingKind

-- the specification's view of a contact, a kind and a finding
abbrev pub contact_of : the_contact.Contact → NewContact
contact_of c = record { name = option_copied c.name; email = c.email.now }

abbrev pub kind_of : the_kind.FindingKind → FindingKind
kind_of variant.ByteOrderMark = byte_order_mark
kind_of (variant.Fault e) = fault (fault_of e)
kind_of (variant.IgnoredText text) = ignored_text text.now
kind_of variant.CommentInLine = comment_in_line
kind_of (variant.GitReads reading) = git_reads (git_reading_of reading)
kind_of (variant.NoEffect beside is_same) = no_effect beside is_same
kind_of (variant.ItselfMapped contact to line second) = itself_mapped (contact_of contact) (contact_of to) line second

abbrev pub finding_of : the_finding.Finding → Finding
finding_of f = record { position = f.position; kind = kind_of f.kind }

-- ---- findings about the text of a line

-- the text after the last email of a line that has an entry
abbrev pub ignored : Text → Text
ignored line = trim (trailing_text (cut (trim line)))

-- the fault that strict parsing finds, or else the ignored text, if it isn't blank
abbrev pub reported_of_reading : Text → Option Reading → Option FindingKind
reported_of_reading line None = None
reported_of_reading line (Some (Err f)) = Some (fault f)
reported_of_reading line (Some (Ok e)) = option_map ignored_text (non_empty (ignored line))

-- a new name or an old one begins with `#`, which would begin a comment as the first byte of the line
abbrev pub has_comment : Option Mapping → Bool
has_comment None = false
has_comment (Some e) = is_comment (unwrap_or e.new_name []) || is_comment (unwrap_or e.old_name [])

-- what git reads from a line, if that differs from its entry
abbrev pub read_otherwise : Line → Option GitReading
read_otherwise l = read_in_place (entry l) l.text

-- the position of the first line that git reads in another way
abbrev pub first_read_otherwise : List Text → Option Position
first_read_otherwise buffers = option_map (λ l. l.position)
    (first (filter (λ l. is_some (read_otherwise l)) (located_lines buffers)))

-- ---- findings about the entry of a line

-- the contact that an entry maps to: its new fields where it has them, else its old ones
abbrev pub proper_contact : Mapping → NewContact
proper_contact e = record { name = option_or e.new_name e.old_name; email = unwrap_or e.new_email e.old_email }

-- the contact with its fields overridden; one without a name gets none
abbrev pub replaced_contact : Fields → NewContact → NewContact
replaced_contact f c = record { name = option_map (unwrap_or f.name) c.name; email = unwrap_or f.email c.email }

-- what a contact maps to, without byte order marks if the flag is set; one without a name is looked up by its email
abbrev pub mapped_contact : List Mapping → Bool → NewContact → NewContact
mapped_contact h bare c = replaced_contact (unmarked_fields bare (fields_for h (unwrap_or c.name []) c.email)) c

abbrev pub is_same_contact : NewContact → NewContact → Bool
is_same_contact a b = same_optional a.name b.name && pointwise nat_eq a.email b.email

-- the lines behind what a contact maps to
abbrev pub mapping_positions : List Mapping → List LocatedMapping → NewContact → List Position
mapping_positions h kept c =
    origin_positions (origins kept (unwrap_or c.name []) c.email) (fields_for h (unwrap_or c.name []) c.email)

-- a contact that is mapped to another one by one or two lines
abbrev pub reported_of_contact : NewContact → NewContact → List Position → Option FindingKind
reported_of_contact c to [] = None
reported_of_contact c to (p ∷ ps) = if is_same_contact c to then None else Some (itself_mapped c to p (first ps))

-- whether an entry's contact is itself mapped
abbrev pub reported_of_proper : List Mapping → List LocatedMapping → Bool → Mapping → Option FindingKind
reported_of_proper h kept bare e = reported_of_contact (proper_contact e) (mapped_contact h bare (proper_contact e))
    (mapping_positions h kept (proper_contact e))

-- both have the same new name or none, and the same new email or none, byte for byte
abbrev pub says_same : Mapping → Mapping → Bool
says_same a b = same_optional a.new_name b.new_name && same_optional a.new_email b.new_email

abbrev pub no_effect_beside : Mapping → LocatedMapping → FindingKind
no_effect_beside e x = no_effect x.position (says_same e x.entry)

-- For an effective entry, whether its contact is itself mapped; for another one, the last effective entry of its key.
-- `taken` is the entry of the line without a byte order mark, which counts for what is said; `bare` says that there is
-- a mark.
abbrev pub reported_of_entry : List Mapping → List LocatedMapping → Bool → Bool → Option Mapping → Mapping → Option FindingKind
reported_of_entry h kept true bare taken e = option_and_then (reported_of_proper h kept bare) taken
reported_of_entry h kept false bare taken e = option_map (no_effect_beside (unwrap_or taken e)) (last_of_key kept (key e))

abbrev pub reported_of_effect : List Mapping → List LocatedMapping → Line → Option FindingKind
reported_of_effect h kept l = option_and_then
    (reported_of_entry h kept (has_entry_at kept l.position) (is_marked l) (entry (unmarked l))) (entry l)

-- ---- all findings of all lines

abbrev pub some_if : Bool → FindingKind → Option FindingKind
some_if b kind = if b then Some kind else None

-- what is reported of a line, each if it is so: h has the entries of all lines, and `kept` the effective ones, which
-- have one at the line's position if its own is effective
abbrev pub reports : List Mapping → List LocatedMapping → Line → List (Option FindingKind)
reports h kept l = some_if (is_marked l) byte_order_mark
    ∷ reported_of_reading (unmarked l).text (strict_reading l.position.line (unmarked l).text)
    ∷ some_if (has_comment (entry (unmarked l))) comment_in_line
    ∷ option_map git_reads (read_otherwise (unmarked l))
    ∷ reported_of_effect h kept l ∷ []

-- those that are there, in their order
abbrev pub given : List (Option FindingKind) → List FindingKind
given = flat_map option_to_list

abbrev pub reported_of_line : List Mapping → List LocatedMapping → Line → List FindingKind
reported_of_line h kept l = given (reports h kept l)

-- findings at one position
abbrev pub reported_at : Position → List FindingKind → List Finding
reported_at position kinds = map (λ t. record { position = position; kind = t }) kinds

abbrev pub findings : List Mapping → List LocatedMapping → Line → List Finding
findings h kept l = reported_at l.position (reported_of_line h kept l)

-- the findings of all lines of the buffers, in their order: all that there are, and nothing else
pub record AreFindings (buffers : List Text) (found : List Finding) : Type 0 where
  pub kept : List LocatedMapping
  pub effective : AreEffective (located (located_lines buffers)) kept
  pub whole : found ≡ flat_map (findings (entries (located (located_lines buffers))) kept) (located_lines buffers)

abbrev pub IsUpTo : Position → Position → Type 0
IsUpTo a b = (a.buffer < b.buffer) ⊎ ((a.buffer ≡ b.buffer) × (a.line ≤ b.line))

-- the findings are in the order of their lines
abbrev pub AreInOrder : List Finding → Type 0
AreInOrder = AllLater (λ f g. IsUpTo f.position g.position)

-- ---- pruned texts

abbrev pub has_no_effect : FindingKind → Bool
has_no_effect (no_effect beside is_same) = true
has_no_effect _ = false

abbrev pub is_reported_redundant : List Finding → Line → Bool
is_reported_redundant found l = list_any (λ f. has_no_effect f.kind && same_position f.position l.position) found

-- lines without an entry are kept, and those with an effective one
abbrev pub is_line_kept : List LocatedMapping → Line → Bool
is_line_kept kept l = is_none (entry l) || has_entry_at kept l.position

-- the buffer's lines, byte for byte, without those whose entries have no effect
pub record IsPruned (buffer text : Text) : Type 0 where
  pub kept : List LocatedMapping
  pub effective : AreEffective (located (located_lines (buffer ∷ []))) kept
  pub whole : text ≡ flat_map (λ l. l.text) (filter (is_line_kept kept) (located_lines (buffer ∷ [])))
