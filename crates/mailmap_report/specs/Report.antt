-- The report of mailmaps and of contacts.
use Rattle.std.specs.Prelude.{ℕ, ◌-◌, Bool, if◌then◌else◌, ◌++◌, codes, ◌==◌, ◌||◌, true, false, List, [], ◌∷◌, Option, Some, None, decimal, drop, length, map, take, option_to_list, slice_index_or, unwrap_or}
use Rattle.mailmap_entries.specs.Folding.{Text}
use Rattle.std.specs.List.{flat_map, list_any, starts_with}
use Rattle.std.specs.Option.{option_map}
use Rattle.std.specs.Char.{is_whitespace}
use Rattle.bstr.specs.Trim.{trim_start_by}
use Rattle.mailmap_grammar.specs.Lines.{FaultKind, is_comment, no_email, missing_closing_bracket, empty_email, nothing_to_map, unclosed_second}
use Rattle.mailmap_grammar.specs.CanonicalText.{bracketed_email, email_part, name_part}
use Rattle.mailmap_entries.specs.Entries.{Mapping}
use Rattle.mailmap_findings.specs.Findings.{NewContact, Finding, FindingKind, byte_order_mark, comment_in_line, fault, ignored_text, git_reads, no_effect, itself_mapped}
use Rattle.mailmap_findings.specs.Git.{GitReading, Nothing, Entry, Lines}
use Rattle.mailmap_redundancy.specs.declared.located.Position.{Position}
use Rattle.shown_text.specs.Shown.{escaped_byte, shown}
use Rattle.mailmap_report.specs.Alike.{alike_text}
use Rattle.mailmap_report.specs.Github.{annotation_line}
use Rattle.mailmap_report.specs.Json.{FileLine, Named, Notice, no_name, object_line}
use Rattle.mailmap_report.specs.Kinds.{finding_kind, kind_level, kind_name, level_name, contact_kind}
use Rattle.mailmap_report.specs.Settings.{Choices, counts, format_of, is_reported}
use Rattle.mailmap_report.specs.declared.settings.Format.{Format}
use Rattle.mailmap_report.specs.declared.settings.Format.TheVariants.{Gcc, Github, Json}
use Rattle.mailmap_report.specs.declared.pieces.Piece.{Piece as the_piece}
use Rattle.mailmap_contacts.specs.Contacts.{Tally}
use Rattle.mailmap_suggestions.specs.ContactFindings.{ContactFinding, first_line_of, git_answers, is_like, no_contact, shared_email}
use Rattle.mailmap_suggestions.specs.declared.findings.Likeness.{Likeness}
use Rattle.mailmap_suggestions.specs.declared.findings.Likeness.TheVariants.{AlikeName, Email, Login, Name}
pub use Rattle.mailmap_suggestions.specs.Shortened.{front_len, short_contact, shortened}
use Rattle.mailmap_findings.specs.Remarks.{Remark, found as remark_found, unneeded as remark_unneeded}
use Rattle.mailmap_report.specs.declared.kinds.Kind.TheVariants as kind

-- ---- places

-- the name of a buffer in messages: its path, or without paths that of standard input
abbrev pub file_name : List Text → ℕ → Text
file_name [] buffer = codes "<stdin>"
file_name (path ∷ paths) buffer = slice_index_or (path ∷ paths) buffer []

abbrev pub place_at : List Text → ℕ → ℕ → FileLine
place_at paths buffer line = record { file = file_name paths buffer; line = line }

-- FILE:LINE
abbrev pub place_text : FileLine → Text
place_text l = l.file ++ 58 ∷ decimal l.line

abbrev pub position_text : List Text → ℕ → ℕ → Text
position_text paths buffer line = place_text (place_at paths buffer line)

-- FILE:LINE, FILE:LINE
abbrev pub positions_text : List Text → List Position → Text
positions_text paths [] = []
positions_text paths (p ∷ ps) =
    position_text paths p.buffer p.line ++ flat_map (λ q. codes ", " ++ position_text paths q.buffer q.line) ps

-- ---- what findings say

abbrev pub fault_text : FaultKind → Text
fault_text no_email = codes "no email in brackets"
fault_text missing_closing_bracket = codes "the first '<' has no '>'"
fault_text empty_email = codes "the first email is empty"
fault_text nothing_to_map = codes "an email alone maps nothing"
fault_text unclosed_second = codes "the second '<' has no '>'"

-- NAME <EMAIL>, both shortened; an empty or missing name is left out, with the space after it
abbrev pub contact_text : NewContact → Text
contact_text c = short_contact (unwrap_or c.name []) c.email

-- an entry as a mailmap line, with its texts shortened
abbrev pub entry_text : Mapping → Text
entry_text e = name_part (option_map shortened e.new_name) ++ email_part (option_map shortened e.new_email)
    ++ name_part (option_map shortened e.old_name) ++ bracketed_email (shortened e.old_email)

-- what git reads
abbrev pub git_text : GitReading → Text
git_text Nothing = codes "nothing here"
git_text (Entry e) = codes "it as " ++ entry_text e
git_text (Lines count) = codes "it as " ++ decimal count ++ codes " lines"

-- `<`, `>` or `@`
abbrev pub is_email_byte : ℕ → Bool
is_email_byte b = b == 60 || b == 62 || b == 64

-- what to do about an ignored text, unless it begins with `#` or has one of these bytes
unfoldable pub cure_text : Text → Text
cure_text text = if is_comment text || list_any is_email_byte text then [] else codes " (an old name needs an email after it)"

-- what the line beside one without effect says
unfoldable pub says_text : Bool → Text
says_text true = codes " says the same"
says_text false = codes " says something else"

-- what a finding says
abbrev pub message_text : List Text → FindingKind → Text
message_text paths (fault f) = fault_text f.kind
message_text paths byte_order_mark = codes "byte order mark: delete it"
message_text paths (ignored_text text) = codes "ignored text: " ++ shortened text ++ cure_text text
message_text paths comment_in_line =
    codes "the name begins with #, which begins a comment only as the first byte of a line"
message_text paths (git_reads reading) = codes "git reads " ++ git_text reading
message_text paths (no_effect beside is_same) =
    codes "no effect: " ++ position_text paths beside.buffer beside.line ++ says_text is_same
message_text paths (itself_mapped c to line second) = contact_text c ++ codes " is itself mapped, to "
    ++ contact_text to ++ codes " by " ++ positions_text paths (line ∷ option_to_list second)
    ++ alike_text (unwrap_or c.name []) (unwrap_or to.name [])

-- the other line that it refers to, the first one if there are two
abbrev pub referred_line : List Text → FindingKind → Option FileLine
referred_line paths (no_effect beside is_same) = Some (place_at paths beside.buffer beside.line)
referred_line paths (itself_mapped c to line second) = Some (place_at paths line.buffer line.line)
referred_line paths _ = None

-- ---- the names, emails and numbers that findings have

abbrev pub named_contact : NewContact → Named
named_contact c = record { name = c.name; email = Some c.email; count = None }

-- of what git reads, the new name and email, or the number of lines
abbrev pub named_by_git : GitReading → Named
named_by_git Nothing = no_name
named_by_git (Entry e) = record { name = e.new_name; email = e.new_email; count = None }
named_by_git (Lines count) = record { name = None; email = None; count = Some count }

-- and the old ones
abbrev pub beside_by_git : GitReading → Option Named
beside_by_git (Entry e) = Some (record { name = e.old_name; email = Some e.old_email; count = None })
beside_by_git _ = None

abbrev pub named_in : FindingKind → Named
named_in (git_reads reading) = named_by_git reading
named_in (itself_mapped c to line second) = named_contact c
named_in _ = no_name

abbrev pub beside_in : FindingKind → Option Named
beside_in (git_reads reading) = beside_by_git reading
beside_in (itself_mapped c to line second) = Some (named_contact to)
beside_in _ = None

-- ---- notices of findings

abbrev pub finding_notice : List Text → Finding → Notice
finding_notice paths f = record {
  kind = finding_kind f.kind;
  place = place_at paths f.position.buffer f.position.line;
  message = message_text paths f.kind;
  other = referred_line paths f.kind;
  named = named_in f.kind;
  beside = beside_in f.kind;
}

-- a notice, before escapes
abbrev pub notice_text : Notice → Text
notice_text n = place_text n.place ++ codes ": " ++ level_name (kind_level n.kind) ++ codes ": "
    ++ n.message ++ codes " [" ++ kind_name n.kind ++ codes "]"

-- GitHub takes `::` at the beginning of a line for a command, whatever white space is before it: then the first `:` is
-- escaped.
unfoldable pub shown_from_start : Text → Text
shown_from_start text = let rest = trim_start_by is_whitespace text in
    if starts_with (λ a b. a == b) rest (codes "::")
    then shown (take (length text - length rest) text) ++ (escaped_byte 58 ++ 58 ∷ []) ++ shown (drop 2 rest)
    else shown text

-- a line of output with escapes
abbrev pub shown_line : Text → Text
shown_line text = shown_from_start text ++ 10 ∷ []

-- ---- output in pieces, some of which are findings that count

pub record Piece : Type 0 where
  pub text : Text
  pub counts : Bool

-- the specification's view of a piece
abbrev pub piece_of : the_piece → Piece
piece_of p = record { text = p.text.items; counts = p.counts }

-- the text of pieces that are printed one after another
abbrev pub text_of : List Piece → Text
text_of pieces = flat_map (λ p. p.text) pieces

-- ---- the report

abbrev pub formatted : Format → Notice → Text
formatted Gcc n = shown_line (notice_text n)
formatted Json n = object_line n
formatted Github n = annotation_line n

-- as the format asks for; nothing if the kind is not reported
abbrev pub reported_text : Choices → Notice → Text
reported_text c n = if is_reported c n.kind then formatted (format_of c) n else []

abbrev pub notice_piece : Choices → Notice → Piece
notice_piece c n = record { text = reported_text c n; counts = counts c n.kind }

abbrev pub finding_piece : Choices → List Text → Finding → Piece
finding_piece c paths f = notice_piece c (finding_notice paths f)

abbrev pub report_pieces : Choices → List Text → List Finding → List Piece
report_pieces c paths findings = map (finding_piece c paths) findings

abbrev pub report : Choices → List Text → List Finding → Text
report c paths findings = text_of (report_pieces c paths findings)

-- ---- findings about contacts

-- how often something comes
abbrev pub count_text : ℕ → Text
count_text count = codes " (" ++ decimal count ++ 41 ∷ []

-- an answer with its texts shortened, and how often it comes
abbrev pub counted_contact : Tally → Text
counted_contact a = short_contact a.contact.name a.contact.email ++ count_text a.seen.count

abbrev pub likeness_text : Likeness → Text
likeness_text Email = codes " has the email of "
likeness_text Name = codes " has the name of "
likeness_text AlikeName = codes " has a name like "
likeness_text Login = codes " has a name like "

-- what a finding says, without its place, its level and its kind
abbrev pub contact_words : ContactFinding → Text
contact_words (no_contact line) = codes "no contact"
contact_words (shared_email email seen) = shortened email ++ codes " is the email of several people" ++ count_text seen.count
contact_words (is_like likeness a p) = counted_contact a ++ likeness_text likeness ++ counted_contact p
    ++ alike_text a.contact.name p.contact.name
contact_words (git_answers a) = codes "git answers " ++ short_contact a.contact.name a.contact.email

-- the first line with the answer that another is compared with
abbrev pub compared_line : Text → ContactFinding → Option FileLine
compared_line file (is_like likeness a p) = Some (record { file = file; line = p.seen.first_line })
compared_line file _ = None

abbrev pub named_tally : Tally → Named
named_tally a = record { name = Some a.contact.name; email = Some a.contact.email; count = Some a.seen.count }

abbrev pub named_contact_in : ContactFinding → Named
named_contact_in (no_contact line) = no_name
named_contact_in (shared_email email seen) = record { name = None; email = Some email; count = Some seen.count }
named_contact_in (is_like likeness a p) = named_tally a
named_contact_in (git_answers a) = named_tally a

abbrev pub compared_contact : ContactFinding → Option Named
compared_contact (is_like likeness a p) = Some (named_tally p)
compared_contact _ = None

-- `file` is the name of the file of contacts
abbrev pub contact_notice : Text → ContactFinding → Notice
contact_notice file f = record {
  kind = contact_kind f;
  place = record { file = file; line = first_line_of f };
  message = contact_words f;
  other = compared_line file f;
  named = named_contact_in f;
  beside = compared_contact f;
}

-- ---- the report with contacts

abbrev pub remark_notice : List Text → Remark → Notice
remark_notice paths (remark_found f) = finding_notice paths f
remark_notice paths (remark_unneeded p) = record {
  kind = kind.Unneeded;
  place = place_at paths p.buffer p.line;
  message = codes "no contact needs it";
  other = None;
  named = no_name;
  beside = None;
}

-- the remarks on the mailmaps, and after them the findings about the contacts
abbrev pub pieces_beside : Choices → List Text → Text → List Remark → List ContactFinding → List Piece
pieces_beside c paths file remarks found =
    map (λ r. notice_piece c (remark_notice paths r)) remarks ++ map (λ f. notice_piece c (contact_notice file f)) found
