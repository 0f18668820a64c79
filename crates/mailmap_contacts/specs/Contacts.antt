-- The contacts of a history, the answers to them, and how often each of these comes.
use Rattle.std.specs.Prelude.{◌≡◌, ◌+◌, ◌&&◌, ℕ, Bool, true, false, if◌then◌else◌, List, [], ◌∷◌, ◌++◌, Option, None, Some, map, min, unwrap_or}
use Rattle.std.specs.Prelude.{filter, is_none, not}
use Rattle.std.specs.List.{AllByRecursion, Contains}
use Rattle.std.specs.List.Sorted.{IsStrictlySortedBy}
use Rattle.std.specs.Ordering.{ordering_then}
use Rattle.std.specs.Str.{bytes_eq}
use Rattle.std.specs.declared.cmp.Ordering.{Ordering}
use Rattle.mailmap_entries.specs.Entries.{Mapping}
use Rattle.mailmap_entries.specs.Folding.{Text, text_cmp}
use Rattle.mailmap_entries.specs.Semantics.{fields_for}
use Rattle.mailmap_grammar.specs.Lines.{ParsedContact, Absent, Unclosed, Closed, contact_in, cut}
use Rattle.mailmap_grammar.specs.Trimming.{trim}
use Rattle.mailmap_contacts.specs.declared.occurrences.Occurrences.{Occurrences}

abbrev pub has_text : Text → Bool
has_text [] = false
has_text (b ∷ s) = true

-- a name and an email, byte for byte
pub record Contact : Type 0 where
  pub name : Text
  pub email : Text

abbrev pub same_contact : Contact → Contact → Bool
same_contact a b = bytes_eq a.name b.name && bytes_eq a.email b.email

-- by name, then by email, byte by byte
abbrev pub contact_cmp : Contact → Contact → Ordering
contact_cmp a b = ordering_then (text_cmp a.name b.name) (text_cmp a.email b.email)

-- a contact, or an answer, with its occurrences
pub record Tally : Type 0 where
  pub contact : Contact
  pub seen : Occurrences

-- ---- the contacts of a history

-- the contact at the start of a line, if there is one
abbrev pub contact_on : ParsedContact → Option Contact
contact_on Absent = None
contact_on Unclosed = None
contact_on (Closed name email rest) = Some (record { name = name; email = email })

-- once, on the line with this number
abbrev pub once : ℕ → Occurrences
once number = record { count = 1; first_line = number }

-- the tally of a contact with these occurrences, if there is a contact
abbrev pub tally_on : Option Contact → Occurrences → List Tally
tally_on None seen = []
tally_on (Some c) seen = record { contact = c; seen = seen } ∷ []

-- the contact on the line with this number, if there is one
abbrev pub line_tally : ℕ → Text → List Tally
line_tally number line = tally_on (contact_on (contact_in line)) (once number)

-- the contacts on lines, the first of which has this number
abbrev pub contacts_from : ℕ → List Text → List Tally
contacts_from number [] = []
contacts_from number (line ∷ rest) = line_tally number line ++ contacts_from (number + 1) rest

-- ---- the contacts as they are

-- the texts before the brackets of a line and in them
abbrev pub raw_contact : Text → Option Contact
raw_contact line = contact_on (cut line)

abbrev pub raw_line_tally : ℕ → Text → List Tally
raw_line_tally number line = tally_on (raw_contact line) (once number)

abbrev pub raw_contacts_from : ℕ → List Text → List Tally
raw_contacts_from number [] = []
raw_contacts_from number (line ∷ rest) = raw_line_tally number line ++ raw_contacts_from (number + 1) rest

-- without the white space around its texts
abbrev pub trimmed : Contact → Contact
trimmed c = record { name = trim c.name; email = trim c.email }

-- a contact that is read in some way, where it comes as it is
abbrev pub read_by : (Contact → Contact) → Tally → Tally
read_by read t = record { contact = read t.contact; seen = t.seen }

-- ---- lines without a contact

-- the number of a line that is neither blank nor a contact
abbrev pub unless_contact : ℕ → Text → List ℕ
unless_contact number line = if has_text (trim line) && is_none (contact_on (contact_in line)) then number ∷ [] else []

-- the numbers of all such lines, the first of which has this number
abbrev pub no_contacts_from : ℕ → List Text → List ℕ
no_contacts_from number [] = []
no_contacts_from number (line ∷ rest) = unless_contact number line ++ no_contacts_from (number + 1) rest

-- ---- answers

-- the name and the email that a mailmap's mappings replace a contact's with
abbrev pub answer_to : List Mapping → Contact → Contact
answer_to h c = record {
  name = unwrap_or (fields_for h c.name c.email).name c.name;
  email = unwrap_or (fields_for h c.name c.email).email c.email;
}

-- its answer comes where the contact comes
abbrev pub answered : List Mapping → Tally → Tally
answered h t = record { contact = answer_to h t.contact; seen = t.seen }

-- the answers to the contacts on lines
abbrev pub answers_to : List Mapping → List Text → List Tally
answers_to h lines = map (answered h) (contacts_from 1 lines)

-- ---- tallies

-- the occurrences of both together
abbrev pub sum_of : Occurrences → Occurrences → Occurrences
sum_of a b = record { count = a.count + b.count; first_line = min a.first_line b.first_line }

abbrev pub both_seen : Option Occurrences → Option Occurrences → Option Occurrences
both_seen None b = b
both_seen (Some a) None = Some a
both_seen (Some a) (Some b) = Some (sum_of a b)

-- the occurrences of all contacts that pass a test together; `None` if none passes
abbrev pub seen_where : (Contact → Bool) → List Tally → Option Occurrences
seen_where test [] = None
seen_where test (t ∷ ts) = both_seen (if test t.contact then Some t.seen else None) (seen_where test ts)

-- `tallies` has each distinct contact of `ts` once, with how often it comes there and its first line, and no other
pub record AreTallies (ts tallies : List Tally) : Type 0 where
  pub every : (t : Tally) → Contains ts t → Contains (map (λ a. a.contact) tallies) t.contact
  pub each : AllByRecursion (λ a. seen_where (same_contact a.contact) ts ≡ Some a.seen) tallies
  pub distinct : IsStrictlySortedBy contact_cmp (map (λ a. a.contact) tallies)

-- each distinct contact once, with all its occurrences, in the order of first occurrence
abbrev pub tallied : List Tally → List Tally
tallied [] = []
tallied (t ∷ ts) = record {
  contact = t.contact;
  seen = unwrap_or (seen_where (same_contact t.contact) (t ∷ ts)) t.seen;
} ∷ filter (λ u. not (same_contact t.contact u.contact)) (tallied ts)
