-- How the lines of a mailmap are parsed.
use Rattle.std.specs.List.{AllByRecursion, flat_map}
use Rattle.std.specs.Result.{result_ok}
use Rattle.std.specs.Prelude.{◌≡◌, ◌≢◌, ◌⊎◌, ◌+◌, ◌≤◌, ◌==◌, ℕ, if◌then◌else◌, Bool, false, Option, Some, None, option_map}
use Rattle.std.specs.Prelude.{option_to_list, Result, Ok, Err, List, [], ◌∷◌, ◌++◌, length}
use Rattle.mailmap_entries.specs.declared.entry.Entry.{Entry}
use Rattle.mailmap_grammar.specs.declared.lines.Error.{Error}
use Rattle.mailmap_grammar.specs.declared.lines.Error.TheVariants.{NoEmail, MissingClosingBracket, EmptyEmail}
use Rattle.mailmap_grammar.specs.declared.lines.Error.TheVariants.{NothingToMap, UnclosedSecond}
use Rattle.mailmap_grammar.specs.declared.contacts.ParsedContact as the_contact
use Rattle.mailmap_grammar.specs.declared.contacts.ParsedContact.TheVariants as variant
use Rattle.mailmap_grammar.specs.declared.trailing.WithTrailing.{WithTrailing}
use Rattle.mailmap_grammar.specs.declared.lines.Strictness.{Strictness}
use Rattle.mailmap_grammar.specs.declared.lines.Strictness.TheVariants.{Lenient, Strict}
use Rattle.mailmap_entries.specs.Folding.{Text}
use Rattle.mailmap_entries.specs.Entries.{Mapping, mapping_of}
use Rattle.mailmap_grammar.specs.Trimming.{trim, IsTrimmed}

-- the five faults; the last one comes only from strict parsing
pub data FaultKind : Type 0 where
  no_email : FaultKind
  missing_closing_bracket : FaultKind
  empty_email : FaultKind
  nothing_to_map : FaultKind
  unclosed_second : FaultKind

-- a fault, the number of its line, and its input: the trimmed line, or for an unclosed second contact the text after
-- the first `>`
pub record Fault : Type 0 where
  pub kind : FaultKind
  pub line : ℕ
  pub input : Text

-- the fault that a value of the type `Error` represents
abbrev pub fault_of : Error → Fault
fault_of (NoEmail line input) = record { kind = no_email; line = line; input = input.now }
fault_of (MissingClosingBracket line input) = record { kind = missing_closing_bracket; line = line; input = input.now }
fault_of (EmptyEmail line input) = record { kind = empty_email; line = line; input = input.now }
fault_of (NothingToMap line input) = record { kind = nothing_to_map; line = line; input = input.now }
fault_of (UnclosedSecond line input) = record { kind = unclosed_second; line = line; input = input.now }

-- what a line parses to: a mapping or a fault
abbrev pub Reading : Type 0
Reading = Result Mapping Fault

-- the reading that an item of a line iterator represents
abbrev pub reading_of : Result Entry Error → Reading
reading_of (Ok e) = Ok (mapping_of e)
reading_of (Err e) = Err (fault_of e)

-- the reading that an item represents if its trailing text is ignored
abbrev pub reading_with_trailing : Result WithTrailing Error → Reading
reading_with_trailing (Ok w) = Ok (mapping_of w.entry)
reading_with_trailing (Err e) = Err (fault_of e)

-- the text before the first byte b and the text after it, or None without b
unfoldable pub split_once : ℕ → Text → Option (Text × Text)
split_once b [] = None
split_once b (c ∷ s) = if c == b then Some ([], s) else option_map (λ p. (c ∷ p.0, p.1)) (split_once b s)

-- a text split at its first `<` and the first `>` after it: the parts before, between and after
pub data ParsedContact : Type 0 where
  Absent : ParsedContact
  Unclosed : ParsedContact
  Closed : Text → Text → Text → ParsedContact

-- the two steps of `cut`: split at `>` after the `<`, and split at `<`
abbrev pub cut_at_closing : Text → Option (Text × Text) → ParsedContact
cut_at_closing a None = Unclosed
cut_at_closing a (Some p) = Closed a p.0 p.1

abbrev pub cut_at_opening : Option (Text × Text) → ParsedContact
cut_at_opening None = Absent
cut_at_opening (Some p) = cut_at_closing p.0 (split_once 62 p.1)

-- splits a text at the first `<` and the first `>` after it; IsCut, IsUnclosed and HoldsNo describe the three results
abbrev pub cut : Text → ParsedContact
cut s = cut_at_opening (split_once 60 s)

abbrev pub non_empty : Text → Option Text
non_empty [] = None
non_empty (b ∷ s) = Some (b ∷ s)

-- the contact with its name and its email trimmed
abbrev pub trimmed_contact : ParsedContact → ParsedContact
trimmed_contact Absent = Absent
trimmed_contact Unclosed = Unclosed
trimmed_contact (Closed a b c) = Closed (trim a) (trim b) c

-- the contact at the start of a line, which is trimmed first
abbrev pub contact_in : Text → ParsedContact
contact_in line = trimmed_contact (cut (trim line))

-- the text after the last email that counts, which is that of the second contact if `rest` has one
abbrev pub after_second : Text → ParsedContact → Text
after_second rest Absent = rest
after_second rest Unclosed = rest
after_second rest (Closed name email more) = more

abbrev pub trailing_text : ParsedContact → Text
trailing_text Absent = []
trailing_text Unclosed = []
trailing_text (Closed name email rest) = after_second rest (cut rest)

-- the contact that a value of the code's type represents
abbrev pub parsed_contact_of : the_contact.ParsedContact → ParsedContact
parsed_contact_of variant.Absent = Absent
parsed_contact_of variant.Unclosed = Unclosed
parsed_contact_of (variant.Closed name email rest) = Closed name.now email.now rest.now

abbrev pub fault : FaultKind → ℕ → Text → Reading
fault kind line input = Err (record { kind = kind; line = line; input = input })

-- what a line with two contacts maps; an empty name counts as missing
abbrev pub by_both : Text → Text → Text → Text → Mapping
by_both name email old_name old_email = record {
  new_name = non_empty name;
  new_email = Some email;
  old_name = non_empty old_name;
  old_email = old_email;
}

-- what a name and an email map: commits with this email get the name
abbrev pub by_name : Text → Text → Mapping
by_name name email = record { new_name = Some name; new_email = None; old_name = None; old_email = email }

-- what a line with this name and email in its first contact parses to, depending on its second contact
abbrev pub two_contacts : ℕ → Text → Text → Text → ParsedContact → Reading
two_contacts n t [] email Absent = fault nothing_to_map n t
two_contacts n t [] email Unclosed = fault nothing_to_map n t
two_contacts n t (b ∷ name) email Absent = Ok (by_name (b ∷ name) email)
two_contacts n t (b ∷ name) email Unclosed = Ok (by_name (b ∷ name) email)
two_contacts n t name email (Closed old_name old_email rest) = Ok (by_both name email old_name old_email)

-- strict parsing: a second `<` without its `>` is a fault, with the rest of the line as input
abbrev pub strict_contacts : ℕ → Text → Text → Text → Text → ParsedContact → Reading
strict_contacts n t name email rest Absent = two_contacts n t name email Absent
strict_contacts n t name email rest Unclosed = fault unclosed_second n rest
strict_contacts n t name email rest (Closed a b c) = two_contacts n t name email (Closed a b c)

-- what a line parses to by its first contact; `both` parses the rest if that contact has an email
abbrev pub first_contact : (Text → Text → Text → Reading) → ℕ → Text → ParsedContact → Reading
first_contact both n t Absent = fault no_email n t
first_contact both n t Unclosed = fault missing_closing_bracket n t
first_contact both n t (Closed name [] rest) = fault empty_email n t
first_contact both n t (Closed name (b ∷ email) rest) = both name (b ∷ email) rest

-- what the trimmed line t parses to as line n
abbrev pub line_reading : ℕ → Text → Reading
line_reading n t = first_contact (λ name email rest. two_contacts n t name email (trimmed_contact (cut rest))) n t
    (trimmed_contact (cut t))

-- what t parses to in strict parsing
abbrev pub strict_line_reading : ℕ → Text → Reading
strict_line_reading n t = first_contact
    (λ name email rest. strict_contacts n t name email rest (trimmed_contact (cut rest))) n t (trimmed_contact (cut t))

-- a comment begins with `#`
abbrev pub is_comment : Text → Bool
is_comment [] = false
is_comment (b ∷ s) = b == 35

-- what a trimmed line parses to by `parse`, None if the line is empty
abbrev pub unless_blank : (ℕ → Text → Reading) → ℕ → Text → Option Reading
unless_blank parse n [] = None
unless_blank parse n (b ∷ t) = Some (parse n (b ∷ t))

-- what a line parses to if `parse` parses trimmed lines; None for a comment and for a blank line
abbrev pub reading_by : (ℕ → Text → Reading) → ℕ → Text → Option Reading
reading_by parse n line = if is_comment line then None else unless_blank parse n (trim line)

-- what a line parses to as line n
abbrev pub reading : ℕ → Text → Option Reading
reading = reading_by line_reading

abbrev pub strict_reading : ℕ → Text → Option Reading
strict_reading = reading_by strict_line_reading

-- how trimmed lines are read with this strictness
abbrev pub line_reader : Strictness → ℕ → Text → Reading
line_reader Lenient = line_reading
line_reader Strict = strict_line_reading

-- the readings of lines if `read` reads one line, and the first of them is line n
unfoldable pub readings_from : (ℕ → Text → Option Reading) → ℕ → List Text → List Reading
readings_from read n [] = []
readings_from read n (l ∷ ls) = option_to_list (read n l) ++ readings_from read (n + 1) ls

-- puts one more byte in front of the first piece
abbrev pub with_first : ℕ → List Text → List Text
with_first b [] = (b ∷ []) ∷ []
with_first b (p ∷ ps) = (b ∷ p) ∷ ps

-- the lines of a buffer: the texts between its line feeds, but no empty one at the end
unfoldable pub pieces : Text → List Text
pieces [] = []
pieces (b ∷ s) = if b == 10 then [] ∷ pieces s else with_first b (pieces s)

-- these bytes begin with `count` lines that are comments or blank, and the rest comes after them
pub record Skips (bytes rest : Text) (count : ℕ) : Type 0 where
  pub within : count + length rest ≤ length bytes
  pub none_read : (parse : ℕ → Text → Reading) (n : ℕ) → readings_from (reading_by parse) n (pieces bytes)
      ≡ readings_from (reading_by parse) (n + count) (pieces rest)

-- lines, each followed by a line feed
abbrev pub with_line_feeds : List Text → Text
with_line_feeds ls = flat_map (λ l. l ++ 10 ∷ []) ls

-- the readings of a buffer; its lines are numbered from 1, and comments and blank lines count
abbrev pub readings : Text → List Reading
readings buf = readings_from reading 1 (pieces buf)

abbrev pub strict_readings : Text → List Reading
strict_readings buf = readings_from strict_reading 1 (pieces buf)

-- the mappings among the readings
unfoldable pub mappings_in : List Reading → List Mapping
mappings_in [] = []
mappings_in (r ∷ rs) = option_to_list (result_ok r) ++ mappings_in rs

-- the mappings of a buffer's lines, in order, without the faults
abbrev pub mappings_of : Text → List Mapping
mappings_of buf = mappings_in (readings buf)

-- b doesn't occur in the text
abbrev pub HoldsNo : ℕ → Text → Type 0
HoldsNo b = AllByRecursion (λ x. x ≢ b)

-- ls are the lines of s: none contains a line feed, and each followed by a line feed they are s; the last line, if it
-- is not empty, needs no line feed
pub record ArePieces (s : Text) (ls : List Text) : Type 0 where
  pub no_feed : AllByRecursion (HoldsNo 10) ls
  pub whole : (s ≡ with_line_feeds ls) ⊎ ((front : List Text) × (last : Text) × (ls ≡ front ++ last ∷ []) × (last ≢ [])
      × (s ≡ with_line_feeds front ++ last))

-- s is a, `<`, b, `>` and c, where the `<` is the first one, and the `>` the first one after it
pub record IsCut (s a b c : Text) : Type 0 where
  pub whole : s ≡ a ++ 60 ∷ (b ++ 62 ∷ c)
  pub no_opening : HoldsNo 60 a
  pub no_closing : HoldsNo 62 b

-- s has a `<`, and no `>` after the first one
pub record IsUnclosed (s : Text) : Type 0 where
  pub before : Text
  pub after : Text
  pub whole : s ≡ before ++ 60 ∷ after
  pub no_opening : HoldsNo 60 before
  pub no_closing : HoldsNo 62 after

-- s begins with a contact, whose trimmed name and email these are; rest is the text after its `>`
pub record IsContact (s name email rest : Text) : Type 0 where
  pub before : Text
  pub between : Text
  pub is_cut : IsCut s before between rest
  pub is_name : IsTrimmed before name
  pub is_email : IsTrimmed between email

-- s has no such contact: no `<`, or no `>` after the first one
abbrev pub NoContact : Text → Type 0
NoContact s = HoldsNo 60 s ⊎ IsUnclosed s

-- r is what line n, trimmed t, parses to if its first contact has this name and email: there is a second contact, or
-- only a name, or neither
pub data IsSecondRead (n : ℕ) (t name email rest : Text) (r : Reading) : Type 0 where
  second : (old_name old_email tail : Text) → IsContact rest old_name old_email tail
      → r ≡ Ok (by_both name email old_name old_email) → IsSecondRead n t name email rest r
  name_alone : NoContact rest → name ≢ [] → r ≡ Ok (by_name name email) → IsSecondRead n t name email rest r
  neither : NoContact rest → name ≡ [] → r ≡ fault nothing_to_map n t → IsSecondRead n t name email rest r

-- strict parsing: a second contact without `>` is a fault with the rest as input
pub data IsSecondReadStrictly (n : ℕ) (t name email rest : Text) (r : Reading) : Type 0 where
  open_second : IsUnclosed rest → r ≡ fault unclosed_second n rest → IsSecondReadStrictly n t name email rest r
  as_lenient : (IsUnclosed rest → ⊥) → IsSecondRead n t name email rest r → IsSecondReadStrictly n t name email rest r

-- r is what line n, trimmed t, parses to, if Second describes this for lines whose first contact has an email
pub data IsFirstRead (Second : Text → Text → Text → Reading → Type 0) (n : ℕ) (t : Text) (r : Reading) : Type 0 where
  no_bracket : HoldsNo 60 t → r ≡ fault no_email n t → IsFirstRead Second n t r
  open_first : IsUnclosed t → r ≡ fault missing_closing_bracket n t → IsFirstRead Second n t r
  blank_email : (name rest : Text) → IsContact t name [] rest → r ≡ fault empty_email n t → IsFirstRead Second n t r
  first : (name email rest : Text) → IsContact t name email rest → email ≢ [] → Second name email rest r
      → IsFirstRead Second n t r

abbrev pub IsComment : Text → Type 0
IsComment line = (after : Text) × (line ≡ 35 ∷ after)

-- o is what a line parses to, or None, if Parses describes this for its trimmed text
pub data IsReadBy (Parses : Text → Reading → Type 0) (line : Text) (o : Option Reading) : Type 0 where
  comment : IsComment line → o ≡ None → IsReadBy Parses line o
  blank : (IsComment line → ⊥) → IsTrimmed line [] → o ≡ None → IsReadBy Parses line o
  non_blank : (t : Text) (r : Reading) → (IsComment line → ⊥) → IsTrimmed line t → t ≢ [] → Parses t r → o ≡ Some r
      → IsReadBy Parses line o

-- what the line parses to as line n, by cases; each line is exactly one of them
abbrev pub IsRead : ℕ → Text → Option Reading → Type 0
IsRead n = IsReadBy (λ t. IsFirstRead (IsSecondRead n t) n t)

-- the cases of strict parsing
abbrev pub IsReadStrictly : ℕ → Text → Option Reading → Type 0
IsReadStrictly n = IsReadBy (λ t. IsFirstRead (IsSecondReadStrictly n t) n t)

-- the line numbers of the faults
unfoldable pub fault_lines : List Reading → List ℕ
fault_lines [] = []
fault_lines (Ok m ∷ rs) = fault_lines rs
fault_lines (Err f ∷ rs) = f.line ∷ fault_lines rs
