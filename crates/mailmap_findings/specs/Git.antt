-- git's grammar for a line of a mailmap, and where its reading differs from this library's.
use Rattle.std.specs.Prelude.{◌==◌, ◌||◌, ℕ, Bool, if◌then◌else◌, Option, Some, None, List, [], ◌∷◌, length, unwrap_or}
use Rattle.std.specs.List.{filter_map}
use Rattle.std.specs.Option.{option_and_then, option_map, option_to_list}
use Rattle.std.specs.Simd.{first_chunks}
use Rattle.std.specs.Slice.Iter.{chunk_count}
use Rattle.bstr.specs.Trim.{trim_start_by, trim_end_by}
use Rattle.mailmap_entries.specs.Folding.{Text}
use Rattle.mailmap_entries.specs.Entries.{Mapping, mapping_of}
use Rattle.mailmap_entries.specs.Listings.{same_entries}
use Rattle.mailmap_grammar.specs.Lines.{ParsedContact, Absent, Unclosed, Closed, cut, split_once, non_empty, by_both, by_name, is_comment}
use Rattle.mailmap_findings.specs.declared.git.GitReading as the_reading
use Rattle.mailmap_findings.specs.declared.git.GitReading.TheVariants as variant
use Rattle.mailmap_findings.specs.declared.git.GitContact as the_contact

-- space, tab, carriage return and line feed
abbrev pub is_git_space : ℕ → Bool
is_git_space b = b == 32 || (b == 9 || (b == 13 || b == 10))

unfoldable pub trim_name : Text → Text
trim_name s = trim_end_by is_git_space (trim_start_by is_git_space s)

-- a contact as git parses it: its name trimmed, its email not, and the text after the `>`
pub record GitContact : Type 0 where
  pub name : Text
  pub email : Text
  pub rest : Text

-- the specification's view of a contact
abbrev pub git_contact_of : the_contact.GitContact → GitContact
git_contact_of c = record { name = c.name.now; email = c.email.now; rest = c.rest.now }

-- from a text that was cut at its first `<` and the next `>`
abbrev pub git_contact : ParsedContact → Option GitContact
git_contact Absent = None
git_contact Unclosed = None
git_contact (Closed name email rest) = Some (record { name = trim_name name; email = email; rest = rest })

-- the entry of a first contact and, if there is one, a second; an email alone maps nothing
abbrev pub entry_of_both : GitContact → Option GitContact → Option Mapping
entry_of_both new None = option_map (λ name. by_name name new.email) (non_empty new.name)
entry_of_both new (Some old) = Some (by_both new.name new.email old.name old.email)

-- the first email can be blank but not empty
unfoldable pub entry_of_first : GitContact → Option Mapping
entry_of_first new = option_and_then (λ email. entry_of_both new (git_contact (cut new.rest))) (non_empty new.email)

abbrev pub up_to_zero : Text → Text
up_to_zero part = unwrap_or (option_map (λ p. p.0) (split_once 0 part)) part

unfoldable pub entry_of_text : Text → Option Mapping
entry_of_text text = if is_comment text then None else option_and_then entry_of_first (git_contact (cut text))

abbrev pub part_entry : Text → Option Mapping
part_entry part = entry_of_text (up_to_zero part)

-- parts of 1,023 bytes each; the last one has the rest
abbrev pub parts : Text → List Text
parts line = first_chunks 1023 (chunk_count (length line) 1023) line

-- the entries that git reads from a line, with or without its line feed
unfoldable pub git_entries : Text → List Mapping
git_entries line = filter_map part_entry (parts line)

-- what git reads from a line: no entry, one, or the number of several
pub data GitReading : Type 0 where
  Nothing : GitReading
  Entry : Mapping → GitReading
  Lines : ℕ → GitReading

abbrev pub git_reading : List Mapping → GitReading
git_reading [] = Nothing
git_reading (e ∷ []) = Entry e
git_reading (e ∷ f ∷ es) = Lines (length (e ∷ f ∷ es))

-- the specification's view of a reading
abbrev pub git_reading_of : the_reading.GitReading → GitReading
git_reading_of variant.Nothing = Nothing
git_reading_of (variant.Entry e) = Entry (mapping_of e)
git_reading_of (variant.Lines count) = Lines count

-- what git reads from the line if that isn't exactly this entry, or nothing if there is none; else None
abbrev pub read_in_place : Option Mapping → Text → Option GitReading
read_in_place own line =
    if same_entries (git_entries line) (option_to_list own) then None else Some (git_reading (git_entries line))
