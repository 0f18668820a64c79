-- Where the entries and the faults of a mailmap are in its text.
use Rattle.std.specs.Prelude.{◌≡◌, ◌+◌, ◌-◌, ◌^◌, ◌⊎◌, ◌++◌, ◌∷◌, ℕ, min, List, [], Option, None, Some, Ok, Err, drop, length, option_map, option_to_list, take, unwrap_or}
use Rattle.std.specs.Char.{is_whitespace}
use Rattle.bstr.specs.Trim.{trim_start_by}
use Rattle.mailmap_entries.specs.Entries.{Mapping}
use Rattle.mailmap_entries.specs.Folding.{Text}
use Rattle.mailmap_findings.specs.Positions.{whole_lines}
use Rattle.mailmap_grammar.specs.Lines.{Absent, Closed, ParsedContact, Reading, Unclosed, cut, reading}
use Rattle.mailmap_grammar.specs.Trimming.{trim}
use Rattle.gix_mailmap_c.specs.Findings.{fault_number}
use Rattle.gix_mailmap_c.specs.declared.parsing.Cursor.{Cursor}
use Rattle.gix_mailmap_c.specs.declared.parsing.Parsed.{Parsed}
use Rattle.gix_mailmap_c.specs.declared.parsing.Place.{Place}
use Rattle.gix_mailmap_c.specs.declared.parsing.PlacedContact as declared
use Rattle.gix_mailmap_c.specs.declared.parsing.Places.{Places}
use Rattle.gix_mailmap_c.specs.declared.status.TheConstants.{NO_ENTRY, OK}

-- ---- the texts of an entry

-- what is left of a part of a text without the white space around it; the part begins at this offset
abbrev pub place_of : ℕ → Text → Place
place_of start part = record {
  start = start + (length part - length (trim_start_by is_whitespace part));
  len = length (trim part);
}

-- a contact: the places of its name and its email, and the text after it, which begins at the offset `end`
pub record PlacedContact : Type 0 where
  pub name : Place
  pub email : Place
  pub rest : Text
  pub end : ℕ

-- the specification's view of a contact
abbrev pub placed_of : declared.PlacedContact → PlacedContact
placed_of c = record { name = c.name; email = c.email; rest = c.rest.now; end = c.end }

-- the contact of a text that begins at this offset: its email comes after a `<`, and the rest after a `>`
abbrev pub placed_contact : ℕ → ParsedContact → Option PlacedContact
placed_contact start Absent = None
placed_contact start Unclosed = None
placed_contact start (Closed name email rest) = Some (record {
  name = place_of start name;
  email = place_of (start + length name + 1) email;
  rest = rest;
  end = start + length name + length email + 2;
})

abbrev pub nowhere : Place
nowhere = record { start = 0; len = 0 }

abbrev pub no_places : Places
no_places = record { new_name = nowhere; new_email = nowhere; old_name = nowhere; old_email = nowhere }

-- with one contact, its email is the old one; with two, the second one is the old one
abbrev pub with_second : PlacedContact → Option PlacedContact → Places
with_second first None = record no_places { new_name = first.name; old_email = first.email }
with_second first (Some second) = record {
  new_name = first.name;
  new_email = first.email;
  old_name = second.name;
  old_email = second.email;
}

abbrev pub with_first : Option PlacedContact → Places
with_first None = no_places
with_first (Some first) = with_second first (placed_contact first.end (cut first.rest))

-- the places of an entry's texts; its line, trimmed, begins at this offset
abbrev pub places_in : ℕ → Text → Places
places_in start line = with_first (placed_contact start (cut line))

-- ---- lines

-- a line with this number that begins at this offset, if this is what it is read as
abbrev pub parsed_reading : ℕ → ℕ → Text → Reading → Parsed
parsed_reading start number line (Ok entry) = record {
  line = number;
  kind = 0;
  text = place_of start line;
  places = places_in (place_of start line).start (trim line);
}
parsed_reading start number line (Err fault) = record {
  line = number;
  kind = fault_number fault.kind;
  text = place_of start line;
  places = no_places;
}

-- None for a comment and for a blank line
abbrev pub parsed_line : ℕ → ℕ → Text → Option Parsed
parsed_line start number line = option_map (parsed_reading start number line) (reading number line)

-- numbers of lines stop at the largest one
abbrev pub next_number : ℕ → ℕ
next_number lines = min (lines + 1) (2 ^ 64 - 1)

-- the entries and the faults of lines, the first of which begins at this offset and has so many lines before it
abbrev pub parsed_from : ℕ → ℕ → List Text → List Parsed
parsed_from start lines [] = []
parsed_from start lines (line ∷ rest) = option_to_list (parsed_line start (next_number lines) line)
    ++ parsed_from (start + length line) (next_number lines) rest

-- those of a mailmap from a cursor on
abbrev pub parsed_after : Text → Cursor → List Parsed
parsed_after mailmap at = parsed_from at.start at.lines (whole_lines (drop at.start mailmap))

-- this is the first one that is left, and the cursor is after it, or none is left, and nothing is changed
abbrev pub ParsesNext : Text → Cursor → Cursor → Parsed → Parsed → ℕ → Type 0
ParsesNext mailmap old new before after status =
    ((status ≡ OK) × (parsed_after mailmap old ≡ after ∷ parsed_after mailmap new))
    ⊎ ((status ≡ NO_ENTRY) × (parsed_after mailmap old ≡ []) × (new ≡ old) × (after ≡ before))

-- ---- what is at places

-- the part is in the text, and begins at this offset
pub record IsPartAt (text : Text) (start : ℕ) (part : Text) : Type 0 where
  pub before : Text
  pub after : Text
  pub whole : text ≡ before ++ (part ++ after)
  pub begins : length before ≡ start

abbrev pub text_at : Text → Place → Text
text_at mailmap p = take p.len (drop p.start mailmap)

-- the texts of the entry are at these places; one that it doesn't have is empty
pub record AreAt (mailmap : Text) (entry : Mapping) (p : Places) : Type 0 where
  pub new_name : text_at mailmap p.new_name ≡ unwrap_or entry.new_name []
  pub new_email : text_at mailmap p.new_email ≡ unwrap_or entry.new_email []
  pub old_name : text_at mailmap p.old_name ≡ unwrap_or entry.old_name []
  pub old_email : text_at mailmap p.old_email ≡ entry.old_email

abbrev pub HasTexts : Text → Reading → Parsed → Type 0
HasTexts mailmap (Ok entry) p = AreAt mailmap entry p.places
HasTexts mailmap (Err fault) p = text_at mailmap p.text ≡ fault.input

-- it is what a line is read as, and the texts of that are at its places
abbrev pub IsHeld : Text → Parsed → Type 0
IsHeld mailmap p = (line : Text) × (r : Reading) × (reading p.line line ≡ Some r) × HasTexts mailmap r p
