-- How often each answer to contacts occurs, and the lines that show it.
use Rattle.std.specs.Prelude.{◌≡◌, ◌<◌, ℕ, Bool, if◌then◌else◌, Option, option_map, List, [], ◌∷◌, ◌++◌, Contains, codes, count_by, decimal, drop, length, map}
use Rattle.std.specs.List.{AllByRecursion, filter_map, flat_map}
use Rattle.std.specs.List.Sorted.{IsStrictlySortedBy}
use Rattle.std.specs.Ordering.{nat_cmp, ordering_then}
use Rattle.std.specs.Str.{bytes_eq}
use Rattle.std.specs.declared.cmp.Ordering.{Ordering}
use Rattle.bstr.specs.Text.{lines_of}
use Rattle.mailmap_snapshot.specs.Entries.{Mapping}
use Rattle.mailmap_snapshot.specs.Folding.{Text, text_cmp}
use Rattle.mailmap_snapshot.specs.Lines.{contact_in, mappings_of}
use Rattle.mailmap_contacts.specs.Contacts.{Contact, answer_to, contact_on}
use Rattle.shown_text.specs.Shown.{shown}

-- a text, and how often it occurs
pub record Counted : Type 0 where
  pub text : Text
  pub count : ℕ

-- a name alone, or with its email in brackets after a space, even if the name is empty
abbrev pub answer_text : Bool → Contact → Text
answer_text with_email c = if with_email then c.name ++ 32 ∷ 60 ∷ c.email ++ 62 ∷ [] else c.name

-- the text that a line counts for: that of the answer to its contact, if it has one
abbrev pub line_counted : Bool → List Mapping → Text → Option Text
line_counted with_email h line = option_map (λ c. answer_text with_email (answer_to h c)) (contact_on (contact_in line))

-- the answers to all contacts among the lines, with the mailmaps in the buffers
abbrev pub answers_counted : Bool → List Text → Text → List Text
answers_counted with_email buffers contacts =
    filter_map (line_counted with_email (flat_map mappings_of buffers)) (lines_of contacts)

-- how often a text occurs among others
abbrev pub times : Text → List Text → ℕ
times text texts = count_by (λ t. bytes_eq t text) texts

-- by ascending text
abbrev pub text_order : Counted → Counted → Ordering
text_order a b = text_cmp a.text b.text

-- by descending count, then by ascending text
abbrev pub count_order : Counted → Counted → Ordering
count_order a b = ordering_then (nat_cmp b.count a.count) (text_cmp a.text b.text)

abbrev pub order : Bool → Counted → Counted → Ordering
order by_count a b = if by_count then count_order a b else text_order a b

-- each text among the answers is listed once, with how often it occurs, and no other text is
pub record IsCountedList (by_count : Bool) (answers : List Text) (listed : List Counted) : Type 0 where
  pub every : (answer : Text) → Contains answers answer → Contains (map (λ c. c.text) listed) answer
  pub each : AllByRecursion (λ c. (c.count ≡ times c.text answers) × (0 < c.count)) listed
  pub in_order : IsStrictlySortedBy (order by_count) listed

-- a number, padded with spaces on the left to six columns
abbrev pub six_columns : ℕ → Text
six_columns n = drop (length (decimal n)) (codes "      ") ++ decimal n

-- the count, a tab, the text with escapes, and a line feed
abbrev pub counted_text : Counted → Text
counted_text c = six_columns c.count ++ 9 ∷ shown c.text ++ 10 ∷ []

-- the text has such a line for each distinct answer
abbrev pub IsShortlog : Bool → List Text → Text → Type 0
IsShortlog by_count answers text =
    (listed : List Counted) × IsCountedList by_count answers listed × (text ≡ flat_map counted_text listed)
