-- The entries that mailmaps lack for contacts: those by which all answers of a group are one.
use Rattle.std.specs.Prelude.{◌≡◌, ◌≢◌, ◌&&◌, ◌++◌, Bool, false, true, not, if◌then◌else◌, List, [], ◌∷◌, map}
use Rattle.std.specs.Prelude.{Option, None, Some, bytes_eq, filter}
use Rattle.std.specs.List.{AllByRecursion, Contains, flat_map, list_any}
use Rattle.mailmap_contacts.specs.Contacts.{Contact, Tally, answer_to}
use Rattle.mailmap_entries.specs.Entries.{Mapping}
use Rattle.mailmap_entries.specs.Folding.{Text, folded}
use Rattle.mailmap_grammar.specs.CanonicalText.{IsWritableEmail, IsWritableName}
use Rattle.mailmap_contacts.specs.Proper.{comes_more, has_text, proper}
use Rattle.mailmap_suggestions.specs.Counted.{counted_answers}
use Rattle.mailmap_suggestions.specs.EntryLines.{is_cut_by_git}
use Rattle.mailmap_suggestions.specs.Forms.{Histories, IsAnswered, alike, are_answered, distinct, entries_to}
use Rattle.mailmap_suggestions.specs.Forms.{git_answer_to, is_shared}

abbrev pub contacts : List Tally → List Contact
contacts ts = map (λ t. t.contact) ts

-- ---- groups

-- An answer has a class; answers with one class are in a group, and one with an empty class is in none.

-- by its email, ASCII case aside, if not several people share it
abbrev pub email_class : List Text → Contact → Text
email_class shared a = if is_shared shared a.email then [] else folded a.email

-- whether this library and git answer all of them alike
abbrev pub are_alike : Histories → List Contact → Bool
are_alike h [] = true
are_alike h (c ∷ cs) = are_answered h (answer_to h.ours c) (c ∷ cs)

-- the classes of the answers, in the order of first occurrence
abbrev pub classes : (Contact → Text) → Histories → List Contact → List Text
classes class h cs = distinct (filter (λ k. not (bytes_eq k [])) (map (λ c. class (answer_to h.ours c)) cs))

-- the contacts whose answers have a class
abbrev pub members : (Contact → Text) → Histories → List Tally → Text → List Tally
members class h ts k = filter (λ t. bytes_eq k (class (answer_to h.ours t.contact))) ts

-- those with one class that aren't all answered alike
abbrev pub groups : (Contact → Text) → Histories → List Tally → List (List Tally)
groups class h ts = filter (λ g. not (are_alike h (contacts g)))
    (map (members class h ts) (classes class h (contacts ts)))

-- whether a contact is in such a group
abbrev pub is_grouped : (Contact → Text) → Histories → List Tally → Contact → Bool
is_grouped class h ts c =
    let k = class (answer_to h.ours c) in
    not (bytes_eq k []) && not (are_alike h (contacts (members class h ts k)))

-- ---- the proper answer of a group

abbrev pub nobody : Contact
nobody = record { name = []; email = [] }

abbrev pub contact_or_nobody : Option Tally → Contact
contact_or_nobody None = nobody
contact_or_nobody (Some t) = t.contact

-- the first of two lists that isn't empty
abbrev pub or_else : List Tally → List Tally → List Tally
or_else [] bs = bs
or_else (a ∷ rest) bs = a ∷ rest

-- the answers with a name whose email is of one person
abbrev pub of_one_person : List Text → List Tally → List Tally
of_one_person shared answers =
    filter (λ a. has_text a.contact.name && not (is_shared shared a.contact.email)) answers

-- Of these; or of those with a name, or of all if none has one: the one that comes most often, of several the first.
abbrev pub proper_answer : List Text → Histories → List Tally → Contact
proper_answer shared h g =
    let answers = counted_answers h g in
    contact_or_nobody (proper (or_else (of_one_person shared answers) answers))

-- the answers of which it is chosen
abbrev pub candidates : List Text → List Tally → List Tally
candidates shared answers =
    or_else (of_one_person shared answers) (or_else (filter (λ a. has_text a.contact.name) answers) answers)

-- the contact of one of these tallies: none of them comes more often, or as often and first on an earlier line
pub record IsMostFrequent (ts : List Tally) (c : Contact) : Type 0 where
  pub best : Tally
  pub among : Contains ts best
  pub same : best.contact ≡ c
  pub most : AllByRecursion (λ t. comes_more t.seen best.seen ≡ false) ts

-- ---- entries

-- by which all contacts of a group get its proper answer
abbrev pub wanted_entries : List Text → Histories → Histories → List Tally → List Mapping
wanted_entries shared base h g = entries_to shared base (proper_answer shared h g) (contacts g)

-- whether git would cut one of their lines
abbrev pub are_cut : List Mapping → Bool
are_cut es = list_any is_cut_by_git es

-- The entries for a group: none if git would cut one. They are made for the answers of `base`, without other
-- suggestions that somebody may reject; the groups and their proper answers are those of `h`.
abbrev pub group_entries : List Text → Histories → Histories → List Tally → List Mapping
group_entries shared base h g =
    let es = wanted_entries shared base h g in
    if are_cut es then [] else es

abbrev pub all_entries : List Text → (Contact → Text) → Histories → Histories → List Tally → List Mapping
all_entries shared class base h ts = flat_map (group_entries shared base h) (groups class h ts)

-- for answers with an email that one person has
abbrev pub email_entries : List Text → Histories → List Tally → List Mapping
email_entries shared h ts = all_entries shared (email_class shared) h h ts

-- ---- some of the groups

-- the class if it passes a test, so that the groups of the others are none
abbrev pub only : (Text → Bool) → (Contact → Text) → Contact → Text
only passes class a = if passes (class a) then class a else []

-- without the groups of which git would cut a line
abbrev pub uncut : List Text → (Contact → Text) → Histories → Histories → List Tally → Contact → Text
uncut shared class base h ts =
    only (λ k. not (are_cut (wanted_entries shared base h (members class h ts k)))) class

-- by its email, if one person has it and git would cut no line for it
abbrev pub uncut_email_class : List Text → List Mapping → List Tally → Contact → Text
uncut_email_class shared h ts = uncut shared (email_class shared) (alike h) (alike h) ts

-- mailmaps that git reads as this library does, with entries appended: those for emails, and those for some classes
abbrev pub with_emails : List Text → List Mapping → List Tally → List Mapping
with_emails shared h ts = h ++ email_entries shared (alike h) ts

abbrev pub with_classes : List Text → (Contact → Text) → List Mapping → List Tally → List Mapping
with_classes shared class h ts = h ++ all_entries shared class (alike h) (alike h) ts

-- ---- what they do

-- as in each entry that is read from a line
abbrev pub HasNoEmptyName : Mapping → Type 0
HasNoEmptyName e = e.new_name ≢ Some []

-- the answers to two contacts are the same if they have one class
abbrev pub Agree : (Contact → Text) → List Mapping → Contact → Contact → Type 0
Agree class g b c = class (answer_to g b) ≡ class (answer_to g c) → class (answer_to g c) ≢ []
    → answer_to g b ≡ answer_to g c

abbrev pub AllAgree : (Contact → Text) → List Mapping → List Contact → Type 0
AllAgree class g cs = AllByRecursion (λ b. AllByRecursion (Agree class g b) cs) cs

-- by the mappings g, the proper answer of those with its class is the answer to a contact with a class; git's, too
abbrev pub GetsProper : List Text → (Contact → Text) → List Mapping → List Tally → List Mapping → Contact → Type 0
GetsProper shared class h ts g c =
    let k = class (answer_to h c) in
    k ≢ [] → IsAnswered g (proper_answer shared (alike h) (members class (alike h) ts k)) c

-- The mappings g answer the contacts as h does, but those with a class by the proper answer of all with this class. So
-- no two answers have one class and differ.
pub record Unites (shared : List Text) (class : Contact → Text) (h : List Mapping) (ts : List Tally) (g : List Mapping)
    : Type 0 where
  pub proper : AllByRecursion (GetsProper shared class h ts g) (contacts ts)
  pub others : AllByRecursion (λ c. is_grouped class (alike h) ts c ≡ false
      → (answer_to g c ≡ answer_to h c) × (git_answer_to g c ≡ git_answer_to h c)) (contacts ts)
  pub distinct : AllAgree class g (contacts ts)

-- as in each contact that is read from a line
pub record IsWritableContact (c : Contact) : Type 0 where
  pub name : c.name ≢ [] → IsWritableName c.name
  pub email : IsWritableEmail c.email
