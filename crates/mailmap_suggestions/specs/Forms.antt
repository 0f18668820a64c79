-- What git answers to contacts, and the entries by which they get one answer.
use Rattle.std.specs.Prelude.{◌≡◌, Bool, ◌&&◌, ◌||◌, ◌++◌, not, if◌then◌else◌, is_some, Option, Some, None, List, []}
use Rattle.std.specs.Prelude.{◌∷◌}
use Rattle.std.specs.Prelude.{map, filter, bytes_eq, unwrap_or}
use Rattle.std.specs.List.{flat_map, list_all, list_any}
use Rattle.mailmap_entries.specs.Entries.{Mapping, mapping}
use Rattle.mailmap_entries.specs.Folding.{Text, folded}
use Rattle.mailmap_entries.specs.Semantics.{Fields, Key, last_fields, no_fields}
use Rattle.mailmap_contacts.specs.Contacts.{Contact, answer_to, same_contact}
use Rattle.mailmap_redundancy.specs.Origins.{git_answer_from}

-- the contact with its fields overridden
abbrev pub replaced : Fields → Contact → Contact
replaced f c = record { name = unwrap_or f.name c.name; email = unwrap_or f.email c.email }

-- git's answer
abbrev pub git_answer_to : List Mapping → Contact → Contact
git_answer_to h c = replaced (unwrap_or (git_answer_from h c.name c.email) no_fields) c

-- the key of entries that have the contact's name and email as their old ones
abbrev pub own_key : Contact → Key
own_key c = (folded c.email, Some (folded c.name))

-- ---- the entries of mailmaps

-- as this library reads them, and as git does
pub record Histories : Type 0 where
  pub ours : List Mapping
  pub gits : List Mapping

-- of mailmaps that both read alike
abbrev pub alike : List Mapping → Histories
alike h = record { ours = h; gits = h }

-- with entries appended, which both read alike
abbrev pub plus : Histories → List Mapping → Histories
plus h added = record { ours = h.ours ++ added; gits = h.gits ++ added }

-- both answers to a contact are `to`
abbrev pub IsAnswered : List Mapping → Contact → Contact → Type 0
IsAnswered h to c = (answer_to h c ≡ to) × (git_answer_to h c ≡ to)

-- both are as before when these entries are appended
abbrev pub Stays : List Mapping → List Mapping → Contact → Type 0
Stays h added c = (answer_to (h ++ added) c ≡ answer_to h c) × (git_answer_to (h ++ added) c ≡ git_answer_to h c)

-- whether this library and git both answer a contact by `to`
abbrev pub is_answered : Histories → Contact → Contact → Bool
is_answered h to c = same_contact (answer_to h.ours c) to && same_contact (git_answer_to h.gits c) to

-- whether some entry has the contact's name as its old name, and its email, ASCII case aside
abbrev pub has_own_entry : Histories → Contact → Bool
has_own_entry h c = is_some (last_fields h.ours (own_key c))
    || is_some (last_fields h.gits (own_key c))

-- whether several people share an email; `shared` are the folded emails of which that is so
abbrev pub is_shared : List Text → Text → Bool
is_shared shared email = list_any (bytes_eq (folded email)) shared

-- Whether a contact is answered by an entry with its old name alone: it has one, or several people share the email of
-- its answer, so that an entry without an old name would be for all of them.
abbrev pub needs_own_entry : List Text → Histories → Contact → Bool
needs_own_entry shared h c = has_own_entry h c || is_shared shared (answer_to h.ours c).email

-- ---- the entries for one old email

-- an empty name is not written
abbrev pub name_unless_empty : Contact → Option Text
name_unless_empty to = if bytes_eq to.name [] then None else Some to.name

-- the forms `Name <email>`, `Name <email> <old email>` and `Name <email> Old Name <old email>`
abbrev pub short_form : Contact → Mapping
short_form to = mapping (Some to.name) None None to.email

abbrev pub long_form : Contact → Contact → Mapping
long_form to c = mapping (name_unless_empty to) (Some to.email) None c.email

abbrev pub named_form : Contact → Contact → Mapping
named_form to c = mapping (name_unless_empty to) (Some to.email) (Some c.name) c.email

abbrev pub are_answered : Histories → Contact → List Contact → Bool
are_answered h to cs = list_all (is_answered h to) cs

-- whether there is a name for the short form, and it is for the contact's email
abbrev pub fits : Contact → Contact → Bool
fits to c = is_some (name_unless_empty to) && bytes_eq (folded to.email) (folded c.email)

-- whether it is enough for these contacts with one email
abbrev pub is_short_enough : Histories → Contact → Contact → List Contact → Bool
is_short_enough h to c cs = fits to c && are_answered (plus h (short_form to ∷ [])) to (c ∷ cs)

-- for contacts without entries of their own: none, or the entry that makes all their answers `to`
abbrev pub plain_entries : Histories → Contact → List Contact → List Mapping
plain_entries h to [] = []
plain_entries h to (c ∷ cs) = if are_answered h to (c ∷ cs) then []
    else (if is_short_enough h to c cs then short_form to else long_form to c) ∷ []

-- an entry with the old name for each contact that isn't answered by `to` yet
abbrev pub named_entries : Histories → Contact → List Contact → List Mapping
named_entries h to [] = []
named_entries h to (c ∷ cs) = if is_answered h to c then named_entries h to cs
    else named_form to c ∷ named_entries (plus h (named_form to c ∷ [])) to cs

-- the entries that make `to` the answers of these contacts with one old email
abbrev pub entries_for_email : List Text → Histories → Contact → List Contact → List Mapping
entries_for_email shared h to cs =
    let plain = plain_entries h to (filter (λ c. not (needs_own_entry shared h c)) cs) in
    plain ++ named_entries (plus h plain) to cs

-- ---- the entries for any contacts

-- each text once, in the order of first occurrence
abbrev pub distinct : List Text → List Text
distinct [] = []
distinct (x ∷ xs) = x ∷ filter (λ y. not (bytes_eq x y)) (distinct xs)

abbrev pub of_old_email : Text → List Contact → List Contact
of_old_email email cs = filter (λ c. bytes_eq email (folded c.email)) cs

-- the entries that make `to` the answers of these contacts, old email by old email
abbrev pub entries_to : List Text → Histories → Contact → List Contact → List Mapping
entries_to shared h to cs =
    flat_map (λ email. entries_for_email shared h to (of_old_email email cs)) (distinct (map (λ c. folded c.email) cs))
