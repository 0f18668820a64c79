-- What links answers: names that are alike, or the login of an email and a name.
use Rattle.std.specs.Prelude.{◌≡◌, ◌≢◌, ◌↔◌, ◌&&◌, ◌||◌, Bool, IsTrue, not, if◌then◌else◌, List, [], ◌∷◌, ◌++◌}
use Rattle.std.specs.Prelude.{bytes_eq, filter, map}
use Rattle.std.specs.List.{AllByRecursion, flat_map, list_all, list_any}
use Rattle.mailmap_contacts.specs.Contacts.{Contact, Tally, answer_to, answered, has_text, same_contact, tallied}
use Rattle.mailmap_entries.specs.Folding.{Text, folded}
use Rattle.mailmap_names.specs.Keys.{first_words, has_common, is_among, keys, marks}
use Rattle.mailmap_names.specs.Logins.{login, login_keys}
use Rattle.mailmap_suggestions.specs.Forms.{Histories, is_shared}
use Rattle.mailmap_suggestions.specs.GroupEntries.{contacts}

-- ---- classes

-- two answers with a mark in common have one value
abbrev pub AgreesByMarks : (Contact → List Text) → List Contact → {V : Type 0} → (Contact → V) → Type 0
AgreesByMarks marks answers f =
    AllByRecursion (λ a. AllByRecursion (λ b. IsTrue (has_common (marks a) (marks b)) → f a ≡ f b) answers) answers

-- Answers that have a mark in common, directly or through others, have one class, and no others do: what is the same
-- for all with a mark in common is the same for all of a class. An answer without marks has the empty class.
pub record AreClassesBy (marks : Contact → List Text) (answers : List Contact) (class : Contact → Text) : Type 0 where
  pub joined : AgreesByMarks marks answers class
  pub finest : (f : Contact → Bool) → AgreesByMarks marks answers f
      → AllByRecursion (λ a. AllByRecursion (λ b. class a ≡ class b → class a ≢ [] → f a ≡ f b) answers) answers
  pub unmarked : AllByRecursion (λ a. class a ≡ [] ↔ marks a ≡ []) answers

-- ---- answers

-- the answers to contacts, each once, in the order in which they first come
abbrev pub answers : Histories → List Tally → List Contact
answers h ts = contacts (tallied (map (answered h.ours) ts))

-- the contacts that get an answer
abbrev pub answered_by : Histories → List Tally → Contact → List Contact
answered_by h ts a = filter (λ c. same_contact (answer_to h.ours c) a) (contacts ts)

-- its own name or email first, then those of the contacts
abbrev pub names_of : Histories → List Tally → Contact → List Text
names_of h ts a = a.name ∷ map (λ c. c.name) (answered_by h ts a)

abbrev pub emails_of : Histories → List Tally → Contact → List Text
emails_of h ts a = a.email ∷ map (λ c. c.email) (answered_by h ts a)

abbrev pub has_email : Text → Contact → Bool
has_email email a = bytes_eq (folded a.email) (folded email)

-- whether all answers with an email, ASCII case aside, spell it so
abbrev pub is_spelled_once : Histories → List Tally → Text → Bool
is_spelled_once h ts email = list_all (λ a. bytes_eq a.email email) (filter (has_email email) (answers h ts))

-- whether two contacts are equal, ASCII case aside
abbrev pub are_like : Contact → Contact → Bool
are_like a b = bytes_eq (folded a.name) (folded b.name) && bytes_eq (folded a.email) (folded b.email)

-- Whether an answer may be linked: it has an email. If several people share that, its contacts need lines of their own,
-- which those without a name can't have, and the first line for an email spells it for everybody. A line with an old
-- name is for all spellings of that name, so answers that are equal, ASCII case aside, take part together.
abbrev pub takes_part : List Text → Histories → List Tally → Contact → Bool
takes_part shared h ts a = has_text a.email && (not (is_shared shared a.email)
    || (list_all (λ c. has_text c.name) (filter (λ c. are_like (answer_to h.ours c) a) (contacts ts))
    && is_spelled_once h ts a.email))

abbrev pub participants : List Text → Histories → List Tally → List Contact
participants shared h ts = filter (takes_part shared h ts) (answers h ts)

-- ---- by names

-- what answers with alike names have in common
abbrev pub name_marks : List Text → Histories → List Tally → Contact → List Text
name_marks shared h ts a = if takes_part shared h ts a then flat_map marks (names_of h ts a) else []

-- ---- by logins

-- whether another one of some answers has a key
abbrev pub another_has : (Contact → List Text) → List Contact → Contact → Text → Bool
another_has keys_of others a key = list_any (λ b. not (same_contact b a) && is_among (keys_of b) key) others

-- the keys of the first words of its names that have two or more
abbrev pub first_keys : Histories → List Tally → Contact → List Text
first_keys h ts a = flat_map first_words (names_of h ts a)

-- whether a key is that of the first words of names of two answers: it is a first name then
abbrev pub is_first_name : Histories → List Tally → Text → Bool
is_first_name h ts key = let mailed = filter (λ a. has_text a.email) (answers h ts) in
    list_any (λ a. is_among (first_keys h ts a) key && another_has (first_keys h ts) mailed a key) mailed

-- the keys of its names
abbrev pub all_name_keys : Histories → List Tally → Contact → List Text
all_name_keys h ts a = flat_map keys (names_of h ts a)

-- those that aren't first names
abbrev pub name_keys : Histories → List Tally → Contact → List Text
name_keys h ts a = filter (λ key. not (is_first_name h ts key)) (all_name_keys h ts a)

-- those of the login of an email that one person has
abbrev pub email_keys : List Text → Text → List Text
email_keys shared email = if is_shared shared email then [] else login_keys email

-- those of the logins of its emails
abbrev pub mail_keys : List Text → Histories → List Tally → Contact → List Text
mail_keys shared h ts a = flat_map (email_keys shared) (emails_of h ts a)

-- a key of a name that is that of a login of another answer, and the other way round
abbrev pub login_marks : List Text → Histories → List Tally → Contact → List Text
login_marks shared h ts a = let others = participants shared h ts in
    if takes_part shared h ts a then
    filter (another_has (mail_keys shared h ts) others a) (name_keys h ts a)
    ++ filter (another_has (name_keys h ts) others a) (mail_keys shared h ts a)
    else []

-- the logins of its emails that link an answer
abbrev pub linking_logins : List Text → Histories → List Tally → Contact → List Text
linking_logins shared h ts a = map login (filter
    (λ email. list_any (another_has (name_keys h ts) (participants shared h ts) a) (email_keys shared email))
    (emails_of h ts a))
