-- Contacts with their answers, the keys of answers, and links and classes, as the code has them.
use Rattle.std.specs.Prelude.{◌≡◌, ◌&&◌, ◌||◌, ◌==◌, ◌++◌, ℕ, Bool, false, true, not, if◌then◌else◌, List, []}
use Rattle.std.specs.Prelude.{Option, None, Some, bytes_eq, filter, is_some, map, position, slice_get}
use Rattle.std.specs.Borrow.{Bor}
use Rattle.std.specs.BTreeMap.{get_by}
use Rattle.std.specs.BTreeSet.{BTreeSet, contains}
use Rattle.std.specs.Cmp.Lexicographic.{slice_cmp}
use Rattle.std.specs.Global.{Vec}
use Rattle.std.specs.List.{AllByRecursion, list_any}
use Rattle.std.specs.Ordering.{nat_cmp, ordering_then}
use Rattle.std.specs.declared.cmp.Ordering.{Ordering}
use Rattle.mailmap_contacts.specs.declared.answers.Tally.{Tally as TheTally}
use Rattle.mailmap_contacts.specs.Answers.{folded_cmp, tally_of}
use Rattle.mailmap_contacts.specs.Contacts.{Contact, Tally, answered, has_text, same_contact}
use Rattle.mailmap_contacts.specs.Folded.{folded_text}
use Rattle.mailmap_contacts.specs.declared.folded.Folded.{Folded}
use Rattle.mailmap_entries.specs.Folding.{Text, folded}
use Rattle.mailmap_names.specs.Keys.{is_among, keys, marks}
use Rattle.mailmap_suggestions.specs.Forms.{Histories}
use Rattle.mailmap_suggestions.specs.Links.{all_name_keys, another_has, answered_by, answers, are_like, email_keys}
use Rattle.mailmap_suggestions.specs.Links.{is_first_name, mail_keys, participants}
use Rattle.mailmap_suggestions.specs.declared.holders.Holder.{Holder}
use Rattle.mailmap_suggestions.specs.declared.holders.Holders.{Holders}
use Rattle.mailmap_suggestions.specs.declared.links.LoginKeys.{LoginKeys}
use Rattle.mailmap_suggestions.specs.declared.marks.Mark.{Mark}
use Rattle.mailmap_suggestions.specs.declared.members.Member.{Member}

-- ---- contacts with their answers

abbrev pub contact_in : Member → Tally
contact_in m = tally_of m.contact.now

abbrev pub answer_in : Member → Contact
answer_in m = (tally_of m.answer).contact

-- the first contact with the same answer is the one at this index, and no earlier one
abbrev pub IsFirstOf : List Member → Member → Type 0
IsFirstOf ms m = position (λ b. same_contact (answer_in b) (answer_in m)) ms ≡ Some m.first

-- these are contacts with their answers
pub record AreMembers (h : Histories) (ts : List Tally) (ms : List Member) : Type 0 where
  pub contacts : map contact_in ms ≡ ts
  pub answers : map (λ m. tally_of m.answer) ms ≡ map (answered h.ours) ts
  pub firsts : AllByRecursion (IsFirstOf ms) ms
  pub is_first : (i : ℕ) (m : Member) → slice_get ms i ≡ Some m → m.is_first ≡ (m.first == i)

-- ---- which answers take part

-- an answer, ASCII case aside
abbrev pub folded_answer : Folded × Folded → Contact
folded_answer key = record { name = folded_text key.0; email = folded_text key.1 }

abbrev pub pair_cmp : Folded × Folded → Folded × Folded → Ordering
pair_cmp a b = ordering_then (folded_cmp a.0 b.0) (folded_cmp a.1 b.1)

-- the answers, ASCII case aside, with contacts without a name
abbrev pub AreUnnamed : List Member → BTreeSet (Folded × Folded) → Type 0
AreUnnamed ms found = (key : Folded × Folded) → contains pair_cmp found key
    ≡ list_any (λ m. not (has_text (contact_in m).contact.name) && are_like (answer_in m) (folded_answer key)) ms

-- the emails that answers spell in several ways
abbrev pub AreRespelled : List Member → BTreeSet Folded → Type 0
AreRespelled ms found = (key : Folded) → contains folded_cmp found key ≡ list_any
    (λ m. bytes_eq (folded (answer_in m).email) (folded_text key)
    && list_any (λ b. bytes_eq (folded (answer_in b).email) (folded_text key)
    && not (bytes_eq (answer_in b).email (answer_in m).email)) ms) ms

-- ---- links

abbrev pub links_to : ℕ → List Text → List (Text × ℕ)
links_to item found = map (λ mark. (mark, item)) found

-- whether it has the texts of its answer, too: the first contact with it, unless that is the answer
abbrev pub has_own : Member → Bool
has_own m = m.is_first && not (same_contact (answer_in m) (contact_in m).contact)

-- what a contact has, after what its answer has if that is to be read with it
abbrev pub own_and : (Contact → List Text) → Member → List Text
own_and keys_of m = (if has_own m then keys_of (answer_in m) else []) ++ keys_of (contact_in m).contact

-- those by the names of a contact, and of its answer if that is to be read with it
abbrev pub name_links_of : Member → List (Text × ℕ)
name_links_of m = (if has_own m then links_to m.first (marks (answer_in m).name) else [])
    ++ links_to m.first (marks (contact_in m).contact.name)

-- These are the marks of all answers: each with the index of the first contact with its answer.
pub record AreLinksOf (marks_of : Contact → List Text) (ms : List Member) (links : List (Text × ℕ)) : Type 0 where
  pub every : AllByRecursion (λ m. (mark : Text) → list_any (λ l. bytes_eq l.0 mark && (l.1 == m.first)) links
      ≡ is_among (marks_of (answer_in m)) mark) ms
  pub only : AllByRecursion (λ l. list_any (λ m. l.1 == m.first) ms ≡ true) links

-- all contacts with an answer of some are among them
abbrev pub AreWhole : Histories → List Tally → List Tally → Type 0
AreWhole h ts us = AllByRecursion (λ a. answered_by h us a ≡ answered_by h ts a) (answers h us)

-- ---- keys with the answers that have them

abbrev pub vec_cmp : Vec ℕ → Vec ℕ → Ordering
vec_cmp a b = slice_cmp nat_cmp a.items b.items

abbrev pub mark_text : Mark → Text
mark_text m = m.text.items

abbrev pub mark_texts : List Mark → List Text
mark_texts marks = map mark_text marks

abbrev pub vec_texts : Vec Mark → List Text
vec_texts v = mark_texts v.items

abbrev pub mark_cmp : Mark → Mark → Ordering
mark_cmp a b = slice_cmp nat_cmp a.text.items b.text.items

abbrev pub is_another : Option Holder → Contact → Bool
is_another None a = false
is_another (Some holder) a = not holder.is_one || not (same_contact (tally_of holder.first.now).contact a)

abbrev pub is_several : Option Holder → Bool
is_several None = false
is_several (Some holder) = not holder.is_one

-- after one more answer
abbrev pub joined : Option Holder → Bor TheTally → Holder
joined None a = record { first = a; is_one = true }
joined (Some holder) a = record {
  first = holder.first;
  is_one = holder.is_one && same_contact (tally_of holder.first.now).contact (tally_of a.now).contact;
}

-- the holder of a key
abbrev pub holder_of : Holders → Text → Option Holder
holder_of found key = get_by (λ k. slice_cmp nat_cmp key k.text.items) found.by_key

-- whether an answer has a key
abbrev pub has_key : Holders → Text → Bool
has_key found key = is_some (holder_of found key)

-- the keys of the login of an email that names have, too
abbrev pub known_email_keys : List Text → Holders → Text → List Text
known_email_keys shared names email = filter (has_key names) (email_keys shared email)

-- the keys and answers that were added
abbrev pub HoldersOf : List (Text × Contact) → Holders → Type 0
HoldersOf pairs found = (key : Text) (a : Contact) → is_another (holder_of found key) a
    ≡ list_any (λ p. bytes_eq p.0 key && not (same_contact p.1 a)) pairs

abbrev pub with_answer : Contact → List Text → List (Text × Contact)
with_answer a texts = map (λ key. (key, a)) texts

-- the keys of a contact with its answer, and of that if it is to be read with it
abbrev pub pairs_by : (Contact → List Text) → Member → List (Text × Contact)
pairs_by keys_of m = with_answer (answer_in m) (own_and keys_of m)

-- the key of a name that no two first names have, of the login of another answer
abbrev pub is_login_in : LoginKeys → Contact → Text → Bool
is_login_in found a key =
    not (is_several (holder_of found.first_names key)) && is_another (holder_of found.logins key) a

-- the key of a login, of a name of another answer
abbrev pub is_name_by : Holders → Holders → Contact → Text → Bool
is_name_by names first_names a key = not (is_several (holder_of first_names key)) && is_another (holder_of names key) a

abbrev pub is_name_in : LoginKeys → Contact → Text → Bool
is_name_in found = is_name_by found.names found.first_names

-- the links of an answer by the keys that pass of a contact, and by those of the answer if that is to be read with it
abbrev pub links_with : (Contact → Text → Bool) → (Contact → List Text) → Member → List (Text × ℕ)
links_with passes keys_of m = links_to m.first (filter (passes (answer_in m)) (own_and keys_of m))

-- those by names
abbrev pub name_key_links_of : LoginKeys → Member → List (Text × ℕ)
name_key_links_of found = links_with (is_login_in found) (λ c. keys c.name)

-- those by emails
abbrev pub email_links_of : List Text → Holders → Holders → Member → List (Text × ℕ)
email_links_of shared names first_names =
    links_with (is_name_by names first_names) (λ c. known_email_keys shared names c.email)

-- These are the keys of all answers that take part, those of logins as far as names have them; first names are those of
-- all answers with an email.
pub record AreLoginKeys (shared : List Text) (h : Histories) (ts : List Tally) (found : LoginKeys) : Type 0 where
  pub names : (key : Text) (a : Contact) → is_another (holder_of found.names key) a
      ≡ another_has (all_name_keys h ts) (participants shared h ts) a key
  pub logins : (key : Text) (a : Contact) → has_key found.names key ≡ true → is_another (holder_of found.logins key) a
      ≡ another_has (mail_keys shared h ts) (participants shared h ts) a key
  pub first_names : (key : Text) → is_several (holder_of found.first_names key) ≡ is_first_name h ts key
