-- Contacts in groups, and what entries for one old email change when they are appended, as the code has them.
use Rattle.std.specs.Prelude.{◌≡◌, ◌&&◌, ◌++◌, ℕ, zero, suc, Bool, true, if◌then◌else◌, List, [], ◌∷◌, None, Some, map}
use Rattle.std.specs.Prelude.{Option, bytes_eq, filter, is_some, option_map, unwrap_or}
use Rattle.std.specs.BTreeMap.{BTreeMap, get}
use Rattle.std.specs.Global.{Vec}
use Rattle.std.specs.List.{list_any, AllByRecursion}
use Rattle.mailmap_entries.specs.Folding.{Text, folded}
use Rattle.mailmap_contacts.specs.Answers.{folded_cmp, tally_of}
use Rattle.mailmap_contacts.specs.Contacts.{Contact, Tally, answer_to, same_contact}
use Rattle.mailmap_contacts.specs.Folded.{folded_text}
use Rattle.mailmap_contacts.specs.declared.answers.Tally.{Tally as TheTally}
use Rattle.mailmap_contacts.specs.declared.folded.Folded.{Folded}
use Rattle.mailmap_suggestions.specs.GroupEntries.{contacts}
use Rattle.mailmap_suggestions.specs.Keys.{key_cmp, key_text}
use Rattle.mailmap_suggestions.specs.Forms.{Histories, distinct, git_answer_to, name_unless_empty, own_key, replaced}
use Rattle.std.specs.BTreeSet.{contains}
use Rattle.std.specs.Option.{option_copied, option_to_list}
use Rattle.mailmap_entries.specs.Entries.{Mapping, mapping_of}
use Rattle.mailmap_entries.specs.Semantics.{Fields, given_fields, is_accepted, key, last_fields, no_fields, spelling}
use Rattle.mailmap_entries.specs.declared.entry.Entry.{Entry}
use Rattle.mailmap_redundancy.specs.Summaries.{fields_of}
use Rattle.mailmap_suggestions.specs.declared.changes.Changes.{Changes}
use Rattle.mailmap_suggestions.specs.declared.keys.Key.{Key}

-- the class of the answer to a contact
abbrev pub text_of : (Contact → Text) → Histories → Tally → Text
text_of class h t = class (answer_to h.ours t.contact)

abbrev pub tallies_in : Vec TheTally → List Tally
tallies_in group = map tally_of group.items

-- ---- contacts with keys

abbrev pub keyed_of : Key × TheTally → Text × Tally
keyed_of k = (key_text k.0, tally_of k.1)

abbrev pub keyed_by : (Tally → Text) → List Tally → List (Text × Tally)
keyed_by text ts = map (λ t. (text t, t)) ts

abbrev pub keys : List (Text × Tally) → List Text
keys ks = map (λ k. k.0) ks

abbrev pub has_key : List (Text × Tally) → Text → Bool
has_key ks key = list_any (bytes_eq key) (keys ks)

-- those with a key
abbrev pub members : List (Text × Tally) → Text → List Tally
members ks key = map (λ k. k.1) (filter (λ k. bytes_eq key k.0) ks)

-- one group for each key, in the order of first occurrence
abbrev pub grouped : List (Text × Tally) → List (List Tally)
grouped ks = map (members ks) (distinct (keys ks))

-- the place of a key among some
abbrev pub place_of : Text → List Text → Option ℕ
place_of key [] = None
place_of key (k ∷ ks) = if bytes_eq key k then Some 0 else option_map suc (place_of key ks)

-- a map has the places of these keys
abbrev pub ArePlaces : List Text → BTreeMap Key ℕ → Type 0
ArePlaces ks places = (key : Key) → get key_cmp places key ≡ place_of (key_text key) ks

-- with one more contact in the group with a number, or in a new group after the last
abbrev pub with_member : ℕ → Tally → List (List Tally) → List (List Tally)
with_member number t [] = (t ∷ []) ∷ []
with_member zero t (g ∷ gs) = (g ++ t ∷ []) ∷ gs
with_member (suc number) t (g ∷ gs) = g ∷ with_member number t gs

-- ==== contacts with one old email

abbrev pub contacts_of : List TheTally → List Contact
contacts_of ts = contacts (map tally_of ts)

-- these contacts have this old email
abbrev pub HaveEmail : Text → List Contact → Type 0
HaveEmail email cs = AllByRecursion (λ c. folded c.email ≡ email) cs

-- these contacts have one old email, ASCII case aside
abbrev pub HaveOneEmail : List Contact → Type 0
HaveOneEmail cs = (email : Text) × HaveEmail email cs

-- as the contacts of each part of a group
abbrev pub IsPart : Vec TheTally → Type 0
IsPart part = HaveOneEmail (contacts (tallies_in part))

-- ---- entries

-- an entry, if there is one
abbrev pub listed : Option Entry → List Mapping
listed e = option_to_list (option_map mapping_of e)

-- an accepted entry for this old email, without an old name
abbrev pub IsPlain : Text → Mapping → Type 0
IsPlain email x = (is_accepted x ≡ true) × (key x ≡ (email, None))

-- the new fields of entries with an old name
abbrev pub fields_to : Contact → Fields
fields_to to = record { name = name_unless_empty to; email = Some to.email }

-- the new fields for contacts without entries of their own
abbrev pub given_in : Changes → Fields
given_in a = unwrap_or (option_map fields_of a.given) no_fields

-- what these entries change for this old email: the fields of those without an old name, the old names of the others,
-- which make `to` the answer, and the spelling of the email
pub record AreChangesBy (to : Contact) (email : Text) (added : List Mapping) (a : Changes) : Type 0 where
  pub given : given_fields added email ≡ given_in a
  pub owned : (key : Folded) → last_fields added (email, Some (folded_text key))
      ≡ (if contains folded_cmp a.names key then Some (fields_to to) else None)
  pub spelled : spelling added email ≡ option_copied a.spelling

-- ---- answers after them

-- The answer to a contact: it depends on the answer before, on whether the contact had an entry of its own, and on
-- whether its email keeps the spelling of that answer.
abbrev pub after : Changes → Contact → TheTally → Contact → Bool → Bool → Contact
after a to t before has_own is_spelled =
    let spelling = if is_spelled then None else option_copied a.spelling in
    if contains folded_cmp a.names (record { text = t.name }) then replaced (fields_to to) (tally_of t).contact
    else if has_own then before
    else replaced (given_in a) (record { name = before.name; email = unwrap_or spelling before.email })

-- whether this library and git both answer a contact by `to` then
unfoldable pub are_enough : Changes → Histories → Contact → TheTally → Bool
are_enough a h to t =
    let c = (tally_of t).contact in
    same_contact (after a to t (answer_to h.ours c) (is_some (last_fields h.ours (own_key c)))
    (is_some (spelling h.ours (folded c.email)))) to
    && same_contact (after a to t (git_answer_to h.gits c) (is_some (last_fields h.gits (own_key c))) true) to
