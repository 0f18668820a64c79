-- Maps of occurrences, and contacts counted one by one.
use Rattle.std.specs.Prelude.{◌≡◌, ℕ, Bool, Option, None, Some, List, length}
use Rattle.std.specs.BTreeMap.{insert_entry, is_at}
use Rattle.std.specs.Borrow.{Bor}
use Rattle.std.specs.Global.{Vec}
use Rattle.std.specs.List.Sorted.{IsStrictlySortedBy}
use Rattle.std.specs.Map.{keys_of, lookup}
use Rattle.std.specs.declared.cmp.Ordering.{Ordering}
use Rattle.mailmap_entries.specs.Folding.{Text}
use Rattle.mailmap_contacts.specs.Contacts.{Contact, Tally, no_contacts_from, raw_contact, raw_contacts_from, seen_where, sum_of, tally_on}
use Rattle.mailmap_contacts.specs.declared.counter.Slot.{Slot}
use Rattle.mailmap_contacts.specs.declared.occurrences.Occurrences.{Occurrences}
use Rattle.mailmap_contacts.specs.declared.answers.Tally.{Tally as TheTally}

-- with more occurrences of a key
abbrev pub with_more : Option Occurrences → Occurrences → Occurrences
with_more None seen = seen
with_more (Some before) seen = sum_of before seen

-- adding to the occurrences of a key makes these entries
pub record HasMore {K : Type 0} (cmp : K → K → Ordering) (old : List (K × Occurrences)) (key : K) (seen : Occurrences)
    (new : List (K × Occurrences)) : Type 0 where
  pub ordered : IsStrictlySortedBy cmp (keys_of old)
  pub inserted : new ≡ insert_entry cmp old key (with_more (lookup (is_at (cmp key)) old) seen)

-- whatever the test, the contacts that pass come as often in both, and first on the same line
abbrev pub SameTallies : List Tally → List Tally → Type 0
SameTallies ts us = (test : Contact → Bool) → seen_where test ts ≡ seen_where test us

-- ---- contacts of lines

-- tallies of contacts as they are, each of which may have several; and the numbers of the lines that are neither blank nor
-- contacts
pub record Tallied : Type 0 where
  pub tallies : List Tally
  pub lines_without_contact : List ℕ

-- these are the contacts on these lines
pub record AreContactsOf (lines : List Text) (s : Tallied) : Type 0 where
  pub tallies : SameTallies s.tallies (raw_contacts_from 1 lines)
  pub lines_without_contact : s.lines_without_contact ≡ no_contacts_from 1 lines

-- the same, with the number of the lines
pub record Counter : Type 0 where
  pub contacts : Tallied
  pub lines : ℕ

-- these lines were counted
pub record HasCounted (lines : List Text) (s : Counter) : Type 0 where
  pub contacts : AreContactsOf lines s.contacts
  pub count : s.lines ≡ length lines

-- ---- keys, slots and tallies

-- the contact that a key shows
abbrev pub key_contact : Vec ℕ × Vec ℕ → Contact
key_contact k = record { name = k.0.items; email = k.1.items }

abbrev pub key_tally : (Vec ℕ × Vec ℕ) × Occurrences → Tally
key_tally e = record { contact = key_contact e.0; seen = e.1 }

abbrev pub slot_tally : Slot → List Tally
slot_tally s = tally_on (raw_contact s.line.items) s.seen

-- the specification's view of a contact or an answer
abbrev pub tally_of : TheTally → Tally
tally_of a = record { contact = record { name = a.name.now; email = a.email.now }; seen = a.seen }

-- the answer that a key shows
abbrev pub answer_key : Bor Text × Bor Text → Contact
answer_key k = record { name = k.0.now; email = k.1.now }

abbrev pub answer_key_tally : (Bor Text × Bor Text) × Occurrences → Tally
answer_key_tally e = record { contact = answer_key e.0; seen = e.1 }
