-- Contacts counted line by line.
use Rattle.std.proofs.Common.{◌≡◌, ◌∙◌, ◌+◌, ◌<◌, ℕ, suc, Bool, Option, List, [], ◌∷◌, ◌++◌, add-zero, ap, append-nil, arith, get_or, length, refl, set, sym, rules, take, drop}
use Rattle.std.specs.List.{AllByRecursion, flat_map}
use Rattle.std.proofs.lemmas.List.{length-append, set-get_or, set_split}
use Rattle.std.proofs.lemmas.List.Elements.{All-from_recursion, All-get_or}
use Rattle.std.proofs.lemmas.Grind.{common_steps, flat_map-append}
use Rattle.mailmap_entries.specs.Folding.{Text}
use Rattle.mailmap_grammar.specs.Lines.{Absent, cut, split_once}
use Rattle.mailmap_grammar.proofs.Trimmed.{trim-nil}
use Rattle.mailmap_contacts.specs.Contacts.{no_contacts_from, unless_contact, Contact, Tally, both_seen, raw_contacts_from, raw_line_tally, seen_where}
use Rattle.mailmap_contacts.specs.Counts.{Counter, HasCounted, SameTallies, slot_tally}
use Rattle.mailmap_contacts.specs.declared.counter.Slot.{Slot}
use Rattle.mailmap_contacts.specs.declared.occurrences.Occurrences.{Occurrences}
use Rattle.mailmap_contacts.proofs.Sums.{both_swap, same_more, seen-append}

-- ---- one more line

pub raw_contacts_from-push : (n : ℕ) (xs : List Text) (line : Text) → raw_contacts_from n (xs ++ line ∷ []) ≡ raw_contacts_from n xs ++ raw_line_tally (n + length xs) line
raw_contacts_from-push n [] line = append-nil (raw_line_tally n line) ∙ ap (λ k. raw_line_tally k line) (sym (add-zero n))
raw_contacts_from-push n (x ∷ xs) line = grind (arith, common_steps, raw_contacts_from-push (n + 1) xs line)

pub no_contacts_from-push : (n : ℕ) (xs : List Text) (line : Text) → no_contacts_from n (xs ++ line ∷ []) ≡ no_contacts_from n xs ++ unless_contact (n + length xs) line
no_contacts_from-push n [] line = search (rules, add-zero, append-nil)
no_contacts_from-push n (x ∷ xs) line = grind (arith, common_steps, no_contacts_from-push (n + 1) xs line)

pub counted_line : (lines : List Text) (line : Text) (s t : Counter) → HasCounted lines s → t.lines ≡ s.lines + 1
    → SameTallies t.contacts.tallies (s.contacts.tallies ++ raw_line_tally (s.lines + 1) line)
    → t.contacts.lines_without_contact ≡ s.contacts.lines_without_contact ++ unless_contact (s.lines + 1) line
    → HasCounted (lines ++ line ∷ []) t
counted_line lines line s t counted number same none = search (rules, raw_contacts_from-push, length-append, no_contacts_from-push, same_more)

-- ---- slots

abbrev pub in_slots : List Slot → List Tally
in_slots slots = flat_map slot_tally slots

-- the slot at an index, and the others
parted : (test : Contact → Bool) (xs : List Slot) (i : ℕ) (u : Slot) → i < length xs
    → seen_where test (in_slots (set xs i u)) ≡ both_seen (seen_where test (slot_tally u)) (seen_where test (in_slots (take i xs) ++ in_slots (drop (suc i) xs)))
parted test xs i u lt = search (rules, both_swap, flat_map-append, seen-append, set_split)

arranged : (n u c o m r : Option Occurrences) → both_seen n u ≡ both_seen (both_seen c o) m → both_seen n (both_seen u r) ≡ both_seen (both_seen c (both_seen o r)) m
arranged n u c o m r is = search rules

-- what changes in a slot and in the map changes in the whole counter
pub slot_changed : (cs new : List Tally) (slots : List Slot) (i : ℕ) (u d : Slot) (more : List Tally) → i < length slots → get_or slots i d ≡ d
    → SameTallies (new ++ slot_tally u) ((cs ++ slot_tally d) ++ more)
    → SameTallies (new ++ in_slots (set slots i u)) ((cs ++ in_slots slots) ++ more)
slot_changed cs new slots i u d more lt there same = λ test.
    let S : List Tally → Option Occurrences = λ ts. seen_where test ts in
    let rest = S (in_slots (take i slots) ++ in_slots (drop (suc i) slots)) in
    let given = same test in
    let after = parted test slots i u lt in
    let before = ap (λ l. S (in_slots l)) (sym (ap (set slots i) (sym there) ∙ set-get_or slots i d)) ∙ parted test slots i d lt in
    search (rules, seen-append, arranged (S new) (S (slot_tally u)) (S cs) (S (slot_tally d)) (S more) rest)

-- ---- a line that isn't in its slot

-- a contact is added to the map, and the slot stays
pub line_moved : (old new slot one more : List Tally) → one ≡ more → SameTallies new (old ++ one) → SameTallies (new ++ slot) ((old ++ slot) ++ more)
line_moved old new slot one more is same = search (rules, seen-append)

-- the contact in the slot is added to the map, and the line's takes its place
pub slot_moved : (old new slot before put more : List Tally) → before ≡ slot → put ≡ more → SameTallies new (old ++ before) → SameTallies (new ++ put) ((old ++ slot) ++ more)
slot_moved old new slot before put more was is same = search (rules, seen-append)

-- a line in a slot has a contact
pub slot_line : (slots : List Slot) (i : ℕ) (d : Slot) → i < length slots → get_or slots i d ≡ d
    → AllByRecursion (λ (s : Slot). (n : ℕ) → unless_contact n s.line.items ≡ []) slots → (n : ℕ)
    → unless_contact n d.line.items ≡ []
slot_line slots i d lt there all = search (rules, All-get_or, All-from_recursion)

-- ---- an unused slot

none_in : (t : Text) → t ≡ [] → cut t ≡ Absent
unfolding split_once
none_in t is = ap cut is

no_tally : (s : Slot) → s.line.items ≡ [] → slot_tally s ≡ []
no_tally s is = search (rules, none_in, trim-nil)

pub empty_line : (s : Slot) → s.line.items ≡ [] → (n : ℕ) → unless_contact n s.line.items ≡ []
empty_line s is n = search (rules, trim-nil)

-- slots without lines have no tallies
pub none_in_slots : (slots : List Slot) → AllByRecursion (λ s. s.line.items ≡ []) slots → flat_map slot_tally slots ≡ []
none_in_slots [] all = refl
none_in_slots (s ∷ slots) all = search (rules, no_tally, none_in_slots slots)
