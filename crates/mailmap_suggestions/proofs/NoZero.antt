-- Texts without zero bytes: those of entries that git reads, and those of contacts on lines without them.
use Rattle.std.proofs.Common.{◌≡◌, ◌+◌, ◌∙◌, ℕ, zero, suc, true, false, List, [], ◌∷◌, ◌++◌, Option, None, Some, IfSome, ap, drop, if◌then◌else◌, option_map, subst, sym, take, unwrap_or, ⊎_elim, rules}
use Rattle.std.specs.Prelude.{⊤}
use Rattle.std.specs.List.{AllByRecursion, filter_map, flat_map}
use Rattle.std.specs.Option.{option_and_then}
use Rattle.mailmap_entries.specs.Entries.{Mapping}
use Rattle.mailmap_entries.specs.Folding.{Text}
use Rattle.mailmap_entries.proofs.Parts.{all_append, all_head, all_tail}
use Rattle.mailmap_contacts.specs.Contacts.{contact_on, contacts_from, tally_on}
use Rattle.mailmap_contacts.specs.declared.occurrences.Occurrences.{Occurrences}
use Rattle.mailmap_grammar.specs.Lines.{Absent, Closed, HoldsNo, IsCut, ParsedContact, Unclosed, cut, is_comment, non_empty, split_once, trimmed_contact}
use Rattle.mailmap_grammar.specs.Trimming.{trim}
use Rattle.mailmap_grammar.proofs.Cut.{absent_kind, closed_kind, kind, unclosed_kind}
use Rattle.mailmap_grammar.proofs.SplitOnce.{once-cases, once-none, once-some}
use Rattle.mailmap_grammar.proofs.WhiteEnds.{HoldsNo-trim}
use Rattle.mailmap_findings.specs.Git.{GitContact, entry_of_both, entry_of_first, entry_of_text, git_contact, git_entries, part_entry, parts, trim_name, up_to_zero}
use Rattle.mailmap_findings.specs.GitAnswers.{git_mappings}
use Rattle.mailmap_findings.specs.Positions.{whole_lines}
use Rattle.mailmap_suggestions.specs.Written.{ContactHoldsNoZero, HoldsNoZero}
use Rattle.mailmap_suggestions.proofs.Distinct.{all_joined, all_of}
use Rattle.mailmap_suggestions.proofs.Proper.{Each}

abbrev Held : Text → Type 0
Held = HoldsNo 0

take_zero : (n : ℕ) (s : Text) → Held s → Held (take n s)
take_zero zero s none = tt
take_zero (suc n) [] none = tt
take_zero (suc n) (b ∷ s) none = (none.0, take_zero n s none.1)

drop_zero : (n : ℕ) (s : Text) → Held s → Held (drop n s)
drop_zero zero s none = none
drop_zero (suc n) [] none = tt
drop_zero (suc n) (b ∷ s) none = drop_zero n s none.1

name_zero : (s : Text) → Held s → Held (trim_name s)
unfolding trim_name
name_zero s none = take_zero _ _ (drop_zero _ s none)

filled : (s : Text) → Held s → IfSome (non_empty s) Held
filled [] none = tt
filled (b ∷ s) none = none

-- ---- a text that is cut

abbrev AreHeld : ParsedContact → Type 0
AreHeld Absent = ⊤
AreHeld Unclosed = ⊤
AreHeld (Closed a b c) = Held a × Held b × Held c

cut_parts : (s a b c : Text) → IsCut s a b c → Held s → Held a × Held b × Held c
cut_parts s a b c is none =
    let P : ℕ → Type 0 = λ x. x ≡ 0 → ⊥ in
    let whole : Held (a ++ 60 ∷ (b ++ 62 ∷ c)) = subst Held is.whole none in
    let after = all_tail P a (60 ∷ (b ++ 62 ∷ c)) whole in
    (all_head P a (60 ∷ (b ++ 62 ∷ c)) whole, all_head P b (62 ∷ c) after.1, (all_tail P b (62 ∷ c) after.1).1)

cut_zero : (s : Text) → Held s → AreHeld (cut s)
cut_zero s none = elim (kind s) [
  | absent_kind h is ↦ subst AreHeld (sym is) tt
  | unclosed_kind h is ↦ subst AreHeld (sym is) tt
  | closed_kind a b c h is ↦ subst AreHeld (sym is) (cut_parts s a b c h none)
]

-- ---- what git reads

abbrev GitHeld : GitContact → Type 0
GitHeld c = Held c.name × Held c.email × Held c.rest

contact_zero : (p : ParsedContact) → AreHeld p → IfSome (git_contact p) GitHeld
contact_zero Absent none = tt
contact_zero Unclosed none = tt
contact_zero (Closed a b c) none = (name_zero a none.0, none.1, none.2)

name_alone : (o : Option Text) (email : Text) → IfSome o Held → Held email → IfSome (option_map (λ name. record { new_name = Some name; new_email = None; old_name = None; old_email = email }) o) HoldsNoZero
name_alone None email name none = tt
name_alone (Some s) email name none = (name, tt, tt, none)

both_zero : (new : GitContact) (old : Option GitContact) → GitHeld new → IfSome old GitHeld → IfSome (entry_of_both new old) HoldsNoZero
both_zero new None held none = name_alone (non_empty new.name) new.email (filled new.name held.0) held.1
both_zero new (Some old) held also = (filled new.name held.0, held.1, filled old.name also.0, also.1)

if_filled : (o : Option Text) (e : Option Mapping) → IfSome e HoldsNoZero → IfSome (option_and_then (λ _. e) o) HoldsNoZero
if_filled None e held = tt
if_filled (Some s) e held = held

first_zero : (new : GitContact) → GitHeld new → IfSome (entry_of_first new) HoldsNoZero
unfolding entry_of_first
first_zero new held = if_filled (non_empty new.email) _ (both_zero new (git_contact (cut new.rest)) held (contact_zero (cut new.rest) (cut_zero new.rest held.2)))

from_contact : (o : Option GitContact) → IfSome o GitHeld → IfSome (option_and_then entry_of_first o) HoldsNoZero
from_contact None held = tt
from_contact (Some new) held = first_zero new held

text_zero : (t : Text) → Held t → IfSome (entry_of_text t) HoldsNoZero
unfolding entry_of_text
text_zero t none = elim (is_comment t) as (λ b. IfSome (if b then None else option_and_then entry_of_first (git_contact (cut t))) HoldsNoZero) [
  | true ↦ tt
  | false ↦ from_contact (git_contact (cut t)) (contact_zero (cut t) (cut_zero t none))
]

ends_before : (part : Text) → Held (up_to_zero part)
ends_before part = ⊎_elim (λ none. subst (λ o. Held (unwrap_or (option_map (λ (p : Text × Text). p.0) o) part)) (sym (once-none 0 part none)) none)
    (λ (a, r, none, is). subst (λ o. Held (unwrap_or (option_map (λ (p : Text × Text). p.0) o) part)) (sym (ap (split_once 0) is ∙ once-some 0 a r none)) none)
    (once-cases 0 part)

part_zero : (part : Text) → IfSome (part_entry part) HoldsNoZero
part_zero part = text_zero (up_to_zero part) (ends_before part)

all_picked : {X Y : Type 0} (f : X → Option Y) (P : Y → Type 0) → ((x : X) → IfSome (f x) P) → (xs : List X) → AllByRecursion P (filter_map f xs)
all_picked f P each [] = tt
all_picked f P each (x ∷ xs) = search (rules, all_picked f P each xs)

entries_zero : (line : Text) → AllByRecursion HoldsNoZero (git_entries line)
unfolding git_entries
entries_zero line = all_picked part_entry HoldsNoZero part_zero (parts line)

mappings_zero : (text : Text) → AllByRecursion HoldsNoZero (git_mappings text)
mappings_zero text = all_joined HoldsNoZero git_entries (whole_lines text) (all_of (λ l. AllByRecursion HoldsNoZero (git_entries l)) entries_zero (whole_lines text))

pub all_read_zero : (buffers : List Text) → AllByRecursion HoldsNoZero (flat_map git_mappings buffers)
all_read_zero buffers = all_joined HoldsNoZero git_mappings buffers (all_of (λ b. AllByRecursion HoldsNoZero (git_mappings b)) mappings_zero buffers)

-- ---- contacts

parsed_zero : (p : ParsedContact) → AreHeld p → (seen : Occurrences) → Each ContactHoldsNoZero (tally_on (contact_on (trimmed_contact p)) seen)
parsed_zero Absent none seen = tt
parsed_zero Unclosed none seen = tt
parsed_zero (Closed a b c) none seen = ((HoldsNo-trim 0 a none.0, HoldsNo-trim 0 b none.1), tt)

pub contacts_zero : (n : ℕ) (lines : List Text) → AllByRecursion (HoldsNo 0) lines → Each ContactHoldsNoZero (contacts_from n lines)
contacts_zero n [] none = tt
contacts_zero n (l ∷ ls) none = all_append (λ t. ContactHoldsNoZero t.contact) _ (contacts_from (n + 1) ls)
    (parsed_zero (cut (trim l)) (cut_zero (trim l) (HoldsNo-trim 0 l none.0)) _) (contacts_zero (n + 1) ls none.1)
