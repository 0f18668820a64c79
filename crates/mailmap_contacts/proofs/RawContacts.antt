-- Contacts with the white space around their texts, and without it.
use Rattle.std.proofs.Common.{◌≡◌, ◌∙◌, ◌++◌, ◌∷◌, ◌+◌, ℕ, Bool, List, [], Option, None, Some, false, true, ap, append-nil, append_assoc, map, refl, sym}
use Rattle.std.specs.Option.{option_map}
use Rattle.std.specs.Prelude.{◌&&◌, if◌then◌else◌, is_none}
use Rattle.std.specs.Char.{is_whitespace, encode_utf8}
use Rattle.std.specs.Str.{encode_utf8_all}
use Rattle.std.proofs.Common.{arith}
use Rattle.std.proofs.lemmas.Bool.Decides.{nat_tests}
use Rattle.std.proofs.lemmas.List.{map-append}
use Rattle.mailmap_entries.specs.Folding.{Text}
use Rattle.mailmap_entries.proofs.Parts.{all_append}
use Rattle.mailmap_grammar.specs.Lines.{HoldsNo, IsCut, IsUnclosed, cut, trimmed_contact}
use Rattle.mailmap_grammar.specs.Trimming.{AreWhite, trim}
use Rattle.mailmap_grammar.proofs.Cut.{absent_kind, closed_kind, cut-absent, cut-cut_at_closing, cut-unclosed, kind, unclosed_kind}
use Rattle.mailmap_grammar.proofs.Trimmed.{trim-whites_start, trimmed-made}
use Rattle.mailmap_contacts.specs.Contacts.{Contact, contact_on, contacts_from, has_text, line_tally, once, raw_contact, raw_contacts_from, raw_line_tally, seen_where, read_by, tally_on, trimmed, unless_contact}
use Rattle.mailmap_contacts.specs.Counts.{AreContactsOf, SameTallies, Tallied}
use Rattle.mailmap_contacts.proofs.Sums.{same_mapped}

-- white space has no bracket
no_opening : (c : ℕ) → is_whitespace c ≡ true → HoldsNo 60 (encode_utf8 c)
unfolding encode_utf8
no_opening c is = grind (arith, nat_tests)

no_closing : (c : ℕ) → is_whitespace c ≡ true → HoldsNo 62 (encode_utf8 c)
unfolding encode_utf8
no_closing c is = grind (arith, nat_tests)

no_openings : (cs : List ℕ) → AreWhite cs → HoldsNo 60 (encode_utf8_all cs)
no_openings [] are = tt
no_openings (c ∷ cs) are = all_append _ (encode_utf8 c) (encode_utf8_all cs) (no_opening c are.0) (no_openings cs are.1)

no_closings : (cs : List ℕ) → AreWhite cs → HoldsNo 62 (encode_utf8_all cs)
no_closings [] are = tt
no_closings (c ∷ cs) are = all_append _ (encode_utf8 c) (encode_utf8_all cs) (no_closing c are.0) (no_closings cs are.1)

-- the parts of a text with more around it
around : (front a b end : Text) → front ++ ((a ++ 60 ∷ b) ++ end) ≡ (front ++ a) ++ 60 ∷ (b ++ end)
around front a b end = ap (λ t. front ++ t) (append_assoc a (60 ∷ b) end) ∙ sym (append_assoc front a (60 ∷ (b ++ end)))

-- the contact in a text, and in that text with white space around it
module _ (whites : List ℕ) (are : AreWhite whites) (t end : Text) (no60 : HoldsNo 60 end) (no62 : HoldsNo 62 end) where
  abbrev front : Text
  front = encode_utf8_all whites

  wider : contact_on (trimmed_contact (cut t)) ≡ option_map trimmed (contact_on (cut (front ++ (t ++ end))))
  wider = elim (kind t) [
    | absent_kind h e ↦ ap (λ p. contact_on (trimmed_contact p)) e
        ∙ sym (ap (λ p. option_map trimmed (contact_on p)) (cut-absent (front ++ (t ++ end)) (all_append _ front (t ++ end) (no_openings whites are) (all_append _ t end h no60))))
    | unclosed_kind h e ↦
        let is : IsUnclosed (front ++ (t ++ end)) = record {
          before = front ++ h.before;
          after = h.after ++ end;
          whole = ap (λ s. front ++ (s ++ end)) h.whole ∙ around front h.before h.after end;
          no_opening = all_append _ front h.before (no_openings whites are) h.no_opening;
          no_closing = all_append _ h.after end h.no_closing no62;
        } in
        ap (λ p. contact_on (trimmed_contact p)) e ∙ sym (ap (λ p. option_map trimmed (contact_on p)) (cut-unclosed (front ++ (t ++ end)) is))
    | closed_kind a b c h e ↦
        let is : IsCut (front ++ (t ++ end)) (front ++ a) b (c ++ end) = record {
          whole = ap (λ s. front ++ (s ++ end)) h.whole ∙ around front a (b ++ 62 ∷ c) end ∙ ap (λ s. (front ++ a) ++ 60 ∷ s) (append_assoc b (62 ∷ c) end);
          no_opening = all_append _ front a (no_openings whites are) h.no_opening;
          no_closing = h.no_closing;
        } in
        ap (λ p. contact_on (trimmed_contact p)) e
        ∙ ap (λ n. Some (record { name = n; email = trim b })) (sym (trim-whites_start whites a are))
        ∙ sym (ap (λ p. option_map trimmed (contact_on p)) (cut-cut_at_closing (front ++ (t ++ end)) (front ++ a) b (c ++ end) is))
  ]

-- the contact on a line is the raw one without the white space
pub contact_is : (line : Text) → contact_on (trimmed_contact (cut (trim line))) ≡ option_map trimmed (raw_contact line)
contact_is line =
    let h = trimmed-made line (trim line) refl in
    let end = encode_utf8_all h.2.white in
    let whole = h.1.whole ∙ ap (λ s. encode_utf8_all h.1.white ++ s) h.2.whole in
    wider h.1.white h.1.are_white (trim line) end (no_openings h.2.white h.2.are_white) (no_closings h.2.white h.2.are_white)
    ∙ sym (ap (λ s. option_map trimmed (raw_contact s)) whole)

-- a line without a contact has no raw one
pub no_contact_is : (n : ℕ) (line : Text) → unless_contact n line ≡ (if has_text (trim line) && is_none (raw_contact line) then n ∷ [] else [])
no_contact_is n line = ap (λ b. if has_text (trim line) && b then n ∷ [] else []) (ap is_none (contact_is line) ∙ none_is (raw_contact line))
  where
    none_is : (c : Option Contact) → is_none (option_map trimmed c) ≡ is_none c
    none_is None = refl
    none_is (Some c) = refl

pub with_contact : (n : ℕ) (line : Text) (c : Contact) (none : List ℕ) → raw_contact line ≡ Some c → none ≡ none ++ unless_contact n line
with_contact n line c none is = sym (ap (λ l. none ++ l) (no_contact_is n line ∙ ap (λ b. if has_text (trim line) && b then n ∷ [] else []) (ap is_none is)
    ∙ never (has_text (trim line))) ∙ append-nil none)
  where
    never : (b : Bool) → (if b && false then n ∷ [] else []) ≡ []
    never true = refl
    never false = refl

pub without_contact : (n : ℕ) (line : Text) (none : List ℕ) → raw_contact line ≡ None
    → none ++ (if has_text (trim line) then n ∷ [] else []) ≡ none ++ unless_contact n line
without_contact n line none is = ap (λ l. none ++ l) (always (has_text (trim line))
    ∙ ap (λ b. if has_text (trim line) && b then n ∷ [] else []) (sym (ap is_none is)) ∙ sym (no_contact_is n line))
  where
    always : (b : Bool) → (if b then n ∷ [] else []) ≡ (if b && true then n ∷ [] else [])
    always true = refl
    always false = refl

-- ---- tallies

tally_is : (c : Option Contact) (n : ℕ) → tally_on (option_map trimmed c) (once n) ≡ map (read_by trimmed) (tally_on c (once n))
tally_is None n = refl
tally_is (Some c) n = refl

line_is : (n : ℕ) (line : Text) → line_tally n line ≡ map (read_by trimmed) (raw_line_tally n line)
line_is n line = ap (λ c. tally_on c (once n)) (contact_is line) ∙ tally_is (raw_contact line) n

pub contacts_are : (n : ℕ) (lines : List Text) → contacts_from n lines ≡ map (read_by trimmed) (raw_contacts_from n lines)
contacts_are n [] = refl
contacts_are n (l ∷ ls) = (λ i. line_is n l i ++ contacts_are (n + 1) ls i) ∙ sym (map-append (read_by trimmed) (raw_line_tally n l) (raw_contacts_from (n + 1) ls))

-- the contacts that were counted, trimmed
pub trimmed_same : (lines : List Text) (s : Tallied) → AreContactsOf lines s → SameTallies (map (read_by trimmed) s.tallies) (contacts_from 1 lines)
trimmed_same lines s are = λ test. same_mapped trimmed s.tallies (raw_contacts_from 1 lines) are.tallies test
    ∙ ap (seen_where test) (sym (contacts_are 1 lines))
