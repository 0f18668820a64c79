-- A line feed at the end of a text, if it has none there, changes nothing of what is read.
use Rattle.std.proofs.Common.{◌≡◌, ◌∙◌, ◌<◌, ◌≤◌, ◌==◌, ℕ, zero, suc, Bool, true, false, true≢false, if◌then◌else◌, Option, Some, None, option_map, unwrap_or, List, [], ◌∷◌, ◌++◌, append-nil, length, length-append, take, take_all, drop, length-drop, refl, sym, ap, arith, ⊎_elim}
use Rattle.std.specs.List.{cons_option, flat_map}
use Rattle.std.specs.Option.{option_and_then}
use Rattle.std.proofs.lemmas.Bool.{cases_lt}
use Rattle.std.proofs.lemmas.Grind.{flat_map-append}
use Rattle.std.proofs.lemmas.List.{drop-append-le, drop_all, take-append-le}
use Rattle.mailmap_entries.specs.Entries.{Mapping}
use Rattle.mailmap_entries.specs.Folding.{Text}
use Rattle.mailmap_entries.specs.Semantics.{last}
use Rattle.mailmap_grammar.specs.Lines.{ParsedContact, Absent, Unclosed, Closed, cut, cut_at_closing, cut_at_opening, mappings_in, mappings_of, pieces, reading, readings_from, split_once}
use Rattle.mailmap_findings.proofs.GitLines.{entries-step}
use Rattle.mailmap_findings.specs.Git.{GitContact, entry_of_both, entry_of_first, entry_of_text, git_contact, git_entries, part_entry, trim_name}
use Rattle.mailmap_findings.specs.GitAnswers.{git_mappings}
use Rattle.mailmap_findings.specs.Positions.{whole_lines}
use Rattle.mailmap_suggestions.specs.Appending.{ends_line}
use Rattle.mailmap_suggestions.specs.SuggestedText.{feed_unless}
use Rattle.mailmap_suggestions.proofs.After.{git_mappings_after, mappings_after, with_byte}

abbrev pub fed : Text → Text
fed s = s ++ 10 ∷ []

-- ---- where the line feed is

feed_is : (s : Text) → feed_unless (last s) ≡ (if ends_line s then [] else 10 ∷ [])
feed_is [] = refl
feed_is (b ∷ []) = refl
feed_is (b ∷ c ∷ s) = feed_is (c ∷ s)

ends_fed : (s : Text) → ends_line (fed s) ≡ true
ends_fed [] = refl
ends_fed (b ∷ []) = refl
ends_fed (b ∷ c ∷ s) = ends_fed (c ∷ s)

-- ---- for this library

last_fed : (t : Bool) (b : ℕ) → t ≡ false → with_byte t b [] ([] ∷ []) ≡ with_byte t b [] []
last_fed true b is = absurd (true≢false is)
last_fed false b is = refl

pieces_fed : (s : Text) → ends_line s ≡ false → pieces (fed s) ≡ pieces s
unfolding pieces
pieces_fed [] is = absurd (true≢false is)
pieces_fed (b ∷ []) is = last_fed (b == 10) b is
pieces_fed (b ∷ c ∷ s) is = ap (with_byte (b == 10) b []) (pieces_fed (c ∷ s) is)

-- ---- for git: a line with its line feed

abbrev with_feed : Text × Text → Text × Text
with_feed p = (p.0, fed p.1)

abbrev put_first : ℕ → Text × Text → Text × Text
put_first c p = (c ∷ p.0, p.1)

swapped : (c : ℕ) (o : Option (Text × Text)) → option_map (put_first c) (option_map with_feed o) ≡ option_map with_feed (option_map (put_first c) o)
swapped c None = refl
swapped c (Some p) = refl

first_fed : (t : Bool) (c : ℕ) (s : Text) (n o : Option (Text × Text)) → n ≡ option_map with_feed o
    → (if t then Some ([], fed s) else option_map (put_first c) n) ≡ option_map with_feed (if t then Some ([], s) else option_map (put_first c) o)
first_fed true c s n o is = refl
first_fed false c s n o is = ap (option_map (put_first c)) is ∙ swapped c o

none_fed : (t : Bool) → t ≡ false → (if t then Some ([], []) else None) ≡ option_map with_feed None
none_fed true is = absurd (true≢false is)
none_fed false is = refl

split_fed : (b : ℕ) → (10 == b) ≡ false → (s : Text) → split_once b (fed s) ≡ option_map with_feed (split_once b s)
unfolding split_once
split_fed b other [] = none_fed (10 == b) other
split_fed b other (c ∷ s) = first_fed (c == b) c s (split_once b (fed s)) (split_once b s) (split_fed b other s)

abbrev longer : ParsedContact → ParsedContact
longer Absent = Absent
longer Unclosed = Unclosed
longer (Closed name email rest) = Closed name email (fed rest)

closed_fed : (name : Text) (o : Option (Text × Text)) → cut_at_closing name (option_map with_feed o) ≡ longer (cut_at_closing name o)
closed_fed name None = refl
closed_fed name (Some p) = refl

opened_fed : (o : Option (Text × Text)) → cut_at_opening (option_map with_feed o) ≡ longer (cut_at_opening o)
opened_fed None = refl
opened_fed (Some p) = ap (cut_at_closing p.0) (split_fed 62 refl p.1) ∙ closed_fed p.0 (split_once 62 p.1)

cut_fed : (s : Text) → cut (fed s) ≡ longer (cut s)
cut_fed s = ap cut_at_opening (split_fed 60 refl s) ∙ opened_fed (split_once 60 s)

second_fed : (new : GitContact) (k : ParsedContact) → entry_of_both new (git_contact (longer k)) ≡ entry_of_both new (git_contact k)
second_fed new Absent = refl
second_fed new Unclosed = refl
second_fed new (Closed name email rest) = refl

contact_fed : (k : ParsedContact) → option_and_then entry_of_first (git_contact (longer k)) ≡ option_and_then entry_of_first (git_contact k)
unfolding entry_of_first
contact_fed Absent = refl
contact_fed Unclosed = refl
contact_fed (Closed name [] rest) = refl
contact_fed (Closed name (b ∷ email) rest) =
    let new : GitContact = record { name = trim_name name; email = b ∷ email; rest = rest } in
    ap (λ (k : ParsedContact). entry_of_both new (git_contact k)) (cut_fed rest) ∙ second_fed new (cut rest)

text_fed : (b : ℕ) (s : Text) → entry_of_text (fed (b ∷ s)) ≡ entry_of_text (b ∷ s)
unfolding entry_of_text
text_fed b s = ap (λ (k : ParsedContact). if b == 35 then None else option_and_then entry_of_first (git_contact k)) (cut_fed (b ∷ s))
    ∙ ap (λ (o : Option Mapping). if b == 35 then None else o) (contact_fed (cut (b ∷ s)))

zero_fed : (b : ℕ) (s : Text) (o : Option (Text × Text)) → entry_of_text (unwrap_or (option_map (λ p. p.0) (option_map with_feed o)) (fed (b ∷ s))) ≡ entry_of_text (unwrap_or (option_map (λ p. p.0) o) (b ∷ s))
zero_fed b s None = text_fed b s
zero_fed b s (Some p) = refl

part_fed : (b : ℕ) (s : Text) → part_entry (fed (b ∷ s)) ≡ part_entry (b ∷ s)
part_fed b s = ap (λ (o : Option (Text × Text)). entry_of_text (unwrap_or (option_map (λ p. p.0) o) (fed (b ∷ s)))) (split_fed 0 refl (b ∷ s)) ∙ zero_fed b s (split_once 0 (b ∷ s))

-- a line feed alone has no entry
none_alone : part_entry (10 ∷ []) ≡ None
unfolding split_once entry_of_text
none_alone = refl

-- a line of one part
pub one_part : (s : Text) → 0 < length s → length s ≤ 1023 → git_entries s ≡ cons_option (part_entry s) (git_entries [])
one_part s some short = entries-step s some ∙ (λ i. cons_option (part_entry (take_all 1023 s short i)) (git_entries (drop_all 1023 s short i)))

rest_fed : (f : ℕ) → ((t : Text) → length t ≤ f → 0 < length t → git_entries (fed t) ≡ git_entries t) → (t : Text) → length t ≤ f → git_entries (fed t) ≡ git_entries t
rest_fed f others [] le = one_part (10 ∷ []) (omega arith) (omega arith) ∙ ap (λ o. cons_option o (git_entries [])) none_alone
rest_fed f others (b ∷ t) le = others (b ∷ t) le (omega arith)

short_fed : (b : ℕ) (s : Text) → length (b ∷ s) < 1023 → git_entries (fed (b ∷ s)) ≡ git_entries (b ∷ s)
short_fed b s short = one_part (fed (b ∷ s)) (omega (arith, length-append (b ∷ s) (10 ∷ []))) (omega (arith, length-append (b ∷ s) (10 ∷ []))) ∙ ap (λ o. cons_option o (git_entries [])) (part_fed b s)
    ∙ sym (one_part (b ∷ s) (omega arith) (omega arith))

long_fed : (s : Text) → 1023 ≤ length s → git_entries (fed (drop 1023 s)) ≡ git_entries (drop 1023 s) → git_entries (fed s) ≡ git_entries s
long_fed s long rest = entries-step (fed s) (omega (arith, length-append s (10 ∷ [])))
    ∙ (λ i. cons_option (part_entry (take-append-le 1023 s (10 ∷ []) long i)) (git_entries (drop-append-le 1023 s (10 ∷ []) long i)))
    ∙ ap (cons_option (part_entry (take 1023 s))) rest ∙ sym (entries-step s (omega arith))

pub entries_fed : (f : ℕ) (s : Text) → length s ≤ f → 0 < length s → git_entries (fed s) ≡ git_entries s
entries_fed zero s le some = absurd (omega arith)
entries_fed (suc f) [] le some = absurd (omega arith)
entries_fed (suc f) (b ∷ s) le some = ⊎_elim (λ short. short_fed b s short)
    (λ long. long_fed (b ∷ s) long (rest_fed f (entries_fed f) (drop 1023 (b ∷ s)) (omega (arith, length-drop 1023 (b ∷ s))))) (cases_lt (length (b ∷ s)) 1023)

-- ---- the last line

abbrev Last : List Text → List Text → Type 0
Last ls ms = (front : List Text) × (l : Text) × (0 < length l) × (ls ≡ front ++ l ∷ []) × (ms ≡ front ++ fed l ∷ [])

step : (t : Bool) (b : ℕ) (ls ms front : List Text) (l : Text) → 0 < length l → ls ≡ front ++ l ∷ [] → ms ≡ front ++ fed l ∷ [] → Last (with_byte t b (b ∷ []) ls) (with_byte t b (b ∷ []) ms)
step true b ls ms front l some is also = ((b ∷ []) ∷ front, l, some, ap (λ x. (b ∷ []) ∷ x) is, ap (λ x. (b ∷ []) ∷ x) also)
step false b ls ms [] l some is also = ([], b ∷ l, omega arith, ap (with_byte false b (b ∷ [])) is, ap (with_byte false b (b ∷ [])) also)
step false b ls ms (p ∷ ps) l some is also = ((b ∷ p) ∷ ps, l, some, ap (with_byte false b (b ∷ [])) is, ap (with_byte false b (b ∷ [])) also)

lines_fed : (s : Text) → ends_line s ≡ false → Last (whole_lines s) (whole_lines (fed s))
unfolding whole_lines
lines_fed [] is = absurd (true≢false is)
lines_fed (b ∷ []) is = ([], b ∷ [], omega arith, ap (λ t. with_byte t b (b ∷ []) []) is, ap (λ t. with_byte t b (b ∷ []) ((10 ∷ []) ∷ [])) is)
lines_fed (b ∷ c ∷ s) is =
    let r = lines_fed (c ∷ s) is in
    step (b == 10) b (whole_lines (c ∷ s)) (whole_lines (fed (c ∷ s))) r.0 r.1 r.2 r.3 r.4

git_fed : (s : Text) → ends_line s ≡ false → git_mappings (fed s) ≡ git_mappings s
git_fed s is =
    let r = lines_fed s is in
    ap (flat_map git_entries) r.4 ∙ flat_map-append git_entries r.0 (fed r.1 ∷ [])
    ∙ ap (λ es. flat_map git_entries r.0 ++ (es ++ [])) (entries_fed (length r.1) r.1 (omega arith) r.2)
    ∙ sym (flat_map-append git_entries r.0 (r.1 ∷ [])) ∙ sym (ap (flat_map git_entries) r.3)

-- ---- a text with a line feed if it needs one, and then another

pub mappings_appended : (s t : Text) → mappings_of (s ++ feed_unless (last s) ++ t) ≡ mappings_of s ++ mappings_of t
mappings_appended s t = ap (λ f. mappings_of (s ++ f ++ t)) (feed_is s) ∙ by (ends_line s) refl
  where
    by : (e : Bool) → ends_line s ≡ e → mappings_of (s ++ (if e then [] else 10 ∷ []) ++ t) ≡ mappings_of s ++ mappings_of t
    by true is = ap (λ r. mappings_of (r ++ t)) (append-nil s) ∙ mappings_after s t is
    by false is = mappings_after (fed s) t (ends_fed s) ∙ ap (λ ps. mappings_in (readings_from reading 1 ps) ++ mappings_of t) (pieces_fed s is)

pub git_mappings_appended : (s t : Text) → git_mappings (s ++ feed_unless (last s) ++ t) ≡ git_mappings s ++ git_mappings t
git_mappings_appended s t = ap (λ f. git_mappings (s ++ f ++ t)) (feed_is s) ∙ by (ends_line s) refl
  where
    by : (e : Bool) → ends_line s ≡ e → git_mappings (s ++ (if e then [] else 10 ∷ []) ++ t) ≡ git_mappings s ++ git_mappings t
    by true is = ap (λ r. git_mappings (r ++ t)) (append-nil s) ∙ git_mappings_after s t is
    by false is = git_mappings_after (fed s) t (ends_fed s) ∙ ap (λ m. m ++ git_mappings t) (git_fed s is)
