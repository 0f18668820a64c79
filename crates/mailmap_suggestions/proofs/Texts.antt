-- Suggested entries can be written, and are read from the text of suggestions.
use Rattle.std.proofs.Common.{◌≡◌, ◌+◌, ℕ, None, option_to_list, List, [], ◌∷◌, ◌++◌, refl, sym, ◌∙◌, rules, ◌≢◌, Bool, true, false, ap, append-nil, bytes_eq, IfSome, if◌then◌else◌, subst, ⊎_elim, Option, Some, Ok, decimal, append_assoc, arith, codes}
use Rattle.std.specs.List.{AllByRecursion, flat_map}
use Rattle.std.specs.Result.{result_ok}
use Rattle.mailmap_contacts.specs.declared.occurrences.Occurrences.{Occurrences}
use Rattle.mailmap_entries.specs.Entries.{Mapping}
use Rattle.mailmap_entries.specs.Folding.{Text}
use Rattle.mailmap_entries.specs.Semantics.{first, accepted, is_accepted}
use Rattle.mailmap_entries.proofs.Joined.{filter_none}
use Rattle.mailmap_entries.proofs.Parts.{all_weaker, all_append}
use Rattle.mailmap_contacts.specs.Contacts.{Contact, Tally, answer_to, contact_on, contacts_from, tally_on}
use Rattle.mailmap_grammar.proofs.LineFeeds.{pieces-line}
use Rattle.mailmap_grammar.specs.CanonicalText.{IsWritable, IsWritableEmail, IsWritableName, contact_line}
use Rattle.mailmap_grammar.specs.Lines.{mappings_of, Reading, is_comment, line_reading, reading, reading_by, strict_line_reading, strict_reading, unless_blank, HoldsNo, ParsedContact, mappings_in, pieces, readings_from}
use Rattle.mailmap_grammar.specs.Trimming.{trim}
use Rattle.mailmap_grammar.proofs.WhiteEnds.{trim-blank_start, HoldsNo-trim, trim-nil}
use Rattle.mailmap_grammar.proofs.WritableLines.{ContactFits, contact_fits}
use Rattle.mailmap_grammar.proofs.WrittenLine.{body, reading-canonical_line, strict_reading-canonical_line, one_line}
use Rattle.mailmap_suggestions.specs.Forms.{Histories, git_answer_to, name_unless_empty}
use Rattle.mailmap_suggestions.specs.GroupEntries.{IsWritableContact}
use Rattle.mailmap_suggestions.specs.Shortened.{short_contact, shortened}
use Rattle.mailmap_suggestions.specs.SuggestedText.{by_git, comment, comments, count_line, count_lines, cut_lines, entry_line, entry_lines, kind_lines, mark, suggestion_text}
use Rattle.mailmap_suggestions.specs.Suggestions.{Kind, Suggestion, by_alike_names, by_email, by_login, by_name, by_shared_email}
use Rattle.mailmap_suggestions.specs.Written.{FitsLine, IsWritableSuggestion, kind_text, text_with, unmarked_entries}
use Rattle.mailmap_suggestions.proofs.Held.{decimal_line, held, shortened_held, shown_held}
use Rattle.mailmap_suggestions.proofs.Appended.{empty_or, folded_empty, own_fields, accepted_all, Gives, OfForms, answers_all}
use Rattle.mailmap_suggestions.proofs.Proper.{Each}
use Rattle.shown_text.specs.Shown.{shown}

-- ==== suggested entries can be written, if the mappings and the contacts can

-- ---- answers

-- what answers need of new names
abbrev WritableUnlessEmpty : Text → Type 0
WritableUnlessEmpty n = n ≢ [] → IsWritableName n

-- and of entries
abbrev pub IsGiven : Mapping → Type 0
IsGiven x = Gives WritableUnlessEmpty IsWritableEmail x

pub all_given : (h : List Mapping) → AllByRecursion IsWritable h → AllByRecursion IsGiven h
all_given h all = all_weaker h gives all
  where
    gives : (x : Mapping) → IsWritable x → IsGiven x
    gives x w = search rules

pub answers_given : (h : List Mapping) (c : Contact) → AllByRecursion IsGiven h → IsWritableContact c → IsWritableContact (answer_to h c) × IsWritableContact (git_answer_to h c)
answers_given h c all w =
    let both = answers_all WritableUnlessEmpty IsWritableEmail h c all (w.name, w.email) in
    (record { name = both.0.0; email = both.0.1 }, record { name = both.1.0; email = both.1.1 })

form_given : (to : Contact) → IsWritableContact to → IfSome (name_unless_empty to) WritableUnlessEmpty
form_given to fits = elim (bytes_eq to.name []) as (λ b. IfSome (if b then None else Some to.name) WritableUnlessEmpty) [ true ↦ tt | false ↦ fits.name ]

pub forms_given : (shared : List Text) (h : Histories) (to c : Contact) → IsWritableContact to → IsWritableContact c → OfForms IsGiven to shared h c
forms_given shared h to c fits w =
    let name = form_given to fits in (
      λ _. ((λ _ _. (fits.name, tt, fits.email)), (name, fits.email, w.email)),
      (name, fits.email, w.email),
    )

-- a contact without a name has no entry of its own
pub unnamed_own : (h : List Mapping) (c : Contact) → AllByRecursion IsWritable h → c.name ≡ [] → own_fields h c ≡ None
unnamed_own h c all empty = search (rules, filter_none, all_weaker, accepted_all, folded_empty)

-- ==== the text of suggestions is read as their entries

-- a space at its start changes nothing
with_space : (reads : ℕ → Text → Reading) (n : ℕ) (s : Text) → is_comment s ≡ false → reading_by reads n s ≡ reading_by reads n (32 ∷ s)
with_space reads n s out = ap (λ b. if b then None else unless_blank reads n (trim s)) out ∙ ap (unless_blank reads n) (sym (trim-blank_start s))

as_line : (reads : ℕ → Text → Reading) (n : ℕ) (e : Mapping) → is_accepted e ≡ true → reading_by reads n (entry_line e) ≡ reading_by reads n (32 ∷ body e)
as_line reads n e accepted = search (rules, with_space)

pub entry_read : (n : ℕ) (e : Mapping) → IsWritable e → is_accepted e ≡ true → (reading n (entry_line e) ≡ Some (Ok e)) × (strict_reading n (entry_line e) ≡ Some (Ok e))
entry_read n e w accepted = (as_line line_reading n e accepted ∙ reading-canonical_line n e w accepted, as_line strict_line_reading n e accepted ∙ strict_reading-canonical_line n e w accepted)

-- ---- texts of whole lines

-- the mappings of a text whose first line has this number
abbrev pub mappings_from : ℕ → Text → List Mapping
mappings_from n s = mappings_in (readings_from reading n (pieces s))

-- a text says these entries, whatever comes after it
abbrev pub Says : Text → List Mapping → Type 0
Says s es = (n : ℕ) (rest : Text) → (m : ℕ) × (mappings_from n (s ++ rest) ≡ es ++ mappings_from m rest)

pub both_said : (s t : Text) (es fs : List Mapping) → Says s es → Says t fs → Says (s ++ t) (es ++ fs)
both_said s t es fs first second n rest =
    let a = first n (t ++ rest) in
    let b = second a.0 rest in
    (b.0, ap (mappings_from n) (append_assoc s t rest) ∙ a.1 ∙ ap (λ l. es ++ l) b.1 ∙ sym (append_assoc es fs (mappings_from b.0 rest)))

nothing_said : Says [] []
nothing_said n rest = (n, refl)

pub each_said : {X : Type 0} (text : X → Text) (es : X → List Mapping) (xs : List X) → AllByRecursion (λ x. Says (text x) (es x)) xs → Says (flat_map text xs) (flat_map es xs)
each_said text es [] all = nothing_said
each_said text es (x ∷ xs) all = both_said (text x) (flat_map text xs) (es x) (flat_map es xs) all.0 (each_said text es xs all.1)

-- what marked lines say is nothing
abbrev unless_marked : Bool → List Mapping → List Mapping
unless_marked b es = if b then [] else es

both_unmarked : (b : Bool) (es fs : List Mapping) → unless_marked b es ++ unless_marked b fs ≡ unless_marked b (es ++ fs)
both_unmarked b es fs = grind arith

all_said : {X : Type 0} (b : Bool) (text : X → Text) (es : X → List Mapping) (xs : List X) → AllByRecursion (λ x. Says (text x) (unless_marked b (es x))) xs → Says (flat_map text xs) (unless_marked b (flat_map es xs))
all_said b text es [] all = λ n rest. (n, grind arith)
all_said b text es (x ∷ xs) all = subst (Says (text x ++ flat_map text xs)) (both_unmarked b (es x) (flat_map es xs))
    (both_said (text x) (flat_map text xs) (unless_marked b (es x)) (unless_marked b (flat_map es xs)) all.0 (all_said b text es xs all.1))

-- what a line says
abbrev of_reading : Option Reading → List Mapping
of_reading None = []
of_reading (Some r) = option_to_list (result_ok r)

with_reading : (o : Option Reading) (rs : List Reading) → mappings_in (option_to_list o ++ rs) ≡ of_reading o ++ mappings_in rs
unfolding mappings_in
with_reading None rs = refl
with_reading (Some r) rs = refl

line_said : (l : Text) (es : List Mapping) → HoldsNo 10 l → ((n : ℕ) → of_reading (reading n l) ≡ es) → Says (l ++ 10 ∷ []) es
unfolding readings_from
line_said l es one says n rest = (
  n + 1,
  ap (mappings_from n) (append_assoc l (10 ∷ []) rest)
      ∙ ap (λ ps. mappings_in (readings_from reading n ps)) (pieces-line l rest one)
      ∙ with_reading (reading n l) (readings_from reading (n + 1) (pieces rest))
      ∙ ap (λ fs. fs ++ mappings_from (n + 1) rest) (says n),
)

pub says_whole : (s : Text) (es : List Mapping) → Says s es → mappings_of s ≡ es
unfolding pieces readings_from mappings_in
says_whole s es says =
    let a = says 1 [] in
    ap (mappings_from 1) (sym (append-nil s)) ∙ a.1 ∙ append-nil es

-- ---- what is in a line

contact_held : (name email : Text) → HoldsNo 10 name → HoldsNo 10 email → HoldsNo 10 (contact_line name email)
contact_held [] email first second = search (rules, all_append)
contact_held (b ∷ name) email first second = search (rules, all_append)

pub name_held : (c : Contact) → IsWritableContact c → HoldsNo 10 c.name
name_held c w = ⊎_elim (λ none. subst (HoldsNo 10) (sym none) tt) (λ some. (w.name some).one_line) (empty_or c.name)

short_held : (c : Contact) → IsWritableContact c → HoldsNo 10 (short_contact c.name c.email)
short_held c w = contact_held (shortened c.name) (shortened c.email) (shortened_held 256 c.name (name_held c w)) (shortened_held 256 c.email w.email.one_line)

git_line : (is_gits : Bool) → HoldsNo 10 (by_git is_gits)
git_line false = tt
git_line true = held (codes " by git") refl

-- a comment holds what its text does
pub comment_held : (s : Text) → HoldsNo 10 s → HoldsNo 10 (comment s)
comment_held s one = ((λ e. cc), ((λ e. cc), shortened_held 1000 (shown s) (shown_held s one)))

pub count_held : (is_gits : Bool) (t : Tally) → IsWritableContact t.contact → HoldsNo 10 (count_line is_gits t.seen.count t.contact)
count_held is_gits t w =
    let number = decimal t.seen.count in
    let contact = short_contact t.contact.name t.contact.email in
    let P : ℕ → Type 0 = λ x. x ≢ 10 in
    comment_held ((number ++ 32 ∷ contact) ++ by_git is_gits) (all_append P (number ++ 32 ∷ contact) (by_git is_gits)
    (all_append P number (32 ∷ contact) (decimal_line t.seen.count) ((λ e. cc), short_held t.contact w)) (git_line is_gits))

-- an email or a login after some words
pub head_held : (head s : Text) → HoldsNo 10 head → HoldsNo 10 s → HoldsNo 10 (comment (head ++ shortened s))
head_held head s one also = comment_held (head ++ shortened s) (all_append (λ x. x ≢ 10) head (shortened s) one (shortened_held 256 s also))

count_said : (is_gits : Bool) (t : Tally) → IsWritableContact t.contact → Says (count_line is_gits t.seen.count t.contact ++ 10 ∷ []) []
count_said is_gits t w = line_said (count_line is_gits t.seen.count t.contact) [] (count_held is_gits t w) (λ n. refl)

cut_said : (is_cut : Bool) → Says (cut_lines is_cut) []
cut_said true = line_said (codes "# too long for git") [] (held (codes "# too long for git") refl) (λ n. refl)
cut_said false = nothing_said

kind_said : (k : Kind) → HoldsNo 10 (kind_text k) → Says (kind_lines k) []
kind_said by_email one = nothing_said
kind_said (by_shared_email email) one = line_said (comment (codes "several people may share " ++ shortened email)) []
    (head_held (codes "several people may share ") email (held (codes "several people may share ") refl) one) (λ n. refl)
kind_said by_name one = nothing_said
kind_said by_alike_names one = line_said (codes "# alike") [] (held (codes "# alike") refl) (λ n. refl)
kind_said (by_login login) one = line_said (comment (codes "login " ++ shortened login)) []
    (head_held (codes "login ") login (held (codes "login ") refl) one) (λ n. refl)

pub body_line : (e : Mapping) → IsWritable e → HoldsNo 10 (entry_line e)
body_line e w = search (rules, one_line)

entry_said : (b : Bool) (e : Mapping) → FitsLine b e → Says (mark b ++ entry_line e ++ 10 ∷ []) (unless_marked b (e ∷ []))
entry_said true e g = line_said (mark true ++ entry_line e) [] (omega arith, (omega arith, g)) (λ n. refl)
entry_said false e g = line_said (entry_line e) (e ∷ []) (body_line e g.0) (λ n. ap of_reading (entry_read n e g.0 g.1).0)

-- ---- lists of lines

counts_said : (is_gits : Bool) (ts : List Tally) → Each IsWritableContact ts → Says (count_lines is_gits ts) []
counts_said is_gits ts all = all_said true (λ t. count_line is_gits t.seen.count t.contact ++ 10 ∷ []) (λ _. []) ts (all_weaker ts (count_said is_gits) all)

pub single : (es : List Mapping) → flat_map (λ e. e ∷ []) es ≡ es
single [] = refl
single (e ∷ es) = ap (λ l. e ∷ l) (single es)

entries_said : (b : Bool) (es : List Mapping) → AllByRecursion (FitsLine b) es → Says (entry_lines b es) (unless_marked b es)
entries_said b es all = subst (λ l. Says (entry_lines b es) (unless_marked b l)) (single es)
    (all_said b (λ e. mark b ++ entry_line e ++ 10 ∷ []) (λ e. e ∷ []) es (all_weaker es (entry_said b) all))

-- ---- suggestions

abbrev empty_line : Text
empty_line = 10 ∷ []

empty_said : Says empty_line []
empty_said = line_said [] [] tt (λ n. ap (λ t. of_reading (unless_blank line_reading n t)) trim-nil)

comments_said : (m : Bool) (s : Suggestion) → IsWritableSuggestion m s → Says (comments s) []
comments_said m s w =
    let a = cut_lines s.is_cut in
    let b = kind_lines s.kind in
    let c = count_lines false s.answers in
    let d = count_lines true s.git_answers in
    both_said (a ++ b ++ c) d [] [] (both_said (a ++ b) c [] [] (both_said a b [] [] (cut_said s.is_cut) (kind_said s.kind w.kind)) (counts_said false s.answers w.answers)) (counts_said true s.git_answers w.git_answers)

suggestion_said : (b : Bool) (s : Suggestion) → IsWritableSuggestion b s → Says (suggestion_text b s) (unless_marked b s.entries)
suggestion_said b s w =
    let es = unless_marked b s.entries in
    subst (Says (suggestion_text b s)) (append-nil es)
    (both_said (comments s ++ entry_lines b s.entries) empty_line es [] (both_said (comments s) (entry_lines b s.entries) [] es (comments_said b s w) (entries_said b s.entries w.entries)) empty_said)

-- whichever of them have marks, the text is read as the entries of the others
pub texts_said : (is_marked : Suggestion → Bool) (found : List Suggestion) → AllByRecursion (λ s. IsWritableSuggestion (is_marked s) s) found → Says (text_with is_marked found) (unmarked_entries is_marked found)
texts_said is_marked found all = each_said (λ s. suggestion_text (is_marked s) s) (λ s. if is_marked s then [] else s.entries) found (all_weaker found (λ s w. suggestion_said (is_marked s) s w) all)

pub text_read : (is_marked : Suggestion → Bool) (found : List Suggestion) → AllByRecursion (λ s. IsWritableSuggestion (is_marked s) s) found → mappings_of (text_with is_marked found) ≡ unmarked_entries is_marked found
text_read is_marked found all = says_whole (text_with is_marked found) (unmarked_entries is_marked found) (texts_said is_marked found all)

-- ---- contacts of lines can be written

contact_writable : (p : ParsedContact) → ContactFits p → (seen : Occurrences) → Each IsWritableContact (tally_on (contact_on p) seen)
contact_writable p fits seen = search rules

pub lines_writable : (n : ℕ) (ls : List Text) → AllByRecursion (HoldsNo 10) ls → Each IsWritableContact (contacts_from n ls)
lines_writable n [] all = tt
lines_writable n (l ∷ ls) all = search (rules, all_append, contact_writable, contact_fits, HoldsNo-trim, lines_writable (n + 1) ls)
