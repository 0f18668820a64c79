-- git reads the text of suggestions as this library does, if it would cut none of its lines.
use Rattle.std.proofs.Common.{◌≡◌, ◌≢◌, ◌+◌, ◌-◌, ◌<◌, ◌≤◌, ◌==◌, ◌||◌, ℕ, Bool, true, false, true≢false, not, if◌then◌else◌, Option, Some, None, IfSome, option_map, unwrap_or, List, [], ◌∷◌, ◌++◌, map, append-nil, append_assoc, bytes_eq, codes, decimal, length, length-append, length-take, take, drop, length-drop, nat_lt, refl, sym, subst, ap, ◌∙◌, arith}
use Rattle.std.specs.List.{AllByRecursion, cons_option, flat_map}
use Rattle.std.specs.Option.{option_and_then}
use Rattle.std.proofs.lemmas.Bool.{cond-false, ltb-false, ne_eqb}
use Rattle.mailmap_entries.specs.Entries.{Mapping, mapping}
use Rattle.mailmap_entries.specs.Folding.{Text}
use Rattle.mailmap_entries.specs.Semantics.{is_accepted}
use Rattle.mailmap_entries.proofs.Parts.{all_append, all_head, all_mapped, all_tail, all_weaker}
use Rattle.mailmap_contacts.specs.Contacts.{Contact, Tally, answer_to}
use Rattle.mailmap_contacts.proofs.Steps.{all_filtered}
use Rattle.mailmap_grammar.specs.CanonicalText.{IsWritable, IsWritableName, bracketed_email, email_part, name_part}
use Rattle.mailmap_grammar.specs.Lines.{Closed, HoldsNo, ParsedContact, by_both, by_name as named, cut, cut_at_opening, is_comment, non_empty, split_once, with_first}
use Rattle.mailmap_grammar.proofs.Cut.{cut-cut_at_closing}
use Rattle.mailmap_grammar.proofs.SplitOnce.{once-none}
use Rattle.mailmap_findings.proofs.GitLines.{entries-step, entries_empty}
use Rattle.mailmap_findings.specs.Git.{GitContact, entry_of_both, entry_of_first, entry_of_text, git_contact, git_entries, part_entry}
use Rattle.mailmap_findings.specs.GitAnswers.{git_mappings}
use Rattle.mailmap_findings.specs.Positions.{whole_lines}
use Rattle.mailmap_suggestions.specs.EntryLines.{is_cut_by_git}
use Rattle.mailmap_suggestions.specs.Forms.{Histories, alike, name_unless_empty}
use Rattle.mailmap_suggestions.specs.GroupEntries.{IsWritableContact, all_entries, are_alike, are_cut, contacts, email_class, email_entries, group_entries, groups, members, only, proper_answer, wanted_entries, with_classes, with_emails}
use Rattle.mailmap_suggestions.specs.Shortened.{crosses, front_len, short_contact, shortened, shortened_to}
use Rattle.mailmap_suggestions.specs.SuggestedText.{by_git, comment, comments, count_line, count_lines, cut_lines, entry_line, entry_lines, kind_lines, suggestion_text, suggestions_text}
use Rattle.mailmap_suggestions.specs.Suggestions.{GroupClasses, Kind, Suggestion, by_alike_names, by_email, by_login, by_name, by_shared_email, after_emails, after_all_names, email_key, email_kind, email_suggestions, entries_for, has_any, is_of_several, is_remembered, login_kind, login_suggestions, name_kind, name_suggestions, needs_review, new_entries, still_suggested, suggestion, suggestions, with_entries}
use Rattle.mailmap_suggestions.specs.Written.{ContactHoldsNoZero, FitsLine, HoldsNoZero, IsGood, IsUncut, IsWritableSuggestion, groups_text, has_marks, kind_text, selected_text, text_with, unmarked_entries}
use Rattle.mailmap_suggestions.proofs.Appended.{IsCareful, OfForms, answers_all, each_entry}
use Rattle.mailmap_suggestions.proofs.Distinct.{◌∈◌, all_joined, all_of, at, each}
use Rattle.mailmap_suggestions.proofs.Fed.{entries_fed, fed, one_part}
use Rattle.mailmap_suggestions.proofs.GitTrim.{name_trimmed}
use Rattle.mailmap_suggestions.proofs.Proper.{Each}
use Rattle.mailmap_suggestions.proofs.Selected.{all_unmarked, emails_unmarked, left_entries, name_kinds, new_after, reviewed, unmarked_are}
use Rattle.mailmap_suggestions.proofs.Held.{held}
use Rattle.mailmap_suggestions.proofs.Texts.{body_line, count_held, head_held}
use Rattle.mailmap_suggestions.proofs.United.{cut_before, never, proper_comes, writable_named}
use Rattle.shown_text.specs.Shown.{shown}
use Rattle.mailmap_suggestions.proofs.Writable.{all_fit, each_group, emails_left, entries_are, groups_are, left_fits, login_fits, name_fits, name_of_one, unless_cut}

-- ==== what git reads from a text, whatever comes after it

abbrev GitSays : Text → List Mapping → Type 0
GitSays s es = (rest : Text) → git_mappings (s ++ rest) ≡ es ++ git_mappings rest

both_say : (s t : Text) (es fs : List Mapping) → GitSays s es → GitSays t fs → GitSays (s ++ t) (es ++ fs)
both_say s t es fs first second rest = ap git_mappings (append_assoc s t rest) ∙ first (t ++ rest) ∙ ap (λ l. es ++ l) (second rest) ∙ sym (append_assoc es fs (git_mappings rest))

nothing_says : GitSays [] []
nothing_says rest = refl

none_say : {X : Type 0} (text : X → Text) (xs : List X) → AllByRecursion (λ x. GitSays (text x) []) xs → GitSays (flat_map text xs) []
none_say text [] all = nothing_says
none_say text (x ∷ xs) all = both_say (text x) (flat_map text xs) [] [] all.0 (none_say text xs all.1)

each_say : {X : Type 0} (text : X → Text) (es : X → List Mapping) (xs : List X) → AllByRecursion (λ x. GitSays (text x) (es x)) xs → GitSays (flat_map text xs) (flat_map es xs)
each_say text es [] all = nothing_says
each_say text es (x ∷ xs) all = both_say (text x) (flat_map text xs) (es x) (flat_map es xs) all.0 (each_say text es xs all.1)

whole_say : (s : Text) (es : List Mapping) → GitSays s es → git_mappings s ≡ es
unfolding whole_lines
whole_say s es says = ap git_mappings (sym (append-nil s)) ∙ says [] ∙ append-nil es

line_first : (l rest : Text) → HoldsNo 10 l → whole_lines (l ++ 10 ∷ rest) ≡ (l ++ 10 ∷ []) ∷ whole_lines rest
unfolding whole_lines
line_first [] rest one = refl
line_first (b ∷ l) rest one = cond-false _ _ _ (ne_eqb b 10 one.0) ∙ ap (with_first b) (line_first l rest one.1)

line_says : (l : Text) (es : List Mapping) → HoldsNo 10 l → git_entries (fed l) ≡ es → GitSays (l ++ 10 ∷ []) es
line_says l es one is rest = ap git_mappings (append_assoc l (10 ∷ []) rest) ∙ ap (flat_map git_entries) (line_first l rest one) ∙ ap (λ fs. fs ++ git_mappings rest) is

no_entries : git_entries [] ≡ []
no_entries = entries_empty [] refl

-- ==== comments

note_part : (t : Text) (o : Option (Text × Text)) → entry_of_text (unwrap_or (option_map (λ (p : Text × Text). p.0) (option_map (λ (p : Text × Text). (35 ∷ p.0, p.1)) o)) (35 ∷ t)) ≡ None
unfolding entry_of_text
note_part t None = refl
note_part t (Some p) = refl

note_none : (t : Text) → part_entry (35 ∷ t) ≡ None
unfolding split_once
note_none t = note_part t (split_once 0 t)

opening_none : (is_note is_opening : Bool) → (if is_note then None else option_and_then entry_of_first (git_contact (cut_at_opening (if is_opening then Some ([], []) else None)))) ≡ None
unfolding split_once
opening_none true o = refl
opening_none false true = refl
opening_none false false = refl

zero_none : (is_zero : Bool) (x : ℕ) → entry_of_text (unwrap_or (option_map (λ (p : Text × Text). p.0) (if is_zero then Some ([], []) else None)) (x ∷ [])) ≡ None
unfolding split_once entry_of_text
zero_none true x = refl
zero_none false x = opening_none (x == 35) (x == 60)

byte_none : (x : ℕ) → part_entry (x ∷ []) ≡ None
unfolding split_once
byte_none x = zero_none (x == 0) x

-- the rest of a comment that git cuts
rest_none : (s : Text) → length s ≤ 1 → git_entries s ≡ []
rest_none [] le = no_entries
rest_none (x ∷ []) le = one_part (x ∷ []) (omega arith) (omega arith) ∙ ap (λ o. cons_option o (git_entries [])) (byte_none x) ∙ no_entries
rest_none (x ∷ y ∷ s) le = absurd (omega (arith, le))

note_entries : (t : Text) → length t ≤ 1023 → git_entries (fed (35 ∷ t)) ≡ []
note_entries t le = entries_fed (length (35 ∷ t)) (35 ∷ t) (omega arith) (omega arith) ∙ entries-step (35 ∷ t) (omega arith)
    ∙ ap (λ o. cons_option o (git_entries (drop 1023 (35 ∷ t)))) (note_none (take 1022 t))
    ∙ rest_none (drop 1023 (35 ∷ t)) (omega (arith, le, length-drop 1023 (35 ∷ t)))

note_says : (t : Text) → HoldsNo 10 (35 ∷ t) → length t ≤ 1023 → GitSays (35 ∷ (t ++ 10 ∷ [])) []
note_says t one le = line_says (35 ∷ t) [] one (note_entries t le)

-- ---- their lengths

front_bound : (limit : ℕ) (s : Text) → front_len limit s ≤ limit
front_bound limit s = by (crosses 1 limit s) (crosses 2 limit s) (crosses 3 limit s)
  where
    by : (a b c : Bool) → (if a then limit - 1 else if b then limit - 2 else if c then limit - 3 else limit) ≤ limit
    by true b c = omega arith
    by false true c = omega arith
    by false false true = omega arith
    by false false false = omega arith

short_length : (limit : ℕ) (s : Text) → length (shortened_to limit s) ≤ limit + 2
unfolding shortened_to
short_length limit s = by (nat_lt limit (length s)) refl
  where
    by : (b : Bool) → nat_lt limit (length s) ≡ b → length (if b then take (front_len limit s) s ++ codes ".." else s) ≤ limit + 2
    by true is = omega (arith, length-append (take (front_len limit s) s) (codes ".."), length-take (front_len limit s) s, front_bound limit s)
    by false is = omega (arith, ltb-false limit (length s) is)

comment_says : (t : Text) → HoldsNo 10 (comment t) → GitSays (comment t ++ 10 ∷ []) []
comment_says t one = note_says (32 ∷ shortened_to 1000 (shown t)) one (omega (arith, short_length 1000 (shown t)))

count_says : (is_gits : Bool) (t : Tally) → IsWritableContact t.contact → GitSays (count_line is_gits t.seen.count t.contact ++ 10 ∷ []) []
count_says is_gits t w = comment_says ((decimal t.seen.count ++ 32 ∷ short_contact t.contact.name t.contact.email) ++ by_git is_gits) (count_held is_gits t w)

cut_says : (is_cut : Bool) → GitSays (cut_lines is_cut) []
cut_says true = line_says (codes "# too long for git") [] (held (codes "# too long for git") refl) (note_entries (codes " too long for git") (omega arith))
cut_says false = nothing_says

kind_says : (k : Kind) → HoldsNo 10 (kind_text k) → GitSays (kind_lines k) []
kind_says by_email one = nothing_says
kind_says (by_shared_email email) one = comment_says (codes "several people may share " ++ shortened email)
    (head_held (codes "several people may share ") email (held (codes "several people may share ") refl) one)
kind_says by_name one = nothing_says
kind_says by_alike_names one = line_says (codes "# alike") [] (held (codes "# alike") refl) (note_entries (codes " alike") (omega arith))
kind_says (by_login login) one = comment_says (codes "login " ++ shortened login) (head_held (codes "login ") login (held (codes "login ") refl) one)

-- ==== the line of an entry

abbrev lead : Bool → Text
lead is_spaced = if is_spaced then 32 ∷ [] else []

lead_no : (x : ℕ) → 32 ≢ x → (is_spaced : Bool) → HoldsNo x (lead is_spaced)
lead_no x blank true = (blank, tt)
lead_no x blank false = tt

part_no : (x : ℕ) → 32 ≢ x → (o : Option Text) → IfSome o (HoldsNo x) → HoldsNo x (name_part o)
part_no x blank None one = tt
part_no x blank (Some s) one = all_append (λ y. y ≢ x) s (32 ∷ []) one (blank, tt)

bracketed_zero : (s : Text) → HoldsNo 0 s → HoldsNo 0 (bracketed_email s)
bracketed_zero s one = ((λ e. cc), all_append (λ y. y ≢ 0) s (62 ∷ []) one ((λ e. cc), tt))

email_zero : (o : Option Text) → IfSome o (HoldsNo 0) → HoldsNo 0 (email_part o)
email_zero None one = tt
email_zero (Some s) one = all_append (λ y. y ≢ 0) (bracketed_email s) (32 ∷ []) (bracketed_zero s one) ((λ e. cc), tt)

line_zero : (e : Mapping) → HoldsNoZero e → HoldsNo 0 (entry_line e)
line_zero e z =
    let P : ℕ → Type 0 = λ y. y ≢ 0 in
    let a = name_part e.new_name in
    let b = email_part e.new_email in
    let c = name_part e.old_name in
    let d = bracketed_email e.old_email in
    all_append P (lead (is_comment (unwrap_or e.new_name []))) (a ++ b ++ c ++ d) (lead_no 0 (λ e. cc) (is_comment (unwrap_or e.new_name [])))
    (all_append P (a ++ b ++ c) d (all_append P (a ++ b) c (all_append P a b (part_no 0 (λ e. cc) e.new_name z.0) (email_zero e.new_email z.1)) (part_no 0 (λ e. cc) e.old_name z.2)) (bracketed_zero e.old_email z.3))

opening_free : (o : Option Text) → IfSome o IsWritableName → IfSome o (HoldsNo 60)
opening_free None w = tt
opening_free (Some n) w = w.no_opening

-- ---- its contacts

module _ (is_spaced : Bool) where
  cut_both : (nn on : Option Text) (ne oe : Text) → IfSome nn IsWritableName → HoldsNo 62 ne
      → cut (lead is_spaced ++ (name_part nn ++ email_part (Some ne) ++ name_part on ++ bracketed_email oe)) ≡ Closed (lead is_spaced ++ name_part nn) ne (32 ∷ (name_part on ++ bracketed_email oe))
  cut_both nn on ne oe name email = cut-cut_at_closing _ _ _ _ (record {
    whole = simp append_assoc;
    no_opening = all_append (λ y. y ≢ 60) (lead is_spaced) (name_part nn) (lead_no 60 (λ e. cc) is_spaced) (part_no 60 (λ e. cc) nn (opening_free nn name));
    no_closing = email;
  })

  cut_one : (n oe : Text) → IsWritableName n → HoldsNo 62 oe → cut (lead is_spaced ++ (name_part (Some n) ++ email_part None ++ name_part None ++ bracketed_email oe)) ≡ Closed (lead is_spaced ++ name_part (Some n)) oe []
  cut_one n oe name email = cut-cut_at_closing _ _ _ _ (record {
    whole = simp (append_assoc, append-nil);
    no_opening = all_append (λ y. y ≢ 60) (lead is_spaced) (n ++ 32 ∷ []) (lead_no 60 (λ e. cc) is_spaced) (part_no 60 (λ e. cc) (Some n) name.no_opening);
    no_closing = email;
  })

cut_old : (on : Option Text) (oe : Text) → IfSome on IsWritableName → HoldsNo 62 oe → cut (32 ∷ (name_part on ++ bracketed_email oe)) ≡ Closed (32 ∷ name_part on) oe []
cut_old on oe name email = cut-cut_at_closing _ _ _ _ (record { whole = refl; no_opening = ((λ e. cc), part_no 60 (λ e. cc) on (opening_free on name)); no_closing = email })

alone : (n oe : Text) → n ≢ [] → oe ≢ [] → entry_of_first (record { name = n; email = oe; rest = [] }) ≡ Some (named n oe)
unfolding entry_of_first split_once
alone [] oe some email = absurd (some refl)
alone (b ∷ n) [] some email = absurd (email refl)
alone (b ∷ n) (c ∷ oe) some email = refl

paired : (n ne : Text) (on : Option Text) (oe : Text) → ne ≢ [] → IfSome on IsWritableName → HoldsNo 62 oe
    → entry_of_first (record { name = n; email = ne; rest = 32 ∷ (name_part on ++ bracketed_email oe) }) ≡ Some (by_both n ne (unwrap_or on []) oe)
unfolding entry_of_first
paired n [] on oe some name email = absurd (some refl)
paired n (b ∷ ne) on oe some name email =
    let new : GitContact = record { name = n; email = b ∷ ne; rest = 32 ∷ (name_part on ++ bracketed_email oe) } in
    ap (λ (k : ParsedContact). entry_of_both new (git_contact k)) (cut_old on oe name email) ∙ ap (λ o. Some (by_both n (b ∷ ne) o oe)) (name_trimmed true on name)

some_name : (o : Option Text) → IfSome o IsWritableName → non_empty (unwrap_or o []) ≡ o
some_name None w = refl
some_name (Some []) w = absurd (w.some refl)
some_name (Some (b ∷ n)) w = refl

contacts_read : (c : Bool) (nn ne on : Option Text) (oe : Text) → IsWritable (mapping nn ne on oe) → is_accepted (mapping nn ne on oe) ≡ true
    → option_and_then entry_of_first (git_contact (cut (lead c ++ (name_part nn ++ email_part ne ++ name_part on ++ bracketed_email oe)))) ≡ Some (mapping nn ne on oe)
contacts_read c None None on oe w a = absurd (cc)
contacts_read c (Some n) None (Some on) oe w a = let e = w.paired in absurd (cc)
contacts_read c (Some n) None None oe w a = ap (λ (k : ParsedContact). option_and_then entry_of_first (git_contact k)) (cut_one c n oe w.names.0 w.emails.1.no_closing)
    ∙ ap (λ m. entry_of_first (record { name = m; email = oe; rest = [] })) (name_trimmed c (Some n) w.names.0) ∙ alone n oe w.names.0.some w.some_old
contacts_read c nn (Some ne) on oe w a = ap (λ (k : ParsedContact). option_and_then entry_of_first (git_contact k)) (cut_both c nn on ne oe w.names.0 w.emails.0.no_closing)
    ∙ ap (λ m. entry_of_first (record { name = m; email = ne; rest = 32 ∷ (name_part on ++ bracketed_email oe) })) (name_trimmed c nn w.names.0)
    ∙ paired (unwrap_or nn []) ne on oe w.some_new w.names.1 w.emails.1.no_closing
    ∙ (λ i. Some (mapping (some_name nn w.names.0 i) (Some ne) (some_name on w.names.1 i) oe))

-- ---- it is no comment

hidden : (x : Bool) (b : ℕ) (t : Text) → (b == 35) ≡ x → is_comment (lead x ++ b ∷ t) ≡ false
hidden true b t is = refl
hidden false b t is = is

no_comment : (nn ne on : Option Text) (oe : Text) → IsWritable (mapping nn ne on oe) → is_accepted (mapping nn ne on oe) ≡ true → is_comment (entry_line (mapping nn ne on oe)) ≡ false
no_comment None None on oe w a = absurd (cc)
no_comment None (Some ne) on oe w a = refl
no_comment (Some []) ne on oe w a = absurd (w.names.0.some refl)
no_comment (Some (b ∷ n)) ne on oe w a = hidden (b == 35) b ((n ++ 32 ∷ []) ++ email_part ne ++ name_part on ++ bracketed_email oe) refl

-- ---- it is read as the entry

line_read : (e : Mapping) → IsGood e → entry_of_text (entry_line e) ≡ Some e
unfolding entry_of_text
line_read e good = ap (λ b. if b then None else option_and_then entry_of_first (git_contact (cut (entry_line e)))) (no_comment e.new_name e.new_email e.old_name e.old_email good.0 good.1)
    ∙ contacts_read (is_comment (unwrap_or e.new_name [])) e.new_name e.new_email e.old_name e.old_email good.0 good.1

part_read : (e : Mapping) → IsGood e → HoldsNoZero e → part_entry (entry_line e) ≡ Some e
part_read e good z = ap (λ (o : Option (Text × Text)). entry_of_text (unwrap_or (option_map (λ p. p.0) o) (entry_line e))) (once-none 0 (entry_line e) (line_zero e z)) ∙ line_read e good

some_line : (e : Mapping) → 0 < length (entry_line e)
some_line e =
    let a = name_part e.new_name in
    let b = email_part e.new_email in
    let c = name_part e.old_name in
    let d = bracketed_email e.old_email in
    omega (arith, length-append (lead (is_comment (unwrap_or e.new_name []))) (a ++ b ++ c ++ d), length-append (a ++ b ++ c) d)

entry_read_by_git : (e : Mapping) → IsGood e → HoldsNoZero e → IsUncut e → git_entries (fed (entry_line e)) ≡ e ∷ []
entry_read_by_git e good z uncut =
    let l = entry_line e in
    let short = ltb-false 1022 (length l) uncut in
    entries_fed (length l) l (omega arith) (some_line e) ∙ one_part l (some_line e) (omega (arith, short))
    ∙ ap (λ o. cons_option o (git_entries [])) (part_read e good z) ∙ ap (λ r. e ∷ r) no_entries

-- ==== suggestions

marked_say : (es : List Mapping) → AllByRecursion (FitsLine true) es → AllByRecursion IsUncut es → GitSays (entry_lines true es) []
marked_say [] all uncut = nothing_says
marked_say (e ∷ es) all uncut = both_say (35 ∷ 63 ∷ (entry_line e ++ 10 ∷ [])) (entry_lines true es) [] []
    (note_says (63 ∷ entry_line e) ((λ e. cc), ((λ e. cc), all.0)) (omega (arith, ltb-false 1022 (length (entry_line e)) uncut.0))) (marked_say es all.1 uncut.1)

unmarked_say : (es : List Mapping) → AllByRecursion (FitsLine false) es → AllByRecursion IsUncut es → AllByRecursion HoldsNoZero es → GitSays (entry_lines false es) es
unmarked_say [] all uncut free = nothing_says
unmarked_say (e ∷ es) all uncut free = both_say (entry_line e ++ 10 ∷ []) (entry_lines false es) (e ∷ []) es
    (line_says (entry_line e) (e ∷ []) (body_line e all.0.0) (entry_read_by_git e all.0 free.0 uncut.0)) (unmarked_say es all.1 uncut.1 free.1)

abbrev left_of : Bool → List Mapping → List Mapping
left_of b es = if b then [] else es

entries_say : (b : Bool) (es : List Mapping) → AllByRecursion (FitsLine b) es → AllByRecursion IsUncut es → AllByRecursion HoldsNoZero (left_of b es) → GitSays (entry_lines b es) (left_of b es)
entries_say true es all uncut free = marked_say es all uncut
entries_say false es all uncut free = unmarked_say es all uncut free

counts_say : (is_gits : Bool) (ts : List Tally) → Each IsWritableContact ts → GitSays (count_lines is_gits ts) []
counts_say is_gits ts all = none_say (λ t. count_line is_gits t.seen.count t.contact ++ 10 ∷ []) ts (all_weaker ts (count_says is_gits) all)

feed_none : git_entries (fed []) ≡ []
unfolding split_once entry_of_text
feed_none = one_part (10 ∷ []) (omega arith) (omega arith) ∙ ap (λ o. cons_option o (git_entries [])) (byte_none 10) ∙ no_entries

comments_say : (b : Bool) (s : Suggestion) → IsWritableSuggestion b s → GitSays (comments s) []
comments_say m s w =
    let a = cut_lines s.is_cut in
    let b = kind_lines s.kind in
    let c = count_lines false s.answers in
    let d = count_lines true s.git_answers in
    both_say (a ++ b ++ c) d [] [] (both_say (a ++ b) c [] [] (both_say a b [] [] (cut_says s.is_cut) (kind_says s.kind w.kind)) (counts_say false s.answers w.answers)) (counts_say true s.git_answers w.git_answers)

suggestion_says : (b : Bool) (s : Suggestion) → IsWritableSuggestion b s → AllByRecursion IsUncut s.entries → AllByRecursion HoldsNoZero (left_of b s.entries) → GitSays (suggestion_text b s) (left_of b s.entries)
suggestion_says b s w uncut free =
    let es = left_of b s.entries in
    subst (GitSays (suggestion_text b s)) (append-nil es)
    (both_say (comments s ++ entry_lines b s.entries) (10 ∷ []) es [] (both_say (comments s) (entry_lines b s.entries) [] es (comments_say b s w) (entries_say b s.entries w.entries uncut free)) (line_says [] [] tt feed_none))

abbrev AreUncut : Suggestion → Type 0
AreUncut s = AllByRecursion IsUncut s.entries

texts_say : (m : Suggestion → Bool) (found : List Suggestion) → AllByRecursion (λ s. IsWritableSuggestion (m s) s) found → AllByRecursion AreUncut found → AllByRecursion HoldsNoZero (unmarked_entries m found)
    → GitSays (text_with m found) (unmarked_entries m found)
texts_say m [] all uncut free = nothing_says
texts_say m (s ∷ rest) all uncut free = both_say (suggestion_text (m s) s) (text_with m rest) (left_of (m s) s.entries) (unmarked_entries m rest)
    (suggestion_says (m s) s all.0 uncut.0 (all_head HoldsNoZero (left_of (m s) s.entries) (unmarked_entries m rest) free))
    (texts_say m rest all.1 uncut.1 (all_tail HoldsNoZero (left_of (m s) s.entries) (unmarked_entries m rest) free))

pub git_text_read : (m : Suggestion → Bool) (found : List Suggestion) → AllByRecursion (λ s. IsWritableSuggestion (m s) s) found → AllByRecursion AreUncut found → AllByRecursion HoldsNoZero (unmarked_entries m found)
    → git_mappings (text_with m found) ≡ unmarked_entries m found
git_text_read m found all uncut free = whole_say (text_with m found) (unmarked_entries m found) (texts_say m found all uncut free)

-- ==== what is suggested

-- ---- git would cut none of its lines

none_cut : (es : List Mapping) → are_cut es ≡ false → AllByRecursion IsUncut es
none_cut [] is = tt
none_cut (e ∷ es) is = by (is_cut_by_git e) refl is (none_cut es)
  where
    by : (b : Bool) → is_cut_by_git e ≡ b → b || are_cut es ≡ false → (are_cut es ≡ false → AllByRecursion IsUncut es) → AllByRecursion IsUncut (e ∷ es)
    by true cut is rest = absurd (true≢false is)
    by false cut is rest = (cut, rest is)

uncut_made : (es : List Mapping) → AllByRecursion IsUncut (if are_cut es then [] else es)
uncut_made es = by (are_cut es) refl
  where
    by : (b : Bool) → are_cut es ≡ b → AllByRecursion IsUncut (if b then [] else es)
    by true is = tt
    by false is = none_cut es is

uncut_left : (seen : List Text) (s : Suggestion) → AreUncut s → AllByRecursion AreUncut (still_suggested seen s)
uncut_left seen s all = by (reviewed s) (s.is_cut || has_any (new_entries seen s.entries))
  where
    by : (r b : Bool) → AllByRecursion AreUncut (if r then (if b then with_entries s (new_entries seen s.entries) ∷ [] else []) else s ∷ [])
    by true true = (all_filtered (λ e. not (is_remembered seen e)) IsUncut IsUncut (λ e u _. u) s.entries all, tt)
    by true false = tt
    by false b = (all, tt)

uncut_map : (shared : List Text) (base h : Histories) (kind : List Tally → Kind) (gs : List (List Tally)) → AllByRecursion AreUncut (map (λ g. suggestion shared base h (kind g) g) gs)
uncut_map shared base h kind gs = all_mapped (λ g. suggestion shared base h (kind g) g) AreUncut gs (all_of (λ g. AreUncut (suggestion shared base h (kind g) g)) (λ g. uncut_made (entries_for (kind g) shared base h g)) gs)

module _ (shared : List Text) (c : GroupClasses) (seen : List Text) (h : Histories) (ts : List Tally) where
  all_uncut : AllByRecursion AreUncut (suggestions shared c seen h ts)
  all_uncut =
      let more = after_emails shared h ts in
      let whole = after_all_names shared c h ts in
      let emails = email_suggestions shared h ts in
      let names = name_suggestions shared c h ts in
      let logins = login_suggestions shared c h ts in
      all_joined AreUncut (still_suggested seen) (emails ++ names ++ logins) (all_weaker (emails ++ names ++ logins) (uncut_left seen)
      (all_append AreUncut (emails ++ names) logins (all_append AreUncut emails names
      (uncut_map shared h h (email_kind shared h) (groups email_key h ts))
      (uncut_map shared more more (name_kind more) (groups c.by_name more ts)))
      (uncut_map shared more whole (login_kind shared whole ts) (groups c.by_login whole ts))))

-- ---- none of its entries holds a zero byte

zero_form : (to : Contact) → HoldsNo 0 to.name → IfSome (name_unless_empty to) (HoldsNo 0)
zero_form to one = elim (bytes_eq to.name []) as (λ b. IfSome (if b then None else Some to.name) (HoldsNo 0)) [ true ↦ tt | false ↦ one ]

zero_forms : (shared : List Text) (h : Histories) (to c : Contact) → ContactHoldsNoZero to → ContactHoldsNoZero c → OfForms HoldsNoZero to shared h c
zero_forms shared h to c fits z =
    let name = zero_form to fits.0 in
    ((λ _. ((λ _ _. (fits.0, tt, tt, fits.1)), (name, fits.1, tt, z.1))), (name, fits.1, z.0, z.1))

module _ (shared : List Text) (h : List Mapping) (ts : List Tally) (free : AllByRecursion HoldsNoZero h) (each_free : Each ContactHoldsNoZero ts) where
  answer_free : (c : Contact) → ContactHoldsNoZero c → ContactHoldsNoZero (answer_to h c)
  answer_free c z = (answers_all (HoldsNo 0) (HoldsNo 0) h c (all_weaker h (λ e y. (y.0, y.1, y.3)) free) z).0

  -- entries that are made for the answers of `base`
  wanted_free : (base : Histories) (g : List Tally) → Each ContactHoldsNoZero g → AllByRecursion HoldsNoZero (wanted_entries shared base (alike h) g)
  wanted_free base g all =
      let to = proper_answer shared (alike h) g in
      let at_one : (c : Contact) → c ∈ contacts g → ContactHoldsNoZero c = λ c i. at ContactHoldsNoZero (contacts g) (all_mapped (λ (u : Tally). u.contact) ContactHoldsNoZero g all) c i in
      each_entry HoldsNoZero to shared base (contacts g)
      (each (OfForms HoldsNoZero to shared base) (contacts g) (λ c i.
      let d = proper_comes shared h g c i in
      zero_forms shared base to c (subst ContactHoldsNoZero d.2 (answer_free d.0 (at_one d.0 d.1))) (at_one c i)))

  member_free : (class : Contact → Text) (k : Text) → Each ContactHoldsNoZero (members class (alike h) ts k)
  member_free class k = all_filtered (λ t. bytes_eq k (class (answer_to h t.contact))) (λ t. ContactHoldsNoZero t.contact) (λ t. ContactHoldsNoZero t.contact) (λ t w _. w) ts each_free

  entries_free : (class : Contact → Text) → AllByRecursion HoldsNoZero (all_entries shared class (alike h) (alike h) ts)
  entries_free class = all_joined HoldsNoZero (group_entries shared (alike h) (alike h)) (groups class (alike h) ts)
      (each_group class (alike h) ts (λ g. AllByRecursion HoldsNoZero (group_entries shared (alike h) (alike h) g))
      (λ k some _. unless_cut HoldsNoZero (wanted_entries shared (alike h) (alike h) (members class (alike h) ts k)) (wanted_free (alike h) (members class (alike h) ts k) (member_free class k))))

-- ---- git reads it as the entries for emails

pub git_reads_emails : (shared : List Text) (c : GroupClasses) (seen : List Text) (h : List Mapping) (ts : List Tally) → AllByRecursion IsWritable h → Each IsWritableContact ts
    → AllByRecursion HoldsNoZero h → Each ContactHoldsNoZero ts → git_mappings (suggestions_text (suggestions shared c seen (alike h) ts)) ≡ email_entries shared (alike h) ts
git_reads_emails shared c seen h ts writable each_writable free each_free =
    let found = suggestions shared c seen (alike h) ts in
    let left = unmarked_are shared c seen (alike h) ts in
    git_text_read reviewed found (all_fit shared c seen h ts writable each_writable) (all_uncut shared c seen (alike h) ts)
    (subst (AllByRecursion HoldsNoZero) (sym left) (entries_free shared h ts free each_free (email_class shared))) ∙ left

-- ==== with the marks deleted of the groups whose classes pass a test

-- the groups of one class, whose entries are for the answers of `base`
module _ (shared : List Text) (base h : List Mapping) (ts : List Tally) (free : AllByRecursion HoldsNoZero h) (each_free : Each ContactHoldsNoZero ts) (class : Contact → Text) (p : Text → Bool) (seen : List Text)
    (kind : List Tally → Kind) (review : (g : List Tally) → needs_review (kind g) ≡ true) (one : (g : List Tally) → is_of_several (kind g) ≡ false)
    (fits : (k : Text) → k ≢ [] → not (are_alike (alike h) (contacts (members class (alike h) ts k))) ≡ true
    → let g = members class (alike h) ts k in IsWritableSuggestion (has_marks p class (alike h) g) (suggestion shared (alike base) (alike h) (kind g) g)) where
  abbrev make : List Tally → Suggestion
  make g = suggestion shared (alike base) (alike h) (kind g) g

  abbrev marks : List Tally → Bool
  marks g = has_marks p class (alike h) g

  abbrev unmarked : List Tally → List Mapping
  unmarked g = unmarked_entries (λ _. marks g) (still_suggested seen (make g))

  kept_free : (b : Bool) (es : List Mapping) → AllByRecursion HoldsNoZero es → AllByRecursion HoldsNoZero (if b then [] else new_entries seen es)
  kept_free true es all = tt
  kept_free false es all = all_filtered (λ e. not (is_remembered seen e)) HoldsNoZero HoldsNoZero (λ e z _. z) es all

  group_free : (k : Text) → AllByRecursion HoldsNoZero (unmarked (members class (alike h) ts k))
  group_free k =
      let g = members class (alike h) ts k in
      subst (AllByRecursion HoldsNoZero) (sym (left_entries seen (marks g) (make g) (review g)))
      (kept_free (marks g) (make g).entries (subst (AllByRecursion HoldsNoZero) (sym (entries_are shared base h (kind g) (one g) g))
      (unless_cut HoldsNoZero (wanted_entries shared (alike base) (alike h) g) (wanted_free shared h ts free each_free (alike base) g (member_free shared h ts free each_free class k)))))

  groups_say : GitSays (groups_text seen p class (alike h) ts make) (flat_map unmarked (groups class (alike h) ts))
  groups_say = each_say (λ g. text_with (λ _. marks g) (still_suggested seen (make g))) unmarked (groups class (alike h) ts)
      (each_group class (alike h) ts (λ g. GitSays (text_with (λ _. marks g) (still_suggested seen (make g))) (unmarked g))
      (λ k some is.
      let g = members class (alike h) ts k in
      texts_say (λ _. marks g) (still_suggested seen (make g)) (left_fits (marks g) seen (make g) (fits k some is))
      (uncut_left seen (make g) (uncut_made (entries_for (kind g) shared (alike base) (alike h) g))) (group_free k)))

  groups_read_by_git : GitSays (groups_text seen p class (alike h) ts make) (new_entries seen (all_entries shared (only p class) (alike base) (alike h) ts))
  groups_read_by_git = subst (GitSays (groups_text seen p class (alike h) ts make)) (groups_are shared base h ts class p seen kind review one) groups_say

module _ (shared : List Text) (c : GroupClasses) (p q : Text → Bool) (seen : List Text) (h : List Mapping) (ts : List Tally) (writable : AllByRecursion IsWritable h) (each_writable : Each IsWritableContact ts)
    (free : AllByRecursion HoldsNoZero h) (each_free : Each ContactHoldsNoZero ts) (careful : IsCareful shared c.by_name never (with_emails shared h ts) ts)
    (unnamed : (d : Contact) → d ∈ contacts ts → (answer_to (with_emails shared h ts) d).name ≡ [] → c.by_name (answer_to (with_emails shared h ts) d) ≡ [])
    (ready : (k : Text) → q k ≡ true → IsCareful shared c.by_login (cut_before shared h ts (writable_named h writable) c.by_name careful) (with_classes shared c.by_name (with_emails shared h ts) ts) ts) where
  abbrev m : List Mapping
  m = with_emails shared h ts

  abbrev f : List Mapping
  f = with_classes shared c.by_name m ts

  emails_free : AllByRecursion HoldsNoZero (email_entries shared (alike h) ts)
  emails_free = entries_free shared h ts free each_free (email_class shared)

  m_free : AllByRecursion HoldsNoZero m
  m_free = all_append HoldsNoZero h (email_entries shared (alike h) ts) free emails_free

  f_free : AllByRecursion HoldsNoZero f
  f_free = all_append HoldsNoZero m (all_entries shared c.by_name (alike m) (alike m) ts) m_free (entries_free shared m ts m_free each_free c.by_name)

  emails_say : GitSays (suggestions_text (flat_map (still_suggested seen) (email_suggestions shared (alike h) ts))) (email_entries shared (alike h) ts)
  emails_say =
      let emails = email_suggestions shared (alike h) ts in
      let left = flat_map (still_suggested seen) emails in
      let is = all_unmarked seen emails ∙ emails_unmarked shared c seen (alike h) ts in
      subst (GitSays (suggestions_text left)) is
      (texts_say reviewed left (all_joined (λ s. IsWritableSuggestion (reviewed s) s) (still_suggested seen) emails (emails_left shared h ts writable each_writable seen))
      (all_joined AreUncut (still_suggested seen) emails (all_weaker emails (uncut_left seen) (uncut_map shared (alike h) (alike h) (email_kind shared (alike h)) (groups email_key (alike h) ts))))
      (subst (AllByRecursion HoldsNoZero) (sym is) emails_free))

  pub git_reads_selected : git_mappings (selected_text shared c p q seen (alike h) ts)
      ≡ email_entries shared (alike h) ts ++ new_entries seen (all_entries shared (only p c.by_name) (alike m) (alike m) ts ++ all_entries shared (only q c.by_login) (alike m) (alike f) ts)
  git_reads_selected =
      let a = suggestions_text (flat_map (still_suggested seen) (email_suggestions shared (alike h) ts)) in
      let b = groups_text seen p c.by_name (alike m) ts (λ g. suggestion shared (alike m) (alike m) (name_kind (alike m) g) g) in
      let d = groups_text seen q c.by_login (alike f) ts (λ g. suggestion shared (alike m) (alike f) (login_kind shared (alike f) ts g) g) in
      let es = email_entries shared (alike h) ts in
      let names = all_entries shared (only p c.by_name) (alike m) (alike m) ts in
      let logins = all_entries shared (only q c.by_login) (alike m) (alike f) ts in
      whole_say (a ++ b ++ d) (es ++ new_entries seen names ++ new_entries seen logins)
      (both_say (a ++ b) d (es ++ new_entries seen names) (new_entries seen logins)
      (both_say a b es (new_entries seen names) emails_say
      (groups_read_by_git shared m m ts m_free each_free c.by_name p seen (name_kind (alike m)) (name_kinds (alike m)) (name_of_one (alike m)) (name_fits shared c p q seen h ts writable each_writable careful unnamed ready)))
      (groups_read_by_git shared m f ts f_free each_free c.by_login q seen (login_kind shared (alike f) ts) (λ g. refl) (λ g. refl) (login_fits shared c p q seen h ts writable each_writable careful unnamed ready)))
      ∙ new_after seen es names logins
