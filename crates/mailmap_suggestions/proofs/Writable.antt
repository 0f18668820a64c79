-- What is suggested for mailmaps and contacts that lines can hold can be held by lines, too.
use Rattle.std.proofs.Common.{◌≡◌, ◌≢◌, ◌∙◌, ◌+◌, ◌-◌, ◌||◌, ℕ, zero, suc, Bool, true, false, true≢false, not, List, [], ◌∷◌, ◌++◌, filter, map, refl, rules, sym, ap, subst, None, Some, Option, IfSome, bytes_eq, drop, length, if◌then◌else◌, unwrap_or, arith}
use Rattle.std.specs.Char.{is_ascii_digit}
use Rattle.std.specs.List.{AllByRecursion, before_last, flat_map, list_any, position_or_len, prefix_len, suffix_len}
use Rattle.std.proofs.lemmas.List.Elements.{filter_agree}
use Rattle.mailmap_entries.specs.Entries.{Mapping}
use Rattle.mailmap_entries.specs.Folding.{Text, folded}
use Rattle.mailmap_entries.proofs.Parts.{all_append, all_map, all_mapped, all_weaker}
use Rattle.mailmap_contacts.specs.Contacts.{Contact, Tally, answer_to, answered, same_contact, tallied}
use Rattle.mailmap_contacts.proofs.Steps.{all_filtered}
use Rattle.mailmap_contacts.proofs.Tallied.{each_tallied}
use Rattle.mailmap_grammar.specs.CanonicalText.{IsWritable, bracketed_email, email_part, name_part}
use Rattle.mailmap_grammar.specs.Lines.{HoldsNo, is_comment, mappings_of}
use Rattle.mailmap_names.specs.Logins.{has_plus_after, is_at, is_github, is_plus, local_part, login, without_number, without_tag}
use Rattle.mailmap_suggestions.specs.Counted.{by_frequency, counted_answers, counted_git_answers, git_answered, other_git_answers, ranked}
use Rattle.mailmap_suggestions.specs.Forms.{Histories, alike, git_answer_to, is_shared, long_form, name_unless_empty, named_form, needs_own_entry, short_form}
use Rattle.mailmap_suggestions.specs.GroupEntries.{HasNoEmptyName, IsWritableContact, all_entries, are_alike, are_cut, classes, contacts, email_class, email_entries, group_entries, groups, members, only, proper_answer, wanted_entries, with_classes, with_emails}
use Rattle.mailmap_suggestions.specs.SuggestedText.{entry_line, suggestions_text}
use Rattle.mailmap_suggestions.specs.Links.{another_has, answered_by, answers, email_keys, emails_of, linking_logins, name_keys, participants}
use Rattle.mailmap_suggestions.specs.Suggestions.{GroupClasses, Kind, Suggestion, by_alike_names, by_email, by_name, by_shared_email, email_key, email_kind, email_suggestions, entries_for, first_answer, first_or_empty, has_any, have_one_name, is_of_several, is_remembered, login_kind, login_suggestions, name_kind, name_suggestions, needs_review, new_entries, still_suggested, suggestion, suggestions, unless_empty, with_entries}
use Rattle.mailmap_suggestions.specs.Written.{FitsLine, IsGood, IsWritableSuggestion, class_of, groups_text, has_marks, kind_text, selected_text, text_with, unmarked_entries}
use Rattle.mailmap_suggestions.proofs.Appended.{IsCareful, IsWanting, OfForms, OfNeeded, SpellAlike, each_entry, entries_all, none_needed_if}
use Rattle.mailmap_suggestions.proofs.Distinct.{◌∈◌, all_joined, all_of, at, each, somes}
use Rattle.mailmap_suggestions.proofs.Proper.{Each}
use Rattle.mailmap_suggestions.proofs.Selected.{all_unmarked, class_is, email_kinds, left_entries, new_after, new_joined, email_only, emails_unmarked, passing_are, first_has, have_email, name_kinds, reviewed, suggested, suggested_is, suggested_read}
use Rattle.mailmap_suggestions.proofs.Texts.{IsGiven, Says, all_given, answers_given, both_said, each_said, forms_given, name_held, says_whole, texts_said, unnamed_own}
use Rattle.mailmap_suggestions.proofs.Held.{take_held}
use Rattle.mailmap_suggestions.proofs.United.{active_some, careful_spell, counted_each, cut_before, each_counted, either_same, email_spell, flat_same, from_group, group, in_block, lines, never, next_spell, next_wants, only_same, proper_comes, proper_wanting, shared_uncut, text, these, unchanged, wanted, writable_named}

each_ranked : (P : Contact → Type 0) (n : ℕ) (ts : List Tally) → Each P ts → Each P (ranked n ts)
each_ranked P n [] all = tt
each_ranked P n (t ∷ ts) all = (all.0, each_ranked P (n + 1) ts all.1)

-- ---- counted answers

module _ (h : List Mapping) (given : AllByRecursion IsGiven h) (g : List Tally) (each_writable : Each IsWritableContact g) where
  pub answers_counted : Each IsWritableContact (counted_answers (alike h) g)
  answers_counted = each_counted IsWritableContact h g (all_mapped (λ (u : Tally). u.contact) (λ c. IsWritableContact (answer_to h c)) g
      (all_weaker g (λ u w. (answers_given h u.contact given w).0) each_writable))

  pub git_answers_counted : Each IsWritableContact (counted_git_answers (alike h) g)
  git_answers_counted =
      let differs = λ (t : Tally). not (same_contact (git_answer_to h t.contact) (answer_to h t.contact)) in
      let all = by_frequency (tallied g) in
      counted_each IsWritableContact (ranked 1 (other_git_answers (alike h) all)) (each_ranked IsWritableContact 1 (other_git_answers (alike h) all)
      (all_mapped (git_answered (alike h)) (λ t. IsWritableContact t.contact) (filter differs all) (all_filtered differs (λ t. IsWritableContact t.contact) (λ t. IsWritableContact (git_answer_to h t.contact))
      (λ t w _. (answers_given h t.contact given w).1) all (counted_each IsWritableContact g each_writable))))

-- ---- entries

module _ (shared : List Text) (base h : List Mapping) (base_writable : AllByRecursion IsWritable base) (given : AllByRecursion IsGiven h)
    (ts : List Tally) (each_writable : Each IsWritableContact ts) (class : Contact → Text)
    (wants : (t : Text) → AllByRecursion (IsWanting base (wanted shared base h ts class t)) (group shared base h ts class t))
    (has_email : (c : Contact) → c ∈ contacts ts → text shared base h ts class c ≢ [] → (answer_to h c).email ≢ [])
    (has_name : (c : Contact) → c ∈ contacts ts → text shared base h ts class c ≢ [] → is_shared shared (answer_to base c).email ≡ true → c.name ≢ [])
    (spell : (b c : Contact) → b ∈ contacts ts → c ∈ contacts ts → text shared base h ts class b ≢ [] → SpellAlike shared base b c) where
  abbrev to : Text → Contact
  to = wanted shared base h ts class

  abbrev those : Text → List Contact
  those = group shared base h ts class

  writable_at : (c : Contact) → c ∈ contacts ts → IsWritableContact c
  writable_at c i = at IsWritableContact (contacts ts) (all_mapped (λ (u : Tally). u.contact) IsWritableContact ts each_writable) c i

  named_if : (c : Contact) → c ∈ contacts ts → text shared base h ts class c ≢ [] → needs_own_entry shared (alike base) c ≡ true → c.name ≢ []
  named_if c i some needs empty =
      let none = unnamed_own base c base_writable empty in
      elim (is_shared shared (answer_to base c).email) as (λ s. is_shared shared (answer_to base c).email ≡ s → ⊥) [
        | true ↦ λ many. has_name c i some many empty
        | false ↦ λ one. true≢false (sym needs ∙ none_needed_if shared base c none one)
      ] refl

  forms_good : (w c : Contact) → IsWritableContact w → w.email ≢ [] → IsWritableContact c → (needs_own_entry shared (alike base) c ≡ true → c.name ≢ []) → OfNeeded IsGood w shared base c
  forms_good w c fits email writable_c named = (((λ some _. search rules), search rules), λ needs. let some : c.name ≢ [] = named needs in search rules)

  pub lines_good : (t : Text) → t ≢ [] → AllByRecursion IsGood (lines shared base h ts class t)
  lines_good t some = (entries_all shared base (writable_named base base_writable) (to t) IsGood (those t)
      (each (λ c. IsWanting base (to t) c × OfNeeded IsGood (to t) shared base c) (those t) (λ c i.
      let found = from_group shared base h ts class t c i in
      let d = proper_comes shared h (these shared base h ts class t) c i in
      let there = from_group shared base h ts class t d.0 d.1 in
      let fits : IsWritableContact (to t) = subst IsWritableContact d.2 (answers_given h d.0 given (writable_at d.0 there.0)).0 in
      let email : (to t).email ≢ [] = subst (λ a. a.email ≢ []) d.2 (has_email d.0 there.0 (λ e. some (sym there.1 ∙ e))) in
      (at (IsWanting base (to t)) (those t) (wants t) c i, forms_good (to t) c fits email (writable_at c found.0) (named_if c found.0 (λ e. some (sym found.1 ∙ e))))))
      (λ b c i j. let found = from_group shared base h ts class t b i in spell b c found.0 (from_group shared base h ts class t c j).0 (λ e. some (sym found.1 ∙ e)))).1

-- ==== lines with marks hold no line feed

drop_held : (n : ℕ) (s : Text) → HoldsNo 10 s → HoldsNo 10 (drop n s)
drop_held zero s one = one
drop_held (suc n) [] one = tt
drop_held (suc n) (x ∷ s) one = drop_held n s one.1

tag_held : (s : Text) → HoldsNo 10 s → HoldsNo 10 (without_tag s)
tag_held [] one = tt
tag_held (x ∷ s) one = (one.0, take_held (position_or_len is_plus s) s one.1)

local_held : (s : Text) → HoldsNo 10 s → HoldsNo 10 (local_part s)
local_held s one = elim (list_any is_at s) as (λ b. HoldsNo 10 (if b then before_last is_at s else s)) [
  | true ↦ take_held (length s - suffix_len (λ x. not (is_at x)) s - 1) s one
  | false ↦ one
]

number_held : (s : Text) → HoldsNo 10 s → HoldsNo 10 (without_number s)
number_held s one = elim (has_plus_after (prefix_len is_ascii_digit s) s) as (λ b. HoldsNo 10 (if b then drop (prefix_len is_ascii_digit s + 1) s else s)) [
  | true ↦ drop_held (prefix_len is_ascii_digit s + 1) s one
  | false ↦ one
]

login_held : (s : Text) → HoldsNo 10 s → HoldsNo 10 (login s)
unfolding login
login_held s one = tag_held (if is_github s then without_number (local_part s) else local_part s)
    (elim (is_github s) as (λ b. HoldsNo 10 (if b then without_number (local_part s) else local_part s)) [ true ↦ number_held (local_part s) (local_held s one) | false ↦ local_held s one ])

-- ---- entries

part_held : (o : Option Text) → IfSome o (HoldsNo 10) → HoldsNo 10 (name_part o)
part_held None one = tt
part_held (Some s) one = all_append (λ x. x ≢ 10) s (32 ∷ []) one (omega arith, tt)

email_held : (o : Option Text) → IfSome o (HoldsNo 10) → HoldsNo 10 (email_part o)
email_held None one = tt
email_held (Some s) one = search (rules, all_append)

bracketed_held : (s : Text) → HoldsNo 10 s → HoldsNo 10 (bracketed_email s)
bracketed_held s one = search (rules, all_append)

space_held : (b : Bool) → HoldsNo 10 (if b then 32 ∷ [] else [])
space_held true = (omega arith, tt)
space_held false = tt

entry_held : (e : Mapping) → IfSome e.new_name (HoldsNo 10) → IfSome e.new_email (HoldsNo 10) → IfSome e.old_name (HoldsNo 10) → HoldsNo 10 e.old_email → HoldsNo 10 (entry_line e)
entry_held e name email old_name old_email =
    let a = name_part e.new_name in
    let b = email_part e.new_email in
    let c = name_part e.old_name in
    let d = bracketed_email e.old_email in
    let P : ℕ → Type 0 = λ x. x ≢ 10 in
    all_append P (if is_comment (unwrap_or e.new_name []) then 32 ∷ [] else []) (a ++ b ++ c ++ d) (space_held (is_comment (unwrap_or e.new_name [])))
    (all_append P (a ++ b ++ c) d (all_append P (a ++ b) c (all_append P a b (part_held e.new_name name) (email_held e.new_email email)) (part_held e.old_name old_name)) (bracketed_held e.old_email old_email))

unless_empty_held : (to : Contact) → HoldsNo 10 to.name → IfSome (name_unless_empty to) (HoldsNo 10)
unless_empty_held to one = elim (bytes_eq to.name []) as (λ b. IfSome (if b then None else Some to.name) (HoldsNo 10)) [ true ↦ tt | false ↦ one ]

forms_held : (shared : List Text) (h : Histories) (to c : Contact) → IsWritableContact to → IsWritableContact c → OfForms (λ e. HoldsNo 10 (entry_line e)) to shared h c
forms_held shared h to c fits w =
    let name = name_held to fits in
    let short = unless_empty_held to name in (
      λ _. ((λ _ _. entry_held (short_form to) name tt tt fits.email.one_line), entry_held (long_form to c) short fits.email.one_line tt w.email.one_line),
      entry_held (named_form to c) short fits.email.one_line (name_held c w) w.email.one_line,
    )

pub unless_cut : (P : Mapping → Type 0) (es : List Mapping) → AllByRecursion P es → AllByRecursion P (if are_cut es then [] else es)
unless_cut P es all = elim (are_cut es) as (λ b. AllByRecursion P (if b then [] else es)) [ true ↦ tt | false ↦ all ]

module _ (shared : List Text) (base : Histories) (h : List Mapping) (given : AllByRecursion IsGiven h) (g : List Tally) (each_writable : Each IsWritableContact g) where
  at_member : (c : Contact) → c ∈ contacts g → IsWritableContact c
  at_member c i = at IsWritableContact (contacts g) (all_mapped (λ (u : Tally). u.contact) IsWritableContact g each_writable) c i

  -- what holds of the forms for contacts that lines can hold
  pub wanted_all : (P : Mapping → Type 0) → ((to c : Contact) → IsWritableContact to → IsWritableContact c → OfForms P to shared base c) → AllByRecursion P (wanted_entries shared base (alike h) g)
  wanted_all P forms = each_entry P (proper_answer shared (alike h) g) shared base (contacts g)
      (each (OfForms P (proper_answer shared (alike h) g) shared base) (contacts g) (λ c i.
      let d = proper_comes shared h g c i in
      forms (proper_answer shared (alike h) g) c (subst IsWritableContact d.2 (answers_given h d.0 given (at_member d.0 d.1)).0) (at_member c i)))

  pub suggestion_held : (kind : Kind) → HoldsNo 10 (kind_text kind) → IsWritableSuggestion true (suggestion shared base (alike h) kind g)
  suggestion_held kind one = record {
    kind = one;
    answers = answers_counted h given g each_writable;
    git_answers = git_answers_counted h given g each_writable;
    entries = unless_cut (λ e. HoldsNo 10 (entry_line e)) (entries_for kind shared base (alike h) g)
        (elim (is_of_several kind) as (λ b. AllByRecursion (λ e. HoldsNo 10 (entry_line e)) (if b then [] else wanted_entries shared base (alike h) g)) [ true ↦ tt | false ↦ wanted_all (λ e. HoldsNo 10 (entry_line e)) (forms_held shared base) ]);
  }

-- ---- what is left of them

marked_left : (seen : List Text) (s : Suggestion) → reviewed s ≡ true → IsWritableSuggestion true s → AllByRecursion (λ s. IsWritableSuggestion (reviewed s) s) (still_suggested seen s)
marked_left seen s is w = subst (λ b. AllByRecursion (λ s. IsWritableSuggestion (reviewed s) s) (if b then unless_empty (with_entries s (new_entries seen s.entries)) else s ∷ [])) (sym is) (by (s.is_cut || has_any (new_entries seen s.entries)))
  where
    left : Suggestion
    left = with_entries s (new_entries seen s.entries)

    fits : IsWritableSuggestion true (with_entries s (new_entries seen s.entries))
    fits = record {
      kind = w.kind;
      answers = w.answers;
      git_answers = w.git_answers;
      entries = all_filtered (λ e. not (is_remembered seen e)) (λ e. HoldsNo 10 (entry_line e)) (λ e. HoldsNo 10 (entry_line e)) (λ e one _. one) s.entries w.entries;
    }

    by : (b : Bool) → AllByRecursion (λ s. IsWritableSuggestion (reviewed s) s) (if b then with_entries s (new_entries seen s.entries) ∷ [] else [])
    by true = (subst (λ r. IsWritableSuggestion r (with_entries s (new_entries seen s.entries))) (sym is) fits, tt)
    by false = tt

unmarked_left : (seen : List Text) (s : Suggestion) → reviewed s ≡ false → IsWritableSuggestion false s → AllByRecursion (λ s. IsWritableSuggestion (reviewed s) s) (still_suggested seen s)
unmarked_left seen s is w = subst (λ b. AllByRecursion (λ s. IsWritableSuggestion (reviewed s) s) (if b then unless_empty (with_entries s (new_entries seen s.entries)) else s ∷ [])) (sym is)
    (subst (λ r. IsWritableSuggestion r s) (sym is) w, tt)

pub left_fits : (b : Bool) (seen : List Text) (s : Suggestion) → IsWritableSuggestion b s → AllByRecursion (IsWritableSuggestion b) (still_suggested seen s)
left_fits b seen s w = by (reviewed s) (s.is_cut || has_any (new_entries seen s.entries))
  where
    by : (r any : Bool) → AllByRecursion (IsWritableSuggestion b) (if r then (if any then with_entries s (new_entries seen s.entries) ∷ [] else []) else s ∷ [])
    by true true = (
      record {
        kind = w.kind;
        answers = w.answers;
        git_answers = w.git_answers;
        entries = all_filtered (λ e. not (is_remembered seen e)) (FitsLine b) (FitsLine b) (λ e f _. f) s.entries w.entries;
      },
      tt,
    )
    by true false = tt
    by false any = (w, tt)

-- ---- the groups of a class

pub each_group : (class : Contact → Text) (h : Histories) (ts : List Tally) (Q : List Tally → Type 0) → ((k : Text) → k ≢ [] → not (are_alike h (contacts (members class h ts k))) ≡ true → Q (members class h ts k)) → AllByRecursion Q (groups class h ts)
each_group class h ts Q f =
    let all = classes class h (contacts ts) in
    all_filtered (λ g. not (are_alike h (contacts g))) (λ g. not (are_alike h (contacts g)) ≡ true → Q g) Q (λ g q is. q is) (map (members class h ts) all)
    (all_mapped (members class h ts) (λ g. not (are_alike h (contacts g)) ≡ true → Q g) all (all_weaker all f (somes (map (λ c. class (answer_to h.ours c)) (contacts ts)))))

member_writable : (class : Contact → Text) (h : Histories) (ts : List Tally) (k : Text) → Each IsWritableContact ts → Each IsWritableContact (members class h ts k)
member_writable class h ts k all = all_filtered (λ t. bytes_eq k (class (answer_to h.ours t.contact))) (λ t. IsWritableContact t.contact) (λ t. IsWritableContact t.contact) (λ t w _. w) ts all

first_held : (h : List Mapping) (g : List Tally) → AllByRecursion IsGiven h → Each IsWritableContact g → HoldsNo 10 (first_answer (alike h) g).email
first_held h [] writable all = tt
first_held h (t ∷ g) writable all = (answers_given h t.contact writable all.0).0.email.one_line

-- ---- suggestions for emails

module _ (shared : List Text) (h : List Mapping) (ts : List Tally) (writable : AllByRecursion IsWritable h) (each_writable : Each IsWritableContact ts) where
  abbrev by_key : Text → List Tally
  by_key = members email_key (alike h) ts

  abbrev named : AllByRecursion HasNoEmptyName h
  named = writable_named h writable

  abbrev given : AllByRecursion IsGiven h
  given = all_given h writable

  no_class : (c : Contact) → (answer_to h c).email ≡ [] → email_class shared (answer_to h c) ≡ []
  no_class c none = ap (λ e. if list_any (bytes_eq (folded e)) shared then [] else folded e) none ∙ either_same (list_any (bytes_eq []) shared) []

  email_lines : (k : Text) → k ≢ [] → AllByRecursion IsGood (lines shared h h ts (email_class shared) k)
  email_lines = lines_good shared h h writable given ts each_writable (email_class shared) (λ t. proper_wanting shared h (these shared h h ts (email_class shared) t))
      (λ c i some none. some (no_class c none)) (λ c i some many. absurd (some (ap (λ s. if s then [] else folded (answer_to h c).email) many)))
      (email_spell shared h ts named)

  -- those of one person have a class by email
  key_class : (k : Text) → k ≢ [] → not (list_any (bytes_eq k) shared) ≡ true → members (email_class shared) (alike h) ts k ≡ by_key k
  key_class k some one = filter_agree (λ t. bytes_eq k (email_class shared (answer_to h t.contact))) (λ t. bytes_eq k (folded (answer_to h t.contact).email))
      (λ t. ap (bytes_eq k) (email_only shared (answer_to h t.contact)) ∙ only_same (λ j. not (list_any (bytes_eq j) shared)) k (folded (answer_to h t.contact).email) some one) ts

  good_entries : (k : Text) → k ≢ [] → not (are_alike (alike h) (contacts (by_key k))) ≡ true → AllByRecursion IsGood (suggested shared (alike h) ts (by_key k))
  good_entries k some is = subst (AllByRecursion IsGood) (sym (suggested_is shared (alike h) ts (by_key k))) (by (not (is_shared shared (first_answer (alike h) (by_key k)).email)) refl)
    where
      by : (b : Bool) → not (is_shared shared (first_answer (alike h) (by_key k)).email) ≡ b → AllByRecursion IsGood (if b then group_entries shared (alike h) (alike h) (by_key k) else [])
      by false many = tt
      by true one =
          let single : not (list_any (bytes_eq k) shared) ≡ true = sym (ap (λ e. not (list_any (bytes_eq e) shared)) (first_has shared (alike h) ts k (by_key k) (have_email shared (alike h) ts k) is)) ∙ one in
          unless_cut IsGood (wanted_entries shared (alike h) (alike h) (by_key k))
          (subst (λ g. AllByRecursion IsGood (wanted_entries shared (alike h) (alike h) g)) (key_class k some single) (email_lines k some))

  kind_held : (g : List Tally) → Each IsWritableContact g → HoldsNo 10 (kind_text (email_kind shared (alike h) g))
  kind_held g all = elim (is_shared shared (first_answer (alike h) g).email) as (λ b. HoldsNo 10 (kind_text (if b then by_shared_email (first_answer (alike h) g).email else by_email))) [
    | true ↦ first_held h g given all
    | false ↦ tt
  ]

  pub emails_fit : AllByRecursion (IsWritableSuggestion false) (email_suggestions shared (alike h) ts)
  emails_fit = all_mapped (λ g. suggestion shared (alike h) (alike h) (email_kind shared (alike h) g) g) (IsWritableSuggestion false) (groups email_key (alike h) ts)
      (each_group email_key (alike h) ts (λ g. IsWritableSuggestion false (suggestion shared (alike h) (alike h) (email_kind shared (alike h) g) g)) (λ k some is.
      let w = member_writable email_key (alike h) ts k each_writable in
      record {
        kind = kind_held (by_key k) w;
        answers = answers_counted h given (by_key k) w;
        git_answers = git_answers_counted h given (by_key k) w;
        entries = good_entries k some is;
      }))

  pub emails_left : (seen : List Text) → AllByRecursion (λ s. AllByRecursion (λ s. IsWritableSuggestion (reviewed s) s) (still_suggested seen s)) (email_suggestions shared (alike h) ts)
  emails_left seen =
      let make = λ (g : List Tally). suggestion shared (alike h) (alike h) (email_kind shared (alike h) g) g in
      all_mapped make (λ s. AllByRecursion (λ s. IsWritableSuggestion (reviewed s) s) (still_suggested seen s)) (groups email_key (alike h) ts)
      (all_weaker (groups email_key (alike h) ts) (λ g w. unmarked_left seen (make g) (email_kinds shared (alike h) g) w)
      (all_map make (IsWritableSuggestion false) (groups email_key (alike h) ts) emails_fit))

  pub emails_good : AllByRecursion IsGood (email_entries shared (alike h) ts)
  emails_good = all_joined IsGood (group_entries shared (alike h) (alike h)) (groups (email_class shared) (alike h) ts)
      (each_group (email_class shared) (alike h) ts (λ g. AllByRecursion IsGood (group_entries shared (alike h) (alike h) g))
      (λ k some _. unless_cut IsGood (lines shared h h ts (email_class shared) k) (email_lines k some)))

-- ---- suggestions that need review

-- those for groups of a class
class_left : (shared : List Text) (base : Histories) (h : List Mapping) (ts : List Tally) → AllByRecursion IsGiven h → Each IsWritableContact ts → (class : Contact → Text) (seen : List Text) (kind : List Tally → Kind)
    → ((g : List Tally) → needs_review (kind g) ≡ true) → ((g : List Tally) → Each IsWritableContact g → HoldsNo 10 (kind_text (kind g)))
    → AllByRecursion (λ s. AllByRecursion (λ s. IsWritableSuggestion (reviewed s) s) (still_suggested seen s)) (map (λ g. suggestion shared base (alike h) (kind g) g) (groups class (alike h) ts))
class_left shared base h ts given each_writable class seen kind needs held =
    let make = λ (g : List Tally). suggestion shared base (alike h) (kind g) g in
    all_mapped make (λ s. AllByRecursion (λ s. IsWritableSuggestion (reviewed s) s) (still_suggested seen s)) (groups class (alike h) ts)
    (each_group class (alike h) ts (λ g. AllByRecursion (λ s. IsWritableSuggestion (reviewed s) s) (still_suggested seen (make g))) (λ k some is.
    let g = members class (alike h) ts k in
    let w = member_writable class (alike h) ts k each_writable in
    marked_left seen (make g) (needs g) (suggestion_held shared base h given g w (kind g) (held g w))))

class_given : (shared : List Text) (h : List Mapping) (ts : List Tally) → AllByRecursion IsGiven h → Each IsWritableContact ts → (class : Contact → Text) → AllByRecursion IsGiven (all_entries shared class (alike h) (alike h) ts)
class_given shared h ts given each_writable class = all_joined IsGiven (group_entries shared (alike h) (alike h)) (groups class (alike h) ts)
    (each_group class (alike h) ts (λ g. AllByRecursion IsGiven (group_entries shared (alike h) (alike h) g))
    (λ k some _. unless_cut IsGiven (wanted_entries shared (alike h) (alike h) (members class (alike h) ts k))
    (wanted_all shared (alike h) h given (members class (alike h) ts k) (member_writable class (alike h) ts k each_writable) IsGiven (forms_given shared (alike h)))))

-- ---- the first login that links

module _ (h : List Mapping) (given : AllByRecursion IsGiven h) (ts : List Tally) (each_writable : Each IsWritableContact ts) where
  answers_fit : (g : List Tally) → Each IsWritableContact g → AllByRecursion IsWritableContact (answers (alike h) g)
  answers_fit g all = all_mapped (λ (t : Tally). t.contact) IsWritableContact (tallied (map (answered h) g))
      (each_tallied IsWritableContact (map (answered h) g) (all_mapped (answered h) (λ t. IsWritableContact t.contact) g (all_weaker g (λ t w. (answers_given h t.contact given w).0) all)))

  emails_held : (a : Contact) → IsWritableContact a → AllByRecursion (HoldsNo 10) (emails_of (alike h) ts a)
  emails_held a w = (
    w.email.one_line,
    all_mapped (λ (c : Contact). c.email) (HoldsNo 10) (answered_by (alike h) ts a)
        (all_filtered (λ c. same_contact (answer_to h c) a) IsWritableContact (λ c. HoldsNo 10 c.email) (λ c v _. v.email.one_line) (contacts ts) (all_mapped (λ (t : Tally). t.contact) IsWritableContact ts each_writable)),
  )

  logins_held : (shared : List Text) (a : Contact) → IsWritableContact a → AllByRecursion (HoldsNo 10) (linking_logins shared (alike h) ts a)
  logins_held shared a w = all_mapped login (HoldsNo 10) _ (all_filtered (λ email. list_any (another_has (name_keys (alike h) ts) (participants shared (alike h) ts) a) (email_keys shared email))
      (HoldsNo 10) (λ e. HoldsNo 10 (login e)) (λ e one _. login_held e one) (emails_of (alike h) ts a) (emails_held a w))

  first_of_held : (xs : List Text) → AllByRecursion (HoldsNo 10) xs → HoldsNo 10 (first_or_empty xs)
  first_of_held [] all = tt
  first_of_held (x ∷ xs) all = all.0

  login_kind_held : (shared : List Text) (g : List Tally) → Each IsWritableContact g → HoldsNo 10 (kind_text (login_kind shared (alike h) ts g))
  login_kind_held shared g all = first_of_held (flat_map (linking_logins shared (alike h) ts) (answers (alike h) g))
      (all_joined (HoldsNo 10) (linking_logins shared (alike h) ts) (answers (alike h) g) (all_weaker (answers (alike h) g) (logins_held shared) (answers_fit g all)))

-- ==== the text of all suggestions

module _ (shared : List Text) (c : GroupClasses) (seen : List Text) (h : List Mapping) (ts : List Tally) (writable : AllByRecursion IsWritable h) (each_writable : Each IsWritableContact ts) where
  abbrev mailed : List Mapping
  mailed = with_emails shared h ts

  abbrev full : List Mapping
  full = with_classes shared c.by_name mailed ts

  mailed_given : AllByRecursion IsGiven mailed
  mailed_given = all_given mailed (all_append IsWritable h (email_entries shared (alike h) ts) writable (all_weaker (email_entries shared (alike h) ts) (λ e good. good.0) (emails_good shared h ts writable each_writable)))

  full_given : AllByRecursion IsGiven full
  full_given = all_append IsGiven mailed (all_entries shared c.by_name (alike mailed) (alike mailed) ts) mailed_given (class_given shared mailed ts mailed_given each_writable c.by_name)

  names_held : (g : List Tally) → Each IsWritableContact g → HoldsNo 10 (kind_text (name_kind (alike mailed) g))
  names_held g all = elim (have_one_name (alike mailed) g) as (λ b. HoldsNo 10 (kind_text (if b then by_name else by_alike_names))) [ true ↦ tt | false ↦ tt ]

  logins_left : AllByRecursion (λ s. AllByRecursion (λ s. IsWritableSuggestion (reviewed s) s) (still_suggested seen s)) (login_suggestions shared c (alike h) ts)
  logins_left = class_left shared (alike mailed) full ts full_given each_writable c.by_login seen (login_kind shared (alike full) ts) (λ g. refl) (login_kind_held full full_given ts each_writable shared)

  all_left : AllByRecursion (λ s. AllByRecursion (λ s. IsWritableSuggestion (reviewed s) s) (still_suggested seen s))
      (email_suggestions shared (alike h) ts ++ name_suggestions shared c (alike h) ts ++ login_suggestions shared c (alike h) ts)
  all_left =
      let Fits : Suggestion → Type 0 = λ s. AllByRecursion (λ s. IsWritableSuggestion (reviewed s) s) (still_suggested seen s) in
      all_append Fits (email_suggestions shared (alike h) ts ++ name_suggestions shared c (alike h) ts) (login_suggestions shared c (alike h) ts)
      (all_append Fits (email_suggestions shared (alike h) ts) (name_suggestions shared c (alike h) ts) (emails_left shared h ts writable each_writable seen)
      (class_left shared (alike mailed) mailed ts mailed_given each_writable c.by_name seen (name_kind (alike mailed)) (name_kinds (alike mailed)) names_held))
      logins_left

  pub all_fit : AllByRecursion (λ s. IsWritableSuggestion (reviewed s) s) (suggestions shared c seen (alike h) ts)
  all_fit = all_joined (λ s. IsWritableSuggestion (reviewed s) s) (still_suggested seen)
      (email_suggestions shared (alike h) ts ++ name_suggestions shared c (alike h) ts ++ login_suggestions shared c (alike h) ts) all_left

  -- it is read as the entries for emails
  pub all_read_as_emails : mappings_of (suggestions_text (suggestions shared c seen (alike h) ts)) ≡ email_entries shared (alike h) ts
  all_read_as_emails = suggested_read shared c seen (alike h) ts all_fit

-- ==== with the marks deleted of the groups whose classes pass a test

pub entries_are : (shared : List Text) (base h : List Mapping) (kind : Kind) → is_of_several kind ≡ false → (g : List Tally) → (suggestion shared (alike base) (alike h) kind g).entries ≡ group_entries shared (alike base) (alike h) g
entries_are shared base h kind one g = ap (λ b. let es = if b then [] else wanted_entries shared (alike base) (alike h) g in if are_cut es then [] else es) one

unmarked_passes : (b : Bool) → not b ≡ false → b ≡ true
unmarked_passes true off = refl
unmarked_passes false off = absurd (true≢false off)

-- the groups of one class, whose entries are for the answers of `base`
module _ (shared : List Text) (base h : List Mapping) (ts : List Tally) (class : Contact → Text) (p : Text → Bool) (seen : List Text)
    (kind : List Tally → Kind) (review : (g : List Tally) → needs_review (kind g) ≡ true) (one : (g : List Tally) → is_of_several (kind g) ≡ false) where
  abbrev make : List Tally → Suggestion
  make g = suggestion shared (alike base) (alike h) (kind g) g

  abbrev marks : List Tally → Bool
  marks g = has_marks p class (alike h) g

  abbrev unmarked : List Tally → List Mapping
  unmarked g = unmarked_entries (λ _. marks g) (still_suggested seen (make g))

  pub groups_are : flat_map unmarked (groups class (alike h) ts) ≡ new_entries seen (all_entries shared (only p class) (alike base) (alike h) ts)
  groups_are =
      let gs = groups class (alike h) ts in
      flat_same unmarked (λ g. if marks g then [] else new_entries seen (make g).entries) gs (all_of _ (λ g. left_entries seen (marks g) (make g) (review g)) gs)
      ∙ ap (λ (F : List Tally → List Mapping). flat_map (λ g. if marks g then [] else new_entries seen (F g)) gs) (λ i g. entries_are shared base h (kind g) (one g) g i)
      ∙ passing_are (λ g. new_entries seen (group_entries shared (alike base) (alike h) g)) (alike h) ts class p
      ∙ new_joined seen (group_entries shared (alike base) (alike h)) (groups (only p class) (alike h) ts)

  module _ (given : AllByRecursion IsGiven h) (each_writable : Each IsWritableContact ts) (held : (g : List Tally) → Each IsWritableContact g → HoldsNo 10 (kind_text (kind g)))
      (good : (k : Text) → k ≢ [] → p k ≡ true → AllByRecursion IsGood (lines shared base h ts class k)) where
    with_marks : (k : Text) → k ≢ [] → (b : Bool) → (b ≡ false → p k ≡ true) → IsWritableSuggestion b (make (members class (alike h) ts k))
    with_marks k some true passes =
        let g = members class (alike h) ts k in
        let w = member_writable class (alike h) ts k each_writable in
        suggestion_held shared (alike base) h given g w (kind g) (held g w)
    with_marks k some false passes =
        let g = members class (alike h) ts k in
        let w = member_writable class (alike h) ts k each_writable in
        record {
          kind = held g w;
          answers = answers_counted h given g w;
          git_answers = git_answers_counted h given g w;
          entries = subst (AllByRecursion IsGood) (sym (entries_are shared base h (kind g) (one g) g)) (unless_cut IsGood (lines shared base h ts class k) (good k some (passes refl)));
        }

    pub group_fits : (k : Text) → k ≢ [] → not (are_alike (alike h) (contacts (members class (alike h) ts k))) ≡ true → let g = members class (alike h) ts k in IsWritableSuggestion (marks g) (make g)
    group_fits k some is = with_marks k some (marks (members class (alike h) ts k)) (λ off. ap p (sym (class_is (alike h) ts class k is)) ∙ unmarked_passes (p (class_of class (alike h) (members class (alike h) ts k))) off)

    groups_said : Says (groups_text seen p class (alike h) ts make) (flat_map unmarked (groups class (alike h) ts))
    groups_said = each_said (λ g. text_with (λ _. marks g) (still_suggested seen (make g))) unmarked (groups class (alike h) ts)
        (each_group class (alike h) ts (λ g. Says (text_with (λ _. marks g) (still_suggested seen (make g))) (unmarked g))
        (λ k some is. let g = members class (alike h) ts k in texts_said (λ _. marks g) (still_suggested seen (make g)) (left_fits (marks g) seen (make g) (group_fits k some is))))

    pub groups_read : Says (groups_text seen p class (alike h) ts make) (new_entries seen (all_entries shared (only p class) (alike base) (alike h) ts))
    groups_read = subst (Says (groups_text seen p class (alike h) ts make)) groups_are groups_said

-- ---- those for alike names, and those for logins

pub name_of_one : (h : Histories) (g : List Tally) → is_of_several (name_kind h g) ≡ false
name_of_one h g = elim (have_one_name h g) as (λ b. is_of_several (if b then by_name else by_alike_names) ≡ false) [ true ↦ refl | false ↦ refl ]

module _ (shared : List Text) (c : GroupClasses) (p q : Text → Bool) (seen : List Text) (h : List Mapping) (ts : List Tally) (writable : AllByRecursion IsWritable h) (each_writable : Each IsWritableContact ts)
    (careful : IsCareful shared c.by_name never (with_emails shared h ts) ts)
    (unnamed : (d : Contact) → d ∈ contacts ts → (answer_to (with_emails shared h ts) d).name ≡ [] → c.by_name (answer_to (with_emails shared h ts) d) ≡ [])
    (ready : (k : Text) → q k ≡ true → IsCareful shared c.by_login (cut_before shared h ts (writable_named h writable) c.by_name careful) (with_classes shared c.by_name (with_emails shared h ts) ts) ts) where
  abbrev m : List Mapping
  m = with_emails shared h ts

  abbrev f : List Mapping
  f = with_classes shared c.by_name m ts

  m_writable : AllByRecursion IsWritable m
  m_writable = all_append IsWritable h (email_entries shared (alike h) ts) writable (all_weaker (email_entries shared (alike h) ts) (λ e good. good.0) (emails_good shared h ts writable each_writable))

  m_given : AllByRecursion IsGiven m
  m_given = all_given m m_writable

  f_given : AllByRecursion IsGiven f
  f_given = full_given shared c seen h ts writable each_writable

  name_lines : (k : Text) → k ≢ [] → p k ≡ true → AllByRecursion IsGood (lines shared m m ts c.by_name k)
  name_lines k some _ = lines_good shared m m m_writable m_given ts each_writable c.by_name (λ t. proper_wanting shared m (these shared m m ts c.by_name t))
      (λ d i some none. some (at _ (contacts ts) careful.emails d i none)) (λ d i some many. at _ (contacts ts) careful.names d i many some) (careful_spell shared m ts c.by_name careful) k some

  login_lines : (k : Text) → k ≢ [] → q k ≡ true → AllByRecursion IsGood (lines shared m f ts c.by_login k)
  login_lines k some passes = lines_good shared m f m_writable f_given ts each_writable c.by_login (next_wants shared h ts named_h c.by_name careful unnamed c.by_login)
      (λ d i some none. some (at _ (contacts ts) also.emails d i none)) (λ d i some many. has_name d i some many (in_block shared h ts named_h c.by_name careful d) refl)
      (next_spell shared h ts named_h c.by_name careful c.by_login also) k some
    where
      named_h : AllByRecursion HasNoEmptyName h
      named_h = writable_named h writable

      also : IsCareful shared c.by_login (cut_before shared h ts named_h c.by_name careful) f ts
      also = ready k passes

      -- at an email that several people share
      has_name : (d : Contact) → d ∈ contacts ts → c.by_login (answer_to f d) ≢ [] → is_shared shared (answer_to m d).email ≡ true → (b : Bool) → in_block shared h ts named_h c.by_name careful d ≡ b → d.name ≢ []
      has_name d i some many true on = at _ (contacts ts) careful.names d i many (active_some shared m m ts c.by_name (c.by_name (answer_to m d)) on)
      has_name d i some many false off = at _ (contacts ts) also.names d i (ap (λ (a : Contact). is_shared shared a.email) (unchanged shared h ts named_h c.by_name careful d i (shared_uncut shared h ts named_h d i many) off) ∙ many) some

  abbrev make_name : List Tally → Suggestion
  make_name g = suggestion shared (alike m) (alike m) (name_kind (alike m) g) g

  abbrev make_login : List Tally → Suggestion
  make_login g = suggestion shared (alike m) (alike f) (login_kind shared (alike f) ts g) g

  pub name_fits : (k : Text) → k ≢ [] → not (are_alike (alike m) (contacts (members c.by_name (alike m) ts k))) ≡ true
      → let g = members c.by_name (alike m) ts k in IsWritableSuggestion (has_marks p c.by_name (alike m) g) (make_name g)
  name_fits = group_fits shared m m ts c.by_name p seen (name_kind (alike m)) (name_kinds (alike m)) (name_of_one (alike m)) m_given each_writable (names_held shared c seen h ts writable each_writable) name_lines

  pub login_fits : (k : Text) → k ≢ [] → not (are_alike (alike f) (contacts (members c.by_login (alike f) ts k))) ≡ true
      → let g = members c.by_login (alike f) ts k in IsWritableSuggestion (has_marks q c.by_login (alike f) g) (make_login g)
  login_fits = group_fits shared m f ts c.by_login q seen (login_kind shared (alike f) ts) (λ g. refl) (λ g. refl) f_given each_writable (login_kind_held f f_given ts each_writable shared) login_lines

  names_said : Says (groups_text seen p c.by_name (alike m) ts make_name) (new_entries seen (all_entries shared (only p c.by_name) (alike m) (alike m) ts))
  names_said = groups_read shared m m ts c.by_name p seen (name_kind (alike m)) (name_kinds (alike m)) (name_of_one (alike m)) m_given each_writable (names_held shared c seen h ts writable each_writable) name_lines

  logins_said : Says (groups_text seen q c.by_login (alike f) ts make_login) (new_entries seen (all_entries shared (only q c.by_login) (alike m) (alike f) ts))
  logins_said = groups_read shared m f ts c.by_login q seen (login_kind shared (alike f) ts) (λ g. refl) (λ g. refl) f_given each_writable (login_kind_held f f_given ts each_writable shared) login_lines

  emails_said : Says (suggestions_text (flat_map (still_suggested seen) (email_suggestions shared (alike h) ts))) (email_entries shared (alike h) ts)
  emails_said =
      let emails = email_suggestions shared (alike h) ts in
      let left = flat_map (still_suggested seen) emails in
      subst (Says (suggestions_text left)) (all_unmarked seen emails ∙ emails_unmarked shared c seen (alike h) ts)
      (texts_said reviewed left (all_joined (λ s. IsWritableSuggestion (reviewed s) s) (still_suggested seen) emails (emails_left shared h ts writable each_writable seen)))

  pub selected_read : mappings_of (selected_text shared c p q seen (alike h) ts)
      ≡ email_entries shared (alike h) ts ++ new_entries seen (all_entries shared (only p c.by_name) (alike m) (alike m) ts ++ all_entries shared (only q c.by_login) (alike m) (alike f) ts)
  selected_read =
      let a = suggestions_text (flat_map (still_suggested seen) (email_suggestions shared (alike h) ts)) in
      let b = groups_text seen p c.by_name (alike m) ts make_name in
      let d = groups_text seen q c.by_login (alike f) ts make_login in
      let es = email_entries shared (alike h) ts in
      let names = all_entries shared (only p c.by_name) (alike m) (alike m) ts in
      let logins = all_entries shared (only q c.by_login) (alike m) (alike f) ts in
      says_whole (a ++ b ++ d) (es ++ new_entries seen names ++ new_entries seen logins)
      (both_said (a ++ b) d (es ++ new_entries seen names) (new_entries seen logins) (both_said a b es (new_entries seen names) emails_said names_said) logins_said)
      ∙ new_after seen es names logins
