-- Some of the groups, and the entries of suggestions without marks.
use Rattle.std.proofs.Common.{◌≡◌, ◌≢◌, ◌∙◌, ◌&&◌, ◌||◌, Bool, true, false, true≢false, not, List, [], ◌∷◌, ◌++◌, append-nil, append_assoc, bytes_eq, filter, map, if◌then◌else◌, refl, rules, sym, ap}
use Rattle.std.specs.List.{AllByRecursion, flat_map, list_any}
use Rattle.std.proofs.lemmas.Grind.{flat_map-append}
use Rattle.std.proofs.lemmas.List.Elements.{filter-append, filter_agree}
use Rattle.std.proofs.lemmas.List.Folds.{flat_map-map}
use Rattle.mailmap_entries.specs.Entries.{Mapping}
use Rattle.mailmap_entries.specs.Folding.{Text, folded}
use Rattle.mailmap_entries.proofs.Parts.{all_weaker, filter-filter}
use Rattle.mailmap_contacts.specs.Contacts.{Contact, Tally, answer_to}
use Rattle.mailmap_contacts.proofs.Steps.{all_filtered}
use Rattle.mailmap_suggestions.specs.Forms.{Histories, distinct, is_shared}
use Rattle.mailmap_suggestions.specs.GroupEntries.{are_alike, are_cut, classes, contacts, email_class, email_entries, group_entries, groups, members, only, wanted_entries}
use Rattle.mailmap_suggestions.specs.Suggestions.{GroupClasses, Suggestion, after_emails, after_all_names, by_alike_names, by_email, by_name, by_shared_email, email_key, email_kind, email_suggestions, entries_for, first_answer, has_any, have_one_name, is_remembered, login_kind, login_suggestions, name_kind, name_suggestions, needs_review, new_entries, still_suggested, suggestion, suggestions, unless_empty, with_entries}
use Rattle.mailmap_suggestions.specs.SuggestedText.{suggestion_text, suggestions_text}
use Rattle.mailmap_suggestions.specs.Written.{IsWritableSuggestion, class_of, has_marks, selected_text, text_with, unmarked_entries}
use Rattle.mailmap_grammar.specs.Lines.{mappings_of}
use Rattle.mailmap_suggestions.proofs.Distinct.{all_of, same_bytes, somes}
use Rattle.mailmap_suggestions.proofs.Texts.{text_read}
use Rattle.mailmap_suggestions.proofs.United.{flat_filtered, flat_same, only_same}

-- ---- texts that pass a test

swapped : (a b : Bool) → (a && b) ≡ (b && a)
swapped true true = refl
swapped true false = refl
swapped false true = refl
swapped false false = refl

-- a text that fails the test can be left out
left_out : (p : Text → Bool) (x y : Text) → p x ≡ false → (e : Bool) → bytes_eq x y ≡ e → p y ≡ (not e && p y)
left_out p x y out true same = ap p (sym (same_bytes x y same)) ∙ out
left_out p x y out false differs = refl

first_passing : (p : Text → Bool) (x : Text) (kept once : List Text) → distinct kept ≡ filter p once → (b : Bool) → p x ≡ b
    → distinct (if b then x ∷ kept else kept) ≡ (if b then x ∷ filter p (filter (λ y. not (bytes_eq x y)) once) else filter p (filter (λ y. not (bytes_eq x y)) once))
first_passing p x kept once same true is = ap (λ l. x ∷ l) (ap (filter (λ y. not (bytes_eq x y))) same ∙ filter-filter (λ y. not (bytes_eq x y)) p once
    ∙ filter_agree (λ y. p y && not (bytes_eq x y)) (λ y. not (bytes_eq x y) && p y) (λ y. swapped (p y) (not (bytes_eq x y))) once ∙ sym (filter-filter p (λ y. not (bytes_eq x y)) once))
first_passing p x kept once same false out = same ∙ filter_agree p (λ y. not (bytes_eq x y) && p y) (λ y. left_out p x y out (bytes_eq x y) refl) once ∙ sym (filter-filter p (λ y. not (bytes_eq x y)) once)

distinct_passing : (p : Text → Bool) (xs : List Text) → distinct (filter p xs) ≡ filter p (distinct xs)
distinct_passing p [] = refl
distinct_passing p (x ∷ xs) = first_passing p x (filter p xs) (distinct xs) (distinct_passing p xs) (p x) refl

first_some : (p : Text → Bool) (x : Text) (left right : List Text) → left ≡ filter p right → (b : Bool) → p x ≡ b → (s : Bool) → not (bytes_eq x []) ≡ s
    → (if not (bytes_eq (if b then x else []) []) then (if b then x else []) ∷ left else left) ≡ filter p (if s then x ∷ right else right)
first_some p x left right same true is true some = ap (λ z. if z then x ∷ left else left) some ∙ ap (λ l. x ∷ l) same ∙ (λ i. if sym is i then x ∷ filter p right else filter p right)
first_some p x left right same true is false some = ap (λ z. if z then x ∷ left else left) some ∙ same
first_some p x left right same false is true some = same ∙ (λ i. if sym is i then x ∷ filter p right else filter p right)
first_some p x left right same false is false some = same

some_passing : {X : Type 0} (p : Text → Bool) (text : X → Text) (xs : List X) → filter (λ k. not (bytes_eq k [])) (map (λ x. if p (text x) then text x else []) xs) ≡ filter p (filter (λ k. not (bytes_eq k [])) (map text xs))
some_passing p text [] = refl
some_passing p text (x ∷ xs) = first_some p (text x) (filter (λ k. not (bytes_eq k [])) (map (λ x. if p (text x) then text x else []) xs)) (filter (λ k. not (bytes_eq k [])) (map text xs))
    (some_passing p text xs) (p (text x)) refl (not (bytes_eq (text x) [])) refl

filtered_parts : {X Y : Type 0} (p : X → Bool) (part : X → List Y) (xs : List X) → flat_map part (filter p xs) ≡ flat_map (λ x. if p x then part x else []) xs
filtered_parts p part [] = refl
filtered_parts p part (x ∷ xs) = search (rules, filtered_parts p part xs)

-- ---- the groups of the classes that pass a test

module _ (F : List Tally → List Mapping) (h : Histories) (ts : List Tally) (class : Contact → Text) where
  abbrev those : Text → List Tally
  those = members class h ts

  -- what a class gives
  abbrev pub part_of : Text → List Mapping
  part_of k = if not (are_alike h (contacts (those k))) then F (those k) else []

  pub by_classes : flat_map F (groups class h ts) ≡ flat_map part_of (classes class h (contacts ts))
  by_classes = flat_filtered those (λ g. not (are_alike h (contacts g))) F (classes class h (contacts ts))

  some_classes : AllByRecursion (λ k. k ≢ []) (classes class h (contacts ts))
  some_classes = somes (map (λ c. class (answer_to h.ours c)) (contacts ts))

  module _ (p : Text → Bool) where
    only_classes : classes (only p class) h (contacts ts) ≡ filter p (classes class h (contacts ts))
    only_classes = ap distinct (some_passing p (λ c. class (answer_to h.ours c)) (contacts ts)) ∙ distinct_passing p (filter (λ k. not (bytes_eq k [])) (map (λ c. class (answer_to h.ours c)) (contacts ts)))

    abbrev only_part : Text → List Mapping
    only_part k = if not (are_alike h (contacts (members (only p class) h ts k))) then F (members (only p class) h ts k) else []

    one_part : (k : Text) → k ≢ [] → (if p k then only_part k else []) ≡ (if p k then part_of k else [])
    one_part k some = elim (p k) as (λ b. p k ≡ b → (if b then only_part k else []) ≡ (if b then part_of k else [])) [
      | true ↦ λ is. ap (λ g. if not (are_alike h (contacts g)) then F g else [])
          (filter_agree (λ t. bytes_eq k (only p class (answer_to h.ours t.contact))) (λ t. bytes_eq k (class (answer_to h.ours t.contact))) (λ t. only_same p k (class (answer_to h.ours t.contact)) some is) ts)
      | false ↦ λ _. refl
    ] refl

    pub by_passing : flat_map F (groups (only p class) h ts) ≡ flat_map (λ k. if p k then part_of k else []) (classes class h (contacts ts))
    by_passing = flat_filtered (members (only p class) h ts) (λ g. not (are_alike h (contacts g))) F (classes (only p class) h (contacts ts))
        ∙ ap (flat_map only_part) only_classes ∙ filtered_parts p only_part (classes class h (contacts ts))
        ∙ flat_same (λ k. if p k then only_part k else []) (λ k. if p k then part_of k else []) (classes class h (contacts ts)) (all_weaker (classes class h (contacts ts)) one_part some_classes)

-- ---- the entries of the suggestions for emails

shared_key : List Text → Text → Bool
shared_key shared k = list_any (bytes_eq k) shared

pub email_only : (shared : List Text) (a : Contact) → email_class shared a ≡ only (λ k. not (list_any (bytes_eq k) shared)) email_key a
email_only shared a = by (is_shared shared a.email)
  where
    by : (s : Bool) → (if s then [] else folded a.email) ≡ (if not s then folded a.email else [])
    by true = refl
    by false = refl

module _ (shared : List Text) (h : Histories) (ts : List Tally) where
  abbrev pub with_email : Text → List Tally
  with_email = members email_key h ts

  abbrev pub suggested : List Tally → List Mapping
  suggested g = (suggestion shared h h (email_kind shared h g) g).entries

  pub suggested_is : (g : List Tally) → suggested g ≡ (if not (is_shared shared (first_answer h g).email) then group_entries shared h h g else [])
  suggested_is g = by (is_shared shared (first_answer h g).email)
    where
      by : (s : Bool) → (let es = entries_for (if s then by_shared_email (first_answer h g).email else by_email) shared h h g in if are_cut es then [] else es)
          ≡ (if not s then (if are_cut (wanted_entries shared h h g) then [] else wanted_entries shared h h g) else [])
      by true = refl
      by false = refl

  -- all of a group have its email
  pub first_has : (k : Text) (g : List Tally) → AllByRecursion (λ t. folded (answer_to h.ours t.contact).email ≡ k) g → not (are_alike h (contacts g)) ≡ true → folded (first_answer h g).email ≡ k
  first_has k [] all is = absurd (true≢false (sym is))
  first_has k (t ∷ g) all is = all.0

  pub have_email : (k : Text) → AllByRecursion (λ t. folded (answer_to h.ours t.contact).email ≡ k) (with_email k)
  have_email k = all_filtered (λ t. bytes_eq k (folded (answer_to h.ours t.contact).email)) (λ t. Unit {0}) (λ t. folded (answer_to h.ours t.contact).email ≡ k)
      (λ t _ same. sym (same_bytes k (folded (answer_to h.ours t.contact).email) same)) ts (all_of (λ t. Unit {0}) (λ t. tt) ts)

  key_part : (k : Text) → part_of suggested h ts email_key k ≡ (if not (list_any (bytes_eq k) shared) then part_of (group_entries shared h h) h ts email_key k else [])
  key_part k = by (not (are_alike h (contacts (with_email k)))) refl (not (list_any (bytes_eq k) shared)) refl
    where
      g : List Tally
      g = with_email k

      by : (a : Bool) → not (are_alike h (contacts (with_email k))) ≡ a → (s : Bool) → not (list_any (bytes_eq k) shared) ≡ s
          → (if a then suggested (with_email k) else []) ≡ (if s then (if a then group_entries shared h h (with_email k) else []) else [])
      by false is true one = refl
      by false is false many = refl
      by true is s one = suggested_is (with_email k) ∙ ap (λ b. if b then group_entries shared h h (with_email k) else [])
          (ap (λ e. not (list_any (bytes_eq e) shared)) (first_has k (with_email k) (have_email k) is) ∙ one)

  pub email_suggested : flat_map (λ s. s.entries) (email_suggestions shared h ts) ≡ email_entries shared h ts
  email_suggested = flat_map-map (λ (s : Suggestion). s.entries) (λ g. suggestion shared h h (email_kind shared h g) g) (groups email_key h ts)
      ∙ by_classes suggested h ts email_key
      ∙ flat_same (part_of suggested h ts email_key) (λ k. if not (list_any (bytes_eq k) shared) then part_of (group_entries shared h h) h ts email_key k else []) (classes email_key h (contacts ts))
      (all_of _ key_part (classes email_key h (contacts ts)))
      ∙ sym (by_passing (group_entries shared h h) h ts email_key (λ k. not (list_any (bytes_eq k) shared)))
      ∙ ap (λ class. flat_map (group_entries shared h h) (groups class h ts)) (λ i a. sym (email_only shared a) i)

-- ---- the entries of groups whose classes pass a test

-- the class of a group
module _ (h : Histories) (ts : List Tally) (class : Contact → Text) where
  class_first : (k : Text) (g : List Tally) → AllByRecursion (λ t. class (answer_to h.ours t.contact) ≡ k) g → not (are_alike h (contacts g)) ≡ true → class_of class h g ≡ k
  class_first k [] all is = absurd (true≢false (sym is))
  class_first k (t ∷ g) all is = all.0

  have_class : (k : Text) → AllByRecursion (λ t. class (answer_to h.ours t.contact) ≡ k) (members class h ts k)
  have_class k = all_filtered (λ t. bytes_eq k (class (answer_to h.ours t.contact))) (λ t. Unit {0}) (λ t. class (answer_to h.ours t.contact) ≡ k)
      (λ t _ same. sym (same_bytes k (class (answer_to h.ours t.contact)) same)) ts (all_of (λ t. Unit {0}) (λ t. tt) ts)

  pub class_is : (k : Text) → not (are_alike h (contacts (members class h ts k))) ≡ true → class_of class h (members class h ts k) ≡ k
  class_is k is = class_first k (members class h ts k) (have_class k) is

module _ (F : List Tally → List Mapping) (h : Histories) (ts : List Tally) (class : Contact → Text) (p : Text → Bool) where
  abbrev passing : List Tally → List Mapping
  passing g = if has_marks p class h g then [] else F g

  if_passing : (k : Text) (a : Bool) → not (are_alike h (contacts (members class h ts k))) ≡ a → (b : Bool) → p k ≡ b
      → (if a then passing (members class h ts k) else []) ≡ (if b then (if a then F (members class h ts k) else []) else [])
  if_passing k false is true one = refl
  if_passing k false is false one = refl
  if_passing k true is true one = ap (λ r. if not r then [] else F (members class h ts k)) (ap p (class_is h ts class k is) ∙ one)
  if_passing k true is false one = ap (λ r. if not r then [] else F (members class h ts k)) (ap p (class_is h ts class k is) ∙ one)

  pub passing_are : flat_map passing (groups class h ts) ≡ flat_map F (groups (only p class) h ts)
  passing_are = by_classes passing h ts class
      ∙ flat_same (part_of passing h ts class) (λ k. if p k then part_of F h ts class k else []) (classes class h (contacts ts))
      (all_of _ (λ k. if_passing k (not (are_alike h (contacts (members class h ts k)))) refl (p k) refl) (classes class h (contacts ts)))
      ∙ sym (by_passing F h ts class p)

-- ---- the entries of all suggestions without marks

abbrev pub reviewed : Suggestion → Bool
reviewed s = needs_review s.kind

still_unmarked : (seen : List Text) (s : Suggestion) → unmarked_entries reviewed (still_suggested seen s) ≡ (if reviewed s then [] else s.entries)
still_unmarked seen s = by (reviewed s) refl
  where
    -- nothing of one that needs review
    none : reviewed s ≡ true → (b : Bool) → unmarked_entries reviewed (if b then with_entries s (new_entries seen s.entries) ∷ [] else []) ≡ []
    none is true = ap (λ r. (if r then [] else new_entries seen s.entries) ++ []) is
    none is false = refl

    by : (r : Bool) → reviewed s ≡ r → unmarked_entries reviewed (if r then unless_empty (with_entries s (new_entries seen s.entries)) else s ∷ []) ≡ (if r then [] else s.entries)
    by true is = none is (s.is_cut || has_any (new_entries seen s.entries))
    by false is = append-nil (if reviewed s then [] else s.entries) ∙ ap (λ r. if r then [] else s.entries) is

pub all_unmarked : (seen : List Text) (found : List Suggestion) → unmarked_entries reviewed (flat_map (still_suggested seen) found) ≡ unmarked_entries reviewed found
all_unmarked seen [] = refl
all_unmarked seen (s ∷ rest) = flat_map-append (λ s. if reviewed s then [] else s.entries) (still_suggested seen s) (flat_map (still_suggested seen) rest)
    ∙ (λ i. still_unmarked seen s i ++ all_unmarked seen rest i)

-- of one that needs review, without its mark: those that no line remembers
module _ (seen : List Text) where
  unless_any : (b : Bool) (es : List Mapping) → has_any es ≡ false → [] ≡ (if b then [] else es)
  unless_any true es is = refl
  unless_any false [] is = refl
  unless_any false (e ∷ es) is = absurd (true≢false is)

  pub left_entries : (b : Bool) (s : Suggestion) → reviewed s ≡ true → unmarked_entries (λ _. b) (still_suggested seen s) ≡ (if b then [] else new_entries seen s.entries)
  left_entries b s is = ap (λ r. unmarked_entries (λ _. b) (if r then unless_empty (with_entries s (new_entries seen s.entries)) else s ∷ [])) is
      ∙ by s.is_cut (has_any (new_entries seen s.entries)) refl
    where
      by : (is_cut any : Bool) → has_any (new_entries seen s.entries) ≡ any
          → unmarked_entries (λ _. b) (if is_cut || any then with_entries s (new_entries seen s.entries) ∷ [] else []) ≡ (if b then [] else new_entries seen s.entries)
      by true any _ = append-nil (if b then [] else new_entries seen s.entries)
      by false true _ = append-nil (if b then [] else new_entries seen s.entries)
      by false false none = unless_any b (new_entries seen s.entries) none

  pub new_joined : (F : List Tally → List Mapping) (gs : List (List Tally)) → flat_map (λ g. new_entries seen (F g)) gs ≡ new_entries seen (flat_map F gs)
  new_joined F [] = refl
  new_joined F (g ∷ gs) = ap (λ l. new_entries seen (F g) ++ l) (new_joined F gs) ∙ sym (filter-append (λ e. not (is_remembered seen e)) (F g) (flat_map F gs))

  -- entries, and then those of two lists that no line remembers
  pub new_after : (es fs gs : List Mapping) → es ++ new_entries seen fs ++ new_entries seen gs ≡ es ++ new_entries seen (fs ++ gs)
  new_after es fs gs = append_assoc es (new_entries seen fs) (new_entries seen gs) ∙ ap (λ l. es ++ l) (sym (filter-append (λ e. not (is_remembered seen e)) fs gs))

none_unmarked : (make : List Tally → Suggestion) → ((g : List Tally) → reviewed (make g) ≡ true) → (gs : List (List Tally)) → unmarked_entries reviewed (map make gs) ≡ []
none_unmarked make is [] = refl
none_unmarked make is (g ∷ gs) = (λ i. (if is g i then [] else (make g).entries) ++ none_unmarked make is gs i)

every_unmarked : (make : List Tally → Suggestion) → ((g : List Tally) → reviewed (make g) ≡ false) → (gs : List (List Tally)) → unmarked_entries reviewed (map make gs) ≡ flat_map (λ s. s.entries) (map make gs)
every_unmarked make is [] = refl
every_unmarked make is (g ∷ gs) = (λ i. (if is g i then [] else (make g).entries) ++ every_unmarked make is gs i)

pub email_kinds : (shared : List Text) (h : Histories) (g : List Tally) → needs_review (email_kind shared h g) ≡ false
email_kinds shared h g = by (is_shared shared (first_answer h g).email)
  where
    by : (s : Bool) → needs_review (if s then by_shared_email (first_answer h g).email else by_email) ≡ false
    by true = refl
    by false = refl

pub name_kinds : (h : Histories) (g : List Tally) → needs_review (name_kind h g) ≡ true
name_kinds h g = by (have_one_name h g)
  where
    by : (s : Bool) → needs_review (if s then by_name else by_alike_names) ≡ true
    by true = refl
    by false = refl

module _ (shared : List Text) (c : GroupClasses) (seen : List Text) (h : Histories) (ts : List Tally) where
  abbrev more : Histories
  more = after_emails shared h ts

  abbrev whole : Histories
  whole = after_all_names shared c h ts

  abbrev entries_of : Suggestion → List Mapping
  entries_of s = if reviewed s then [] else s.entries

  pub emails_unmarked : unmarked_entries reviewed (email_suggestions shared h ts) ≡ email_entries shared h ts
  emails_unmarked = every_unmarked (λ g. suggestion shared h h (email_kind shared h g) g) (email_kinds shared h) (groups email_key h ts) ∙ email_suggested shared h ts

  names_unmarked : unmarked_entries reviewed (name_suggestions shared c h ts) ≡ []
  names_unmarked = none_unmarked (λ g. suggestion shared more more (name_kind more g) g) (name_kinds more) (groups c.by_name more ts)

  logins_unmarked : unmarked_entries reviewed (login_suggestions shared c h ts) ≡ []
  logins_unmarked = none_unmarked (λ g. suggestion shared more whole (login_kind shared whole ts g) g) (λ g. refl) (groups c.by_login whole ts)

  -- they are the entries for emails
  pub unmarked_are : unmarked_entries reviewed (suggestions shared c seen h ts) ≡ email_entries shared h ts
  unmarked_are =
      let emails = email_suggestions shared h ts in
      let names = name_suggestions shared c h ts in
      let logins = login_suggestions shared c h ts in
      all_unmarked seen (emails ++ names ++ logins)
      ∙ flat_map-append entries_of (emails ++ names) logins ∙ ap (λ l. l ++ flat_map entries_of logins) (flat_map-append entries_of emails names)
      ∙ (λ i. (emails_unmarked i ++ names_unmarked i) ++ logins_unmarked i)
      ∙ append-nil (email_entries shared h ts ++ []) ∙ append-nil (email_entries shared h ts)

  -- so their text is read as these
  pub suggested_read : AllByRecursion (λ s. IsWritableSuggestion (reviewed s) s) (suggestions shared c seen h ts) → mappings_of (suggestions_text (suggestions shared c seen h ts)) ≡ email_entries shared h ts
  suggested_read writable = text_read reviewed (suggestions shared c seen h ts) writable ∙ unmarked_are

-- ---- with no marks deleted, the text is that of the suggestions

abbrev own_text : Suggestion → Text
own_text s = suggestion_text (reviewed s) s

own_marks : (seen : List Text) (s : Suggestion) → reviewed s ≡ true → text_with (λ _. true) (still_suggested seen s) ≡ suggestions_text (still_suggested seen s)
own_marks seen s is = by (reviewed s) (s.is_cut || has_any (new_entries seen s.entries))
  where
    left : Suggestion
    left = with_entries s (new_entries seen s.entries)

    by : (r any : Bool) → text_with (λ _. true) (if r then (if any then left ∷ [] else []) else s ∷ []) ≡ suggestions_text (if r then (if any then left ∷ [] else []) else s ∷ [])
    by true true = ap (λ b. suggestion_text b left ++ []) (sym is)
    by true false = refl
    by false any = ap (λ b. suggestion_text b s ++ []) (sym is)

each_own : (seen : List Text) (make : List Tally → Suggestion) → ((g : List Tally) → reviewed (make g) ≡ true) → (gs : List (List Tally))
    → flat_map (λ g. text_with (λ _. true) (still_suggested seen (make g))) gs ≡ suggestions_text (flat_map (still_suggested seen) (map make gs))
each_own seen make is [] = refl
each_own seen make is (g ∷ gs) = (λ i. own_marks seen (make g) (is g) i ++ each_own seen make is gs i)
    ∙ sym (flat_map-append own_text (still_suggested seen (make g)) (flat_map (still_suggested seen) (map make gs)))

pub none_selected : (shared : List Text) (c : GroupClasses) (seen : List Text) (h : Histories) (ts : List Tally) → selected_text shared c (λ _. false) (λ _. false) seen h ts ≡ suggestions_text (suggestions shared c seen h ts)
none_selected shared c seen h ts =
    let m = after_emails shared h ts in
    let all = after_all_names shared c h ts in
    let by_names = λ (g : List Tally). suggestion shared m m (name_kind m g) g in
    let by_logins = λ (g : List Tally). suggestion shared m all (login_kind shared all ts g) g in
    let still = still_suggested seen in
    let emails = email_suggestions shared h ts in
    let names = name_suggestions shared c h ts in
    let logins = login_suggestions shared c h ts in
    (λ i. suggestions_text (flat_map still emails) ++ each_own seen by_names (name_kinds m) (groups c.by_name m ts) i ++ each_own seen by_logins (λ g. refl) (groups c.by_login all ts) i)
    ∙ ap (λ s. s ++ suggestions_text (flat_map still logins)) (sym (flat_map-append own_text (flat_map still emails) (flat_map still names)))
    ∙ sym (flat_map-append own_text (flat_map still emails ++ flat_map still names) (flat_map still logins))
    ∙ ap suggestions_text (ap (λ l. l ++ flat_map still logins) (sym (flat_map-append still emails names)) ∙ sym (flat_map-append still (emails ++ names) logins))
