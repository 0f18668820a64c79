-- What follows from the laws of suggested texts.
use Rattle.std.proofs.Common.{◌≡◌, ◌∙◌, ◌+◌, ◌<◌, ℕ, Bool, Err, Ok, Result, get_or, take, List, [], ◌∷◌, ◌++◌, Some, ap, append-nil, append_assoc, arith, length, length-append, map, not, refl, subst, sym, unwrap_or}
use Rattle.std.specs.Borrow.{Bor}
use Rattle.std.specs.Prelude.{OnOk}
use Rattle.std.specs.List.{AllByRecursion, Contains, flat_map}
use Rattle.std.proofs.lemmas.List.{flat_map_more, map_more}
use Rattle.std.proofs.lemmas.List.Elements.{All-contains, All-contains_itself, All-from_recursion, All-weaker, filter-append, recursion_from_All}
use Rattle.mailmap_entries.proofs.Parts.{all_map, all_mapped}
use Rattle.gix_mailmap.specs.Entries.{Mapping}
use Rattle.gix_mailmap.specs.Folding.{Text}
use Rattle.gix_mailmap.specs.Semantics.{last}
use Rattle.gix_mailmap.specs.CountedContacts.{Contact, Tally}
use Rattle.gix_mailmap.specs.GitAnswers.{git_mappings}
use Rattle.gix_mailmap.specs.Lines.{mappings_of}
use Rattle.gix_mailmap.specs.Forms.{alike}
use Rattle.gix_mailmap.specs.GroupEntries.{email_entries, with_emails}
use Rattle.gix_mailmap.specs.Histories.{histories_of}
use Rattle.gix_mailmap.specs.Selections.{after_logins, by_login, by_name}
use Rattle.gix_mailmap.specs.Shared.{shared_emails}
use Rattle.gix_mailmap.specs.SuggestedText.{feed_after, feed_unless, printed, suggested_text, suggestions_text}
use Rattle.gix_mailmap.specs.Suggestions.{GroupClasses, Suggestion, is_remembered, lines_in, new_entries, stage_entries, suggestions}
use Rattle.gix_mailmap.specs.Written.{selected_text}
use Rattle.caller_promises.specs.Suggested.{AreUnited, git_mappings_in, mappings_in, selection_of, with_last}

-- ---- contacts that were counted

-- what holds of all contacts holds of all that were counted
pub each_counted : (ts us : List Tally) → ((c : Contact) → Contains (map (λ t. t.contact) us) c → Contains (map (λ t. t.contact) ts) c)
    → (P : Contact → Type 0) → AllByRecursion (λ t. P t.contact) ts → AllByRecursion (λ t. P t.contact) us
each_counted ts us from P all =
    let of : Tally → Contact = λ t. t.contact in
    let known = All-from_recursion P (map of ts) (all_mapped of P ts all) in
    all_map of P us (recursion_from_All P (map of us)
    (All-weaker (Contains (map of us)) P (λ c among. All-contains P (map of ts) c known (from c among)) (map of us) (All-contains_itself (map of us))))

-- ---- mailmaps one after the other

-- one more mailmap
pub merged_more : (mailmaps : List (Bor Text)) (i : ℕ) (d : Bor Text) → i < length mailmaps
    → mappings_in (map (λ b. b.now) (take (i + 1) mailmaps)) ≡ mappings_in (map (λ b. b.now) (take i mailmaps)) ++ mappings_of (get_or mailmaps i d).now
merged_more mailmaps i d lt = ap (flat_map mappings_of) (map_more (λ b. b.now) mailmaps i d lt)
    ∙ sym (flat_map_more mappings_of [] (map (λ b. b.now) (take i mailmaps)) (get_or mailmaps i d).now)

pub any_ok : {T E : Type 0} (r : Result T E) (P : Type 0) → P → OnOk r P
any_ok (Ok x) P p = p
any_ok (Err e) P p = tt

-- ---- a text that is printed to be appended

last_is : (others : List Text) (l : Text) → last (with_last others l) ≡ Some l
last_is [] l = refl
last_is (m ∷ others) l = ap (λ o. Some (unwrap_or o m)) (last_is others l)

twice_none : (es : List Mapping) → es ≡ es ++ es → es ≡ []
twice_none [] is = refl
twice_none (e ∷ es) is = absurd (omega (arith, ap length is, length-append (e ∷ es) (e ∷ es)))

pub one_last : (read : Text → List Mapping) (others : List Text) (l : Text) → flat_map read (with_last others l) ≡ flat_map read others ++ read l
one_last read [] l = append-nil (read l)
one_last read (m ∷ others) l = ap (λ es. read m ++ es) (one_last read others l) ∙ sym (append_assoc (read m) (flat_map read others) (read l))

-- The text that is printed for suggestions, after the last mailmap, is read as the mailmaps and then as the suggestions,
-- by each reading that reads a text after another with the line feed between them so.
module _ (read : Text → List Mapping) (fed : (s t : Text) → read (s ++ feed_unless (last s) ++ t) ≡ read s ++ read t) where
  none_read : read [] ≡ []
  none_read = twice_none (read []) (fed [] [])

  last_read : (others : List Text) (l : Text) (found : List Suggestion) → read (l ++ printed (with_last others l) found) ≡ read l ++ read (suggestions_text found)
  last_read others l [] = ap read (append-nil l) ∙ sym (append-nil (read l)) ∙ ap (λ es. read l ++ es) (sym none_read)
  last_read others l (s ∷ rest) = ap (λ o. read (l ++ (feed_unless (last (unwrap_or o [])) ++ suggestions_text (s ∷ rest)))) (last_is others l)
      ∙ ap read (sym (append_assoc l (feed_unless (last l)) (suggestions_text (s ∷ rest)))) ∙ fed l (suggestions_text (s ∷ rest))

  all_read : (others : List Text) (l text : Text) (es : List Mapping) → read (l ++ text) ≡ read l ++ es → flat_map read (with_last others (l ++ text)) ≡ flat_map read (with_last others l) ++ es
  all_read others l text es is = one_last read others (l ++ text) ∙ ap (λ es. flat_map read others ++ es) is
      ∙ sym (append_assoc (flat_map read others) (read l) es) ∙ ap (λ fs. fs ++ es) (sym (one_last read others l))

  pub appended_read : (others : List Text) (l : Text) (found : List Suggestion)
      → flat_map read (with_last others (l ++ printed (with_last others l) found)) ≡ flat_map read (with_last others l) ++ read (suggestions_text found)
  appended_read others l found = all_read others l (printed (with_last others l) found) (read (suggestions_text found)) (last_read others l found)

  -- likewise any text after the line feed that comes before suggestions
  fed_read : (others : List Text) (l body : Text) → read (l ++ (feed_after (with_last others l) ++ body)) ≡ read l ++ read body
  fed_read others l body = ap (λ o. read (l ++ (feed_unless (last (unwrap_or o [])) ++ body))) (last_is others l) ∙ ap read (sym (append_assoc l (feed_unless (last l)) body)) ∙ fed l body

  pub text_read : (others : List Text) (l body : Text) → flat_map read (with_last others (l ++ (feed_after (with_last others l) ++ body))) ≡ flat_map read (with_last others l) ++ read body
  text_read others l body = all_read others l (feed_after (with_last others l) ++ body) (read body) (fed_read others l body)

-- ---- the mailmaps with the text after them

module _ (others : List Text) (l text : Text) (ts : List Tally) where
  abbrev before : List Text
  before = with_last others l

  abbrev after : List Text
  after = with_last others (l ++ text)

  abbrev h : List Mapping
  h = mappings_in before

  abbrev shared : List Text
  shared = shared_emails (alike h) ts

  abbrev found : GroupClasses → List Suggestion
  found c = suggestions shared c (lines_in before) (alike h) ts

  abbrev es : List Mapping
  es = email_entries shared (alike h) ts

  -- by either reading, they are as before with the entries for emails
  with_text : (read : Text → List Mapping) → ((s t : Text) → read (s ++ feed_unless (last s) ++ t) ≡ read s ++ read t) → (c : GroupClasses) → text ≡ suggested_text shared c before (alike h) ts
      → flat_map read before ≡ h → read (suggestions_text (found c)) ≡ es → flat_map read after ≡ h ++ es
  with_text read fed c is said says = ap (λ t. flat_map read (with_last others (l ++ t))) is ∙ appended_read read fed others l (found c) ∙ (λ i. said i ++ says i)

  pub united : git_mappings_in before ≡ h → (c : GroupClasses) → text ≡ suggested_text (shared_emails (histories_of before) ts) c before (histories_of before) ts
      → ((s t : Text) → mappings_of (s ++ feed_unless (last s) ++ t) ≡ mappings_of s ++ mappings_of t)
      → ((s t : Text) → git_mappings (s ++ feed_unless (last s) ++ t) ≡ git_mappings s ++ git_mappings t)
      → mappings_of (suggestions_text (found c)) ≡ es → git_mappings (suggestions_text (found c)) ≡ es
      → AreUnited h (with_emails shared h ts) ts
      → (git_mappings_in after ≡ mappings_in after) × AreUnited h (mappings_in after) ts
  united same c is fed git_fed ours gits right =
      let text_is : text ≡ suggested_text shared c before (alike h) ts = subst (λ g. text ≡ suggested_text (shared_emails (record { ours = h; gits = g }) ts) c before (record { ours = h; gits = g }) ts) same is in
      let read = with_text mappings_of fed c text_is refl ours in
      (with_text git_mappings git_fed c text_is same gits ∙ sym read, subst (λ g. AreUnited h g ts) (sym read) right)

  -- ---- with the marks deleted of some groups

  abbrev chosen : GroupClasses → (Text → Bool) → (Text → Bool) → Text
  chosen c passes next_passes = selected_text shared c passes next_passes (lines_in before) (alike h) ts

  pub selected : git_mappings_in before ≡ h → (c : GroupClasses) (passes next_passes : Text → Bool)
      → text ≡ feed_after before ++ selected_text (shared_emails (histories_of before) ts) c passes next_passes (lines_in before) (histories_of before) ts
      → ((s t : Text) → mappings_of (s ++ feed_unless (last s) ++ t) ≡ mappings_of s ++ mappings_of t)
      → ((s t : Text) → git_mappings (s ++ feed_unless (last s) ++ t) ≡ git_mappings s ++ git_mappings t)
      → let s = selection_of before ts c passes next_passes in let added = new_entries s.seen (stage_entries (by_name s) ++ stage_entries (by_login s)) in
      mappings_of (chosen c passes next_passes) ≡ es ++ added → git_mappings (chosen c passes next_passes) ≡ es ++ added
      → (git_mappings_in after ≡ mappings_in after) × (mappings_in after ≡ after_logins s)
  selected same c passes next_passes is fed git_fed ours gits =
      let text_is : text ≡ feed_after before ++ chosen c passes next_passes =
      subst (λ g. text ≡ feed_after before ++ selected_text (shared_emails (record { ours = h; gits = g }) ts) c passes next_passes (lines_in before) (record { ours = h; gits = g }) ts) same is in
      let read = chosen_read mappings_of fed text_is refl ours in (
        chosen_read git_mappings git_fed text_is same gits ∙ sym read,
        read ∙ ap (λ fs. with_emails shared h ts ++ fs) (filter-append (λ e. not (is_remembered seen e)) names logins)
            ∙ sym (append_assoc (with_emails shared h ts) (new_entries seen names) (new_entries seen logins)),
      )
    where
      seen : List Text
      seen = lines_in before

      names : List Mapping
      names = stage_entries (by_name (selection_of before ts c passes next_passes))

      logins : List Mapping
      logins = stage_entries (by_login (selection_of before ts c passes next_passes))

      chosen_read : (read : Text → List Mapping) → ((s t : Text) → read (s ++ feed_unless (last s) ++ t) ≡ read s ++ read t) → text ≡ feed_after before ++ chosen c passes next_passes
          → flat_map read before ≡ h → read (chosen c passes next_passes) ≡ es ++ new_entries seen (names ++ logins) → flat_map read after ≡ (h ++ es) ++ new_entries seen (names ++ logins)
      chosen_read read fed text_is said says = ap (λ t. flat_map read (with_last others (l ++ t))) text_is ∙ text_read read fed others l (chosen c passes next_passes)
          ∙ (λ i. said i ++ says i) ∙ sym (append_assoc h es (new_entries seen (names ++ logins)))
