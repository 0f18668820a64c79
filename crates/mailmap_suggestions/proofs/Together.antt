-- Entries for logins after those for some of the groups by name, of which lines may be remembered: each group gets its
-- proper answer nevertheless.
use Rattle.std.proofs.Common.{◌≡◌, ◌≢◌, ◌⊎◌, ◌∙◌, ◌&&◌, ◌||◌, Bool, true, false, true≢false, not, List, [], ◌∷◌, ◌++◌, None, ap, append-nil, bytes_eq, filter, if◌then◌else◌, inl, inr, is_some, map, refl, subst, sym, ⊎_elim}
use Rattle.std.specs.List.{AllByRecursion, flat_map, list_any}
use Rattle.std.specs.Option.{option_or}
use Rattle.std.proofs.lemmas.Bool.{false_from_ne_true, not-true}
use Rattle.std.proofs.lemmas.List.Elements.{filter_agree}
use Rattle.mailmap_entries.specs.Entries.{Mapping}
use Rattle.mailmap_entries.specs.Folding.{Text, folded}
use Rattle.mailmap_entries.specs.Semantics.{key}
use Rattle.mailmap_entries.proofs.Parts.{all_weaker}
use Rattle.mailmap_contacts.specs.Contacts.{Contact, Tally, answer_to, has_text}
use Rattle.mailmap_contacts.proofs.Steps.{all_filtered}
use Rattle.mailmap_suggestions.specs.Forms.{IsAnswered, Stays, alike, distinct, git_answer_to, is_shared, needs_own_entry, of_old_email, own_key, plain_entries, short_form}
use Rattle.mailmap_suggestions.specs.GroupEntries.{Agree, HasNoEmptyName, all_entries, are_alike, are_cut, contacts, email_class, group_entries, is_grouped, members, only, proper_answer, uncut_email_class, wanted_entries, with_classes, with_emails}
use Rattle.mailmap_suggestions.specs.Selections.{AllAgreeBut, is_line_remembered}
use Rattle.mailmap_suggestions.specs.Suggestions.{is_remembered, new_entries}
use Rattle.mailmap_suggestions.proofs.Appended.{IsCareful, IsWanting, SpellAlike, Touches, empty_or, entries_all, folded_empty, last_joined, none_needed, of_email_all, own_fields, plain_all}
use Rattle.mailmap_suggestions.proofs.Distinct.{◌∈◌, all_joined, all_of, any_at, at, each, each_pair, from_filter, in_filter, same_bytes}
use Rattle.mailmap_suggestions.proofs.Kept.{IsKept, answered_unless, kept_all, not_united_stays, others_stay, plain_stays, united_answered, unkeyed, with_email}
use Rattle.mailmap_suggestions.proofs.Careful.{text_some}
use Rattle.mailmap_suggestions.proofs.Needed.{needs_same}
use Rattle.mailmap_suggestions.proofs.Overlapping.{active_from, before_it, groups_say, overlapping, short_after}
use Rattle.mailmap_suggestions.proofs.United.{active_some, added_are, all_texts, changed, comes, cut_before, cut_email, cut_for_names, cut_for_next, cut_same, email_spell, email_together, emails_named, from_group, group, in_group, is_active, left_false, neither, never, next_for, next_spell, next_wants, one_by_class, one_by_email, one_class, only_same, only_some, part, part_all, proper_comes, proper_unshared, proper_wanting, right_false, shared_uncut, spell, spell_one, these, together_for, touched_answers, wanted}

-- ==== answers that come from those with the entries for emails

module _ (shared : List Text) (h : List Mapping) (ts : List Tally) (named : AllByRecursion HasNoEmptyName h) where
  -- by more entries, each answer is one to a contact before
  abbrev Comes : List Mapping → Contact → Type 0
  Comes l c = (e : Contact) × (e ∈ contacts ts) × (answer_to (with_emails shared h ts) e ≡ answer_to l c)

  -- so no two answers have one email that one person has, and differ
  emails_agree : (out : Contact → Bool) (l : List Mapping) → ((c : Contact) → c ∈ contacts ts → out c ≡ false → Comes l c)
      → AllAgreeBut out (uncut_email_class shared h ts) l (contacts ts)
  emails_agree out l comes = each_pair (λ b c. out b ≡ false → out c ≡ false → Agree (uncut_email_class shared h ts) l b c) (contacts ts) (λ b c i j b_in c_in same some.
      let d = comes b i b_in in
      let e = comes c j c_in in
      let email = uncut_email_class shared h ts in
      sym d.2 ∙ one_by_class shared h ts (email_class shared) never named (email_together shared h ts named) (email_spell shared h ts named) d.0 e.0 d.1 e.1 refl refl (ap email d.2 ∙ same ∙ sym (ap email e.2)) (λ none. some (sym (ap email e.2) ∙ none)) ∙ e.2)

-- ==== the groups by name

module _ (shared : List Text) (h : List Mapping) (ts : List Tally) (named : AllByRecursion HasNoEmptyName h) (class : Contact → Text) (careful : IsCareful shared class never (with_emails shared h ts) ts)
    (q : Text → Bool) (seen : List Text) where
  abbrev out : Contact → Bool
  out = cut_for_names shared h ts named class careful q

  abbrev mailed : List Mapping
  mailed = with_emails shared h ts

  abbrev passed : Contact → Text
  passed = only q class

  abbrev names_of : List Mapping
  names_of = all_entries shared passed (alike mailed) (alike mailed) ts

  mailed_named : AllByRecursion HasNoEmptyName mailed
  mailed_named = emails_named shared h ts named

  wants_name : (t : Text) → AllByRecursion (IsWanting mailed (wanted shared mailed mailed ts passed t)) (group shared mailed mailed ts passed t)
  wants_name t = proper_wanting shared mailed (these shared mailed mailed ts passed t)

  one_passed : (b c : Contact) → b ∈ contacts ts → c ∈ contacts ts → out c ≡ false → Touches shared mailed b c → passed (answer_to mailed b) ≡ passed (answer_to mailed c)
  one_passed = together_for shared h ts named class careful q

  spell_passed : (b c : Contact) → b ∈ contacts ts → c ∈ contacts ts → passed (answer_to mailed b) ≢ [] → SpellAlike shared mailed b c
  spell_passed = spell shared h ts named class careful q

  abbrev in_passed : Contact → Bool
  in_passed c = is_active shared mailed mailed ts passed (passed (answer_to mailed c))

  name_kept : (t : Text) (c : Contact) → t ≢ [] → c ∈ group shared mailed mailed ts passed t → out c ≡ false → IsAnswered mailed (wanted shared mailed mailed ts passed t) c → IsAnswered (mailed ++ []) (wanted shared mailed mailed ts passed t) c
  name_kept t c some i o is = subst (λ l. IsAnswered l (wanted shared mailed mailed ts passed t) c) (sym (append-nil mailed)) is

  plain_name : (t e : Text) (c : Contact) → t ≢ [] → c ∈ with_email shared mailed [] mailed ts passed out mailed_named wants_name one_passed spell_passed seen t e → out c ≡ false → needs_own_entry shared (alike mailed) c ≡ false
      → IsAnswered ((mailed ++ []) ++ plain_entries (alike mailed) (wanted shared mailed mailed ts passed t) (filter (λ d. not (needs_own_entry shared (alike mailed) d)) (of_old_email e (group shared mailed mailed ts passed t)))) (wanted shared mailed mailed ts passed t) c
  plain_name t e c some i o needs =
      let to = wanted shared mailed mailed ts passed t in
      let single : Contact → Bool = λ d. not (needs_own_entry shared (alike mailed) d) in
      let cs = of_old_email e (group shared mailed mailed ts passed t) in
      subst (λ l. IsAnswered (l ++ plain_entries (alike mailed) to (filter single cs)) to c) (sym (append-nil mailed))
      (at (IsAnswered (mailed ++ plain_entries (alike mailed) to (filter single cs)) to) (filter single cs)
      (plain_all shared mailed mailed_named to e (filter single cs)
      (all_filtered single (λ d. (folded d.email ≡ e) × IsWanting mailed to d) (λ d. ((folded d.email ≡ e) × IsWanting mailed to d) × (own_fields mailed d ≡ None)) (λ d w out. (w, (none_needed shared mailed d (not-true (needs_own_entry shared (alike mailed) d) out)).0)) cs
      (of_email_all (IsWanting mailed to) (group shared mailed mailed ts passed t) e (wants_name t))))
      c (in_filter single cs c i (ap not needs)))

  -- a contact of a group is answered, or it stays
  named_or_stays : (c : Contact) → c ∈ contacts ts → out c ≡ false → in_passed c ≡ true → IsAnswered (mailed ++ new_entries seen names_of) (wanted shared mailed mailed ts passed (passed (answer_to mailed c))) c ⊎ Stays mailed (new_entries seen names_of) c
  named_or_stays c i o is = subst (λ l. IsAnswered (l ++ new_entries seen names_of) (wanted shared mailed mailed ts passed (passed (answer_to mailed c))) c ⊎ Stays l (new_entries seen names_of) c) (append-nil mailed)
      (⊎_elim (λ (none, answered). inl answered) (λ (gone, stays). inr stays)
      (answered_unless shared mailed [] mailed ts passed out mailed_named wants_name one_passed spell_passed seen name_kept plain_name c i o is))

  unnamed_stays : (c : Contact) → c ∈ contacts ts → out c ≡ false → in_passed c ≡ false → Stays mailed (new_entries seen names_of) c
  unnamed_stays c i o off = subst (λ l. Stays l (new_entries seen names_of) c) (append-nil mailed)
      (others_stay shared mailed [] mailed ts passed out mailed_named wants_name one_passed spell_passed seen c i o off)

  named_comes : (c : Contact) → c ∈ contacts ts → out c ≡ false → Comes shared h ts named (mailed ++ new_entries seen names_of) c
  named_comes c i o = by (in_passed c) refl
    where
      by : (b : Bool) → in_passed c ≡ b → Comes shared h ts named (mailed ++ new_entries seen names_of) c
      by true is = ⊎_elim
          (λ answered.
          let k = passed (answer_to mailed c) in
          let d = proper_comes shared mailed (these shared mailed mailed ts passed k) c (in_group shared mailed mailed ts passed c i) in
          (d.0, (from_group shared mailed mailed ts passed k d.0 d.1).0, d.2 ∙ sym answered.0))
          (λ stays. (c, i, sym stays.0))
          (named_or_stays c i o is)
      by false off = (c, i, sym (unnamed_stays c i o off).0)

  -- if the line of a contact is not remembered
  abbrev is_new : Contact → Bool
  is_new c = let k = passed (answer_to mailed c) in
      let g = members passed (alike mailed) ts k in
      (is_grouped passed (alike mailed) ts c && not (are_cut (wanted_entries shared (alike mailed) (alike mailed) g)))
      && not (is_line_remembered seen (wanted_entries shared (alike mailed) (alike mailed) g) c)

  pub names_united : (c : Contact) → c ∈ contacts ts → out c ≡ false → is_new c ≡ true → IsAnswered (mailed ++ new_entries seen names_of) (wanted shared mailed mailed ts passed (passed (answer_to mailed c))) c
  names_united c i o is = subst (λ l. IsAnswered (l ++ new_entries seen names_of) (wanted shared mailed mailed ts passed (passed (answer_to mailed c))) c) (append-nil mailed)
      (united_answered shared mailed [] mailed ts passed out mailed_named wants_name one_passed spell_passed seen name_kept plain_name c i o is)

  pub names_others : (c : Contact) → c ∈ contacts ts → out c ≡ false → is_new c ≡ false → Stays mailed (new_entries seen names_of) c
  names_others c i o is = subst (λ l. Stays l (new_entries seen names_of) c) (append-nil mailed)
      (not_united_stays shared mailed [] mailed ts passed out mailed_named wants_name one_passed spell_passed seen name_kept plain_name c i o is)

  pub names_agree : AllAgreeBut out (uncut_email_class shared h ts) (mailed ++ new_entries seen names_of) (contacts ts)
  names_agree = emails_agree shared h ts named out (mailed ++ new_entries seen names_of) named_comes

-- ==== all groups by logins, after some by names

module _ (shared : List Text) (h : List Mapping) (ts : List Tally) (named : AllByRecursion HasNoEmptyName h)
    (class : Contact → Text) (careful : IsCareful shared class never (with_emails shared h ts) ts)
    (unnamed : (c : Contact) → c ∈ contacts ts → (answer_to (with_emails shared h ts) c).name ≡ [] → class (answer_to (with_emails shared h ts) c) ≡ [])
    (named_alike : (b c : Contact) → b ∈ contacts ts → c ∈ contacts ts → (answer_to (with_emails shared h ts) b).name ≡ (answer_to (with_emails shared h ts) c).name → (answer_to (with_emails shared h ts) b).name ≢ []
    → class (answer_to (with_emails shared h ts) b) ≢ [] → class (answer_to (with_emails shared h ts) c) ≢ [] → class (answer_to (with_emails shared h ts) b) ≡ class (answer_to (with_emails shared h ts) c)) (next : Contact → Text)
    (also : IsCareful shared next (cut_before shared h ts named class careful) (with_classes shared class (with_emails shared h ts) ts) ts) (p q : Text → Bool) (seen : List Text) where
  abbrev g : List Mapping
  g = with_emails shared h ts

  abbrev f : List Mapping
  f = with_classes shared class g ts

  abbrev names : List Mapping
  names = all_entries shared (only q class) (alike g) (alike g) ts

  abbrev s : List Mapping
  s = g ++ new_entries seen names

  g_named : AllByRecursion HasNoEmptyName g
  g_named = emails_named shared h ts named

  -- ---- the groups by name

  abbrev cut : Contact → Bool
  cut = cut_email shared h ts named

  abbrev out_by_name : Contact → Bool
  out_by_name = cut_for_names shared h ts named class careful q

  by_whole : (c : Contact) → cut c ≡ false → out_by_name c ≡ false
  by_whole c whole = ap (λ b. b && list_any (λ d. not (bytes_eq (only q class (answer_to g d)) [])) (group shared h h ts (email_class shared) (email_class shared (answer_to h c)))) whole

  abbrev picked : Contact → Text
  picked c = only q class (answer_to g c)

  abbrev is_picked : Contact → Bool
  is_picked c = is_active shared g g ts (only q class) (picked c)

  picked_on : (c : Contact) → c ∈ contacts ts → cut c ≡ false → is_picked c ≡ true → IsAnswered s (wanted shared g g ts (only q class) (picked c)) c ⊎ Stays g (new_entries seen names) c
  picked_on c i o = named_or_stays shared h ts named class careful q seen c i (by_whole c o)

  picked_off : (c : Contact) → c ∈ contacts ts → cut c ≡ false → is_picked c ≡ false → Stays g (new_entries seen names) c
  picked_off c i o = unnamed_stays shared h ts named class careful q seen c i (by_whole c o)

  abbrev block : Contact → Bool
  block c = is_active shared g g ts class (class (answer_to g c))

  in_both : (c : Contact) → is_picked c ≡ true → (block c ≡ true) × (wanted shared g g ts (only q class) (picked c) ≡ wanted shared g g ts class (class (answer_to g c)))
  in_both c is =
      let k = class (answer_to g c) in
      let both = only_some q k (active_some shared g g ts (only q class) (picked c) is) in
      let text_is : picked c ≡ k = ap (λ b. if b then k else []) both.0 in
      let same : members (only q class) (alike g) ts k ≡ members class (alike g) ts k =
      filter_agree (λ t. bytes_eq k (only q class (answer_to g t.contact))) (λ t. bytes_eq k (class (answer_to g t.contact))) (λ t. only_same q k (class (answer_to g t.contact)) both.1 both.0) ts in (
        sym (ap (λ m. not (bytes_eq k []) && (not (are_alike (alike g) (contacts m)) && not (are_cut (wanted_entries shared (alike g) (alike g) m)))) same)
            ∙ sym (ap (is_active shared g g ts (only q class)) text_is) ∙ is,
        ap (wanted shared g g ts (only q class)) text_is ∙ ap (proper_answer shared (alike g)) same,
      )

  -- with all groups by name, a contact in a picked one has the same answer
  as_then : (c : Contact) → c ∈ contacts ts → cut c ≡ false → (is : is_picked c ≡ true) → answer_to f c ≡ wanted shared g g ts (only q class) (picked c)
  as_then c i o is = let both = in_both c is in changed shared h ts named class careful c i o both.0 ∙ sym both.1

  came : (d : Contact) → d ∈ contacts ts → cut d ≡ false → (e : Contact) × (e ∈ contacts ts) × (answer_to g e ≡ answer_to f d) × (class (answer_to g e) ≡ class (answer_to g d))
  came = comes shared g ts class cut g_named (one_class shared h ts named class careful) (spell_one shared h ts named class careful)

  -- who needs no entry of its own has none then, either
  still_unowned : (c : Contact) → needs_own_entry shared (alike g) c ≡ false → own_fields s c ≡ None
  still_unowned c needs = last_joined g (new_entries seen names) (own_key c) ∙ (λ i. option_or (unkeyed c (new_entries seen names) (kept_all P (λ e. not (is_remembered seen e)) names all) i) ((none_needed shared g c needs).0 i))
    where
      P : Mapping → Type 0
      P x = is_some x.old_name ≡ true → key x ≡ own_key c → ⊥

      each_part : (t : Text) → AllByRecursion P (part shared g g ts (only q class) t)
      each_part t = part_all shared g g ts (only q class) P t (λ some. (entries_all shared g g_named (wanted shared g g ts (only q class) t) P (group shared g g ts (only q class) t)
          (all_weaker (group shared g g ts (only q class) t) (λ d w. (w, (((λ _ _ some _. true≢false (sym some)), λ some _. true≢false (sym some)), λ own _ same. true≢false (sym own ∙ needs_same shared g d c same ∙ needs)))) (proper_wanting shared g (these shared g g ts (only q class) t)))
          (λ b d j k. let found = from_group shared g g ts (only q class) t b j in spell shared h ts named class careful q b d found.0 (from_group shared g g ts (only q class) t d k).0 (λ empty. some (sym found.1 ∙ empty)))).1)

      all : AllByRecursion P names
      all = subst (AllByRecursion P) (sym (added_are shared g g ts (only q class))) (all_joined P (part shared g g ts (only q class)) (distinct (all_texts shared g g ts (only q class)))
          (all_of (λ t. AllByRecursion P (part shared g g ts (only q class) t)) each_part (distinct (all_texts shared g g ts (only q class)))))

  -- ---- the groups by login

  abbrev chosen : Contact → Text
  chosen = only p next

  abbrev label : Contact → Text
  label c = chosen (answer_to f c)

  abbrev to : Text → Contact
  to = wanted shared g f ts chosen

  abbrev those : Text → List Contact
  those = group shared g f ts chosen

  abbrev on : Text → Bool
  on = is_active shared g f ts chosen

  abbrev added : List Mapping
  added = all_entries shared chosen (alike g) (alike f) ts

  -- who is left out: git would cut a line of its group by email or by name
  abbrev pub out_later : Contact → Bool
  out_later = cut_for_next shared h ts named class careful next also p

  chosen_wants : (t : Text) → AllByRecursion (IsWanting g (to t)) (those t)
  chosen_wants = next_wants shared h ts named class careful unnamed chosen

  chosen_together : (b c : Contact) → b ∈ contacts ts → c ∈ contacts ts → out_later c ≡ false → Touches shared g b c → label b ≡ label c
  chosen_together b c i j o = next_for shared h ts named class careful next also p b c i j o

  chosen_spell : (b c : Contact) → b ∈ contacts ts → c ∈ contacts ts → label b ≢ [] → SpellAlike shared g b c
  chosen_spell b c i j some = next_spell shared h ts named class careful next also b c i j (only_some p (next (answer_to f b)) some).1

  of_block : (t : Text) (c : Contact) → c ∈ those t → (c ∈ contacts ts) × (label c ≡ t)
  of_block = from_group shared g f ts chosen

  -- git would cut no line for the email of a contact that has a group and isn't left out
  uncut_if : (t : Text) (c : Contact) → t ≢ [] → c ∈ those t → out_later c ≡ false → cut c ≡ false
  uncut_if t c some i o =
      let found = of_block t c i in
      let has : Contact → Bool = λ d. not (bytes_eq (label d) []) in
      let mates = group shared h h ts (email_class shared) (email_class shared (answer_to h c)) in
      left_false (cut c) (list_any has mates) (any_at has mates c (in_group shared h h ts (email_class shared) c found.0) (ap not (false_from_ne_true (bytes_eq (label c) []) (λ e. some (sym found.1 ∙ same_bytes (label c) [] e)))))
      (neither (cut c && list_any has mates) _ o).0

  -- the proper answer is one to a contact of the group
  proper_from : (t : Text) (c : Contact) → c ∈ those t → (d : Contact) × (d ∈ those t) × (answer_to f d ≡ to t)
  proper_from t c i = proper_comes shared f (these shared g f ts chosen t) c i

  proper_email : (t : Text) (c : Contact) → c ∈ those t → t ≢ [] → (to t).email ≢ []
  proper_email t c i some empty =
      let d = proper_from t c i in
      let found = of_block t d.0 d.1 in
      (only_some p (next (answer_to f d.0)) (λ none. some (sym found.1 ∙ none))).1
      (at _ (contacts ts) also.emails d.0 found.0 (ap (λ (a : Contact). a.email) d.2 ∙ empty))

  still_wants : (t : Text) (c : Contact) → c ∈ those t → cut c ≡ false → IsWanting s (to t) c
  still_wants t c i o empty = by (is_picked c) refl
    where
      j : c ∈ contacts ts
      j = (of_block t c i).0

      stays : Stays g (new_entries seen names) c → (answer_to s c).name ≡ []
      stays same = ap (λ (a : Contact). a.name) same.0 ∙ at _ (those t) (chosen_wants t) c i empty

      by : (b : Bool) → is_picked c ≡ b → (answer_to s c).name ≡ []
      by false off = stays (picked_off c j o off)
      by true is = ⊎_elim (λ now. ap (λ (a : Contact). a.name) (now.0 ∙ sym (as_then c j o is)) ∙ at _ (those t) (proper_wanting shared f (these shared g f ts chosen t)) c i empty) stays (picked_on c j o is)

  -- ---- where other groups by name have entries for the old email of a contact with the proper answer

  abbrev now : Contact → Contact
  now c = answer_to g c

  abbrev name_proper : Text → Contact
  name_proper = wanted shared g g ts class

  one_mail : (b c : Contact) → b ∈ contacts ts → c ∈ contacts ts → cut c ≡ false → folded (now b).email ≡ folded (now c).email → is_shared shared (now c).email ≡ false → (now c).email ≢ [] → now b ≡ now c
  one_mail b c i j o same one some = one_by_email shared h ts named b c i j o same one (λ empty. some (folded_empty (now c).email empty))

  module _ (t : Text) (some : t ≢ []) (c : Contact) (i : c ∈ those t) (o : cut c ≡ false) (on_c : block c ≡ true) where
    abbrev j : c ∈ contacts ts
    j = (of_block t c i).0

    d : Contact
    d = (proper_from t c i).0

    k : d ∈ contacts ts
    unfolding d
    k = (of_block t (proper_from t c i).0 (proper_from t c i).1).0

    d_is : answer_to f d ≡ to t
    unfolding d
    d_is = (proper_from t c i).2

    -- the answer to d by all groups by name
    kept_mail : cut d ≡ true → folded (now c).email ≡ folded (to t).email → folded (answer_to f d).email ≡ folded (now d).email → ⊥
    kept_mail cut_d mails kept = true≢false (sym cut_d ∙ cut_same shared h ts named d c k j (sym kept ∙ ap (λ (a : Contact). folded a.email) d_is ∙ sym mails) ∙ o)

    outcome : let a = answer_to f d in
        (folded a.email ≡ folded (now d).email) ⊎ (((u : Text) × (is_active shared g g ts class u ≡ true) × (a ≡ name_proper u))
        ⊎ ((l : Text) × (is_active shared g g ts class l ≡ true) × (u : Text) × (is_active shared g g ts class u ≡ true) × (a.name ≡ (name_proper l).name) × (a.email ≡ (name_proper u).email) × (folded (name_proper l).email ≡ folded (now d).email)))
    outcome = overlapping g (λ u. is_active shared g g ts class u ≡ true) name_proper (all_entries shared class (alike g) (alike g) ts) (groups_say shared g ts class unnamed) d

    from : (u : Text) → is_active shared g g ts class u ≡ true → (e : Contact) × (e ∈ contacts ts) × (now e ≡ name_proper u) × (class (now e) ≡ u)
    from = active_from shared g ts class

    class_some : class (now c) ≢ []
    class_some = active_some shared g g ts class (class (now c)) on_c

    -- if the proper answer comes from before the groups by name
    if_uncut : cut d ≡ false → now c ≡ to t → name_proper (class (now c)) ≡ to t
    if_uncut u is =
        let e = came d k u in
        let same : class (now c) ≡ class (now d) = ap class (is ∙ sym (e.2 ∙ d_is)) ∙ e.3 in
        ap name_proper same ∙ sym (changed shared h ts named class careful d k u (ap (is_active shared g g ts class) (sym same) ∙ on_c)) ∙ d_is

    if_whole : now c ≡ to t → (u : Text) → is_active shared g g ts class u ≡ true → answer_to f d ≡ name_proper u → name_proper (class (now c)) ≡ to t
    if_whole is u on_u whole =
        let e = from u on_u in
        ap (λ a. name_proper (class a)) (is ∙ sym d_is ∙ whole ∙ sym e.2) ∙ ap name_proper e.3 ∙ sym whole ∙ d_is

    -- a contact that has the answer, or the email of it, whose group by name has that
    if_one : (u : Text) → is_active shared g g ts class u ≡ true → (answer_to f d).email ≡ (name_proper u).email → (now c).email ≡ (to t).email → is_shared shared (now c).email ≡ false → name_proper (class (now c)) ≡ now c
    if_one u on_u mails is one =
        let e = from u on_u in
        let same : now e.0 ≡ now c = one_mail e.0 c e.1 j o (ap (λ (a : Contact). folded a.email) e.2 ∙ ap folded (sym mails ∙ ap (λ (a : Contact). a.email) d_is ∙ sym is)) one (λ empty. proper_email t c i some (sym is ∙ empty)) in
        ap (λ a. name_proper (class a)) (sym same) ∙ ap name_proper e.3 ∙ sym e.2 ∙ same

    if_shared : now c ≡ to t → cut d ≡ true → (l : Text) → is_active shared g g ts class l ≡ true → (answer_to f d).name ≡ (name_proper l).name → folded (name_proper l).email ≡ folded (now d).email → is_shared shared (now c).email ≡ false
    if_shared is cut_d l on_l names mails =
        let e = from l on_l in
        let c_name : (now c).name ≡ (now e.0).name = ap (λ (a : Contact). a.name) (is ∙ sym d_is) ∙ names ∙ ap (λ (a : Contact). a.name) (sym e.2) in
        let c_named : (now c).name ≢ [] = λ none. class_some (unnamed c j none) in
        let same : class (now c) ≡ l = named_alike c e.0 j e.1 c_name c_named class_some (λ none. active_some shared g g ts class l on_l (sym e.3 ∙ none)) ∙ e.3 in
        let later : answer_to f c ≡ name_proper l = changed shared h ts named class careful c j o on_c ∙ ap name_proper same in
        let d_one : is_shared shared (now d).email ≡ false = false_from_ne_true (is_shared shared (now d).email) (λ many. true≢false (sym cut_d ∙ shared_uncut shared h ts named d k many)) in
        ap (λ (a : Contact). is_shared shared a.email) is
        ∙ proper_unshared shared f (these shared g f ts chosen t) c i
        (ap (λ (a : Contact). has_text a.name) (later ∙ sym e.2) ∙ ap has_text (sym c_name) ∙ text_some (now c).name c_named)
        (ap (λ (a : Contact). is_shared shared a.email) later ∙ ap (λ e. list_any (bytes_eq e) shared) mails ∙ d_one)

    -- who has the proper answer already gets it from the group by name, too
    same_proper : now c ≡ to t → name_proper (class (now c)) ≡ to t
    same_proper is = by (cut d) refl
      where
        by : (b : Bool) → cut d ≡ b → name_proper (class (now c)) ≡ to t
        by false u = if_uncut u is
        by true cut_d = ⊎_elim (λ kept. absurd (kept_mail cut_d (ap (λ (a : Contact). folded a.email) is) kept))
            (λ more. ⊎_elim (λ (u, on_u, whole). if_whole is u on_u whole)
            (λ (l, on_l, u, on_u, names, mails, folds). if_one u on_u mails (ap (λ (a : Contact). a.email) is) (if_shared is cut_d l on_l names folds) ∙ is) more)
            outcome

    -- and who has its email already keeps that
    same_mail : is_shared shared (now c).email ≡ false → (now c).email ≡ (to t).email → (name_proper (class (now c))).email ≡ (to t).email
    same_mail one is = by (cut d) refl
      where
        has : (e : Contact) → e ∈ contacts ts → now e ≡ to t → (name_proper (class (now c))).email ≡ (to t).email
        has e l e_is = ap (λ (a : Contact). a.email) (same_proper (sym (one_mail e c l j o (ap (λ (a : Contact). folded a.email) e_is ∙ sym (ap folded is)) one (λ empty. proper_email t c i some (sym is ∙ empty))) ∙ e_is))

        by : (b : Bool) → cut d ≡ b → (name_proper (class (now c))).email ≡ (to t).email
        by false u = let e = came d k u in has e.0 e.1 (e.2 ∙ d_is)
        by true cut_d = ⊎_elim (λ kept. absurd (kept_mail cut_d (ap folded is) kept))
            (λ more. ⊎_elim (λ (u, on_u, whole). let e = from u on_u in has e.0 e.1 (e.2 ∙ sym whole ∙ d_is))
            (λ (l, on_l, u, on_u, names, mails, folds). ap (λ (a : Contact). a.email) (if_one u on_u mails is one) ∙ is) more)
            outcome

  still_answered : (t : Text) (c : Contact) → t ≢ [] → c ∈ those t → cut c ≡ false → IsAnswered g (to t) c → IsAnswered s (to t) c
  still_answered t c some i o answered = by (is_picked c) refl
    where
      stays : Stays g (new_entries seen names) c → IsAnswered s (to t) c
      stays same = (same.0 ∙ answered.0, same.1 ∙ answered.1)

      by : (b : Bool) → is_picked c ≡ b → IsAnswered s (to t) c
      by false off = stays (picked_off c (of_block t c i).0 o off)
      by true on =
          let both = in_both c on in
          ⊎_elim (λ given. subst (λ a. IsAnswered s a c) (both.1 ∙ same_proper t some c i o both.0 answered.0) given) stays (picked_on c (of_block t c i).0 o on)

  login_kept : (t : Text) (c : Contact) → t ≢ [] → c ∈ those t → out_later c ≡ false → IsAnswered g (to t) c → IsAnswered s (to t) c
  login_kept t c some i o = still_answered t c some i (uncut_if t c some i o)

  -- whom the short form answers, it answers then, too
  still_short : (t : Text) (c : Contact) → t ≢ [] → c ∈ those t → cut c ≡ false → needs_own_entry shared (alike g) c ≡ false → folded (to t).email ≡ folded c.email → IsAnswered (g ++ short_form (to t) ∷ []) (to t) c
      → IsAnswered (s ++ short_form (to t) ∷ []) (to t) c
  still_short t c some i o needs fits is = let now_has = mails (is_picked c) refl in short_after s (to t) c (still_unowned c needs) fits now_has.0 now_has.1
    where
      none : (own_fields g c ≡ None) × (is_shared shared (now c).email ≡ false)
      none = none_needed shared g c needs

      had : ((now c).email ≡ (to t).email) × ((git_answer_to g c).email ≡ (to t).email)
      had = before_it g (to t) c none.0 fits is

      stays : Stays g (new_entries seen names) c → ((answer_to s c).email ≡ (to t).email) × ((git_answer_to s c).email ≡ (to t).email)
      stays same = (ap (λ (a : Contact). a.email) same.0 ∙ had.0, ap (λ (a : Contact). a.email) same.1 ∙ had.1)

      mails : (b : Bool) → is_picked c ≡ b → ((answer_to s c).email ≡ (to t).email) × ((git_answer_to s c).email ≡ (to t).email)
      mails false off = stays (picked_off c (of_block t c i).0 o off)
      mails true on =
          let both = in_both c on in
          let mail = ap (λ (a : Contact). a.email) both.1 ∙ same_mail t some c i o both.0 none.1 had.0 in
          ⊎_elim (λ given. (ap (λ (a : Contact). a.email) given.0 ∙ mail, ap (λ (a : Contact). a.email) given.1 ∙ mail)) stays (picked_on c (of_block t c i).0 o on)

  still_plain : (t e : Text) (c : Contact) → t ≢ [] → c ∈ with_email shared g (new_entries seen names) f ts chosen out_later g_named chosen_wants chosen_together chosen_spell seen t e → out_later c ≡ false → needs_own_entry shared (alike g) c ≡ false
      → IsAnswered (s ++ plain_entries (alike g) (to t) (filter (λ d. not (needs_own_entry shared (alike g) d)) (of_old_email e (those t)))) (to t) c
  still_plain t e c some i o needs =
      let single : Contact → Bool = λ d. not (needs_own_entry shared (alike g) d) in
      let cs = of_old_email e (those t) in
      let c_found = from_filter (λ d. bytes_eq e (folded d.email)) (those t) c i in
      let c_none = none_needed shared g c needs in
      plain_stays g (new_entries seen names) (to t) e (filter single cs)
      (each (IsKept g (new_entries seen names) (to t) e) (filter single cs) (λ b j.
      let alone = from_filter single cs b j in
      let found = from_filter (λ d. bytes_eq e (folded d.email)) (those t) b alone.0 in
      let none = not-true (needs_own_entry shared (alike g) b) alone.1 in
      let b_none = none_needed shared g b none in
      let has = sym (same_bytes e (folded b.email) found.1) in
      let touches : Touches shared g b c = inr (record { emails = has ∙ same_bytes e (folded c.email) c_found.1; names = inr (b_none.0, c_none.0) }, b_none.1) in
      let whole : cut b ≡ false = cut_same shared h ts named b c (of_block t b found.0).0 (of_block t c c_found.0).0 (touched_answers shared g b c touches) ∙ uncut_if t c some c_found.0 o in
      record {
        has_email = has;
        kept = still_answered t b some found.0 whole;
        unowned = still_unowned b none;
        wants = still_wants t b found.0 whole;
        short = still_short t b some found.0 whole none;
      }))
      c (in_filter single cs c i (ap not needs))

  -- ---- where no contact of a group by login is in a group by email of which git would cut a line

  abbrev with_cut : Contact → Bool
  with_cut c = not (bytes_eq (label c) []) && list_any cut (those (label c))

  abbrev pub out_mails : Contact → Bool
  out_mails c = out_by_name c || (out_later c || with_cut c)

  parts : (c : Contact) → out_mails c ≡ false → (out_by_name c ≡ false) × (out_later c ≡ false) × (with_cut c ≡ false)
  parts c o =
      let a = neither (out_by_name c) (out_later c || with_cut c) o in
      let b = neither (out_later c) (with_cut c) a.1 in
      (a.0, b.0, b.1)

  group_whole : (t : Text) (c : Contact) → t ≢ [] → c ∈ those t → with_cut c ≡ false → (d : Contact) → d ∈ those t → cut d ≡ false
  group_whole t c some i o d j =
      let is : label c ≡ t = (of_block t c i).1 in
      let none = right_false (not (bytes_eq (label c) [])) (list_any cut (those (label c))) (ap not (false_from_ne_true (bytes_eq (label c) []) (λ e. some (sym is ∙ same_bytes (label c) [] e)))) o in
      false_from_ne_true (cut d) (λ yes. true≢false (sym (any_at cut (those t) d j yes) ∙ ap (λ k. list_any cut (those k)) (sym is) ∙ none))

  login_comes : (c : Contact) → c ∈ contacts ts → out_mails c ≡ false → Comes shared h ts named (s ++ new_entries seen added) c
  login_comes c i o = by (on (label c)) refl
    where
      unless : Stays s (new_entries seen added) c → Comes shared h ts named (s ++ new_entries seen added) c
      unless same = let e = named_comes shared h ts named class careful q seen c i (parts c o).0 in (e.0, e.1, e.2 ∙ sym same.0)

      by : (b : Bool) → on (label c) ≡ b → Comes shared h ts named (s ++ new_entries seen added) c
      by true is = ⊎_elim
          (λ (none, answered).
          let j = in_group shared g f ts chosen c i in
          let d = proper_from (label c) c j in
          let e = came d.0 (of_block (label c) d.0 d.1).0 (group_whole (label c) c (active_some shared g f ts chosen (label c) is) j (parts c o).2 d.0 d.1) in
          (e.0, e.1, e.2 ∙ d.2 ∙ sym answered.0))
          (λ (gone, same). unless same)
          (answered_unless shared g (new_entries seen names) f ts chosen out_later g_named chosen_wants chosen_together chosen_spell seen login_kept still_plain c i (parts c o).1 is)
      by false off = unless (others_stay shared g (new_entries seen names) f ts chosen out_later g_named chosen_wants chosen_together chosen_spell seen c i (parts c o).1 off)

  abbrev is_new_login : Contact → Bool
  is_new_login c = let m = members chosen (alike f) ts (label c) in
      (is_grouped chosen (alike f) ts c && not (are_cut (wanted_entries shared (alike g) (alike f) m))) && not (is_line_remembered seen (wanted_entries shared (alike g) (alike f) m) c)

  pub logins_united : (c : Contact) → c ∈ contacts ts → out_later c ≡ false → is_new_login c ≡ true → IsAnswered (s ++ new_entries seen added) (to (label c)) c
  logins_united = united_answered shared g (new_entries seen names) f ts chosen out_later g_named chosen_wants chosen_together chosen_spell seen login_kept still_plain

  pub logins_others : (c : Contact) → c ∈ contacts ts → out_later c ≡ false → is_new_login c ≡ false → Stays s (new_entries seen added) c
  logins_others = not_united_stays shared g (new_entries seen names) f ts chosen out_later g_named chosen_wants chosen_together chosen_spell seen login_kept still_plain

  pub logins_agree : AllAgreeBut out_mails (uncut_email_class shared h ts) (s ++ new_entries seen added) (contacts ts)
  logins_agree = emails_agree shared h ts named out_mails (s ++ new_entries seen added) login_comes

-- ==== if no group by logins is selected, nothing changes

-- whether some class passes
pub none_or_one : (p : Text → Bool) (class : Contact → Text) (h : List Mapping) (cs : List Contact) → AllByRecursion (λ c. only p class (answer_to h c) ≡ []) cs ⊎ ((k : Text) × (p k ≡ true))
none_or_one p class h [] = inl tt
none_or_one p class h (c ∷ cs) = ⊎_elim (λ none. ⊎_elim (λ rest. inl (none, rest)) (λ one. inr one) (none_or_one p class h cs))
    (λ some. inr (class (answer_to h c), (only_some p (class (answer_to h c)) some).0)) (empty_or (only p class (answer_to h c)))

module _ (shared : List Text) (base h : List Mapping) (ts : List Tally) (class : Contact → Text) (none : AllByRecursion (λ c. class (answer_to h c) ≡ []) (contacts ts)) where
  no_texts : (cs : List Contact) → AllByRecursion (λ c. class (answer_to h c) ≡ []) cs → filter (λ t. not (bytes_eq t [])) (map (λ c. class (answer_to h c)) cs) ≡ []
  no_texts [] all = refl
  no_texts (c ∷ cs) all = ap (λ t. filter (λ t. not (bytes_eq t [])) (t ∷ map (λ c. class (answer_to h c)) cs)) all.0 ∙ no_texts cs all.1

  pub no_entries : all_entries shared class (alike base) (alike h) ts ≡ []
  no_entries = ap (λ ks. flat_map (group_entries shared (alike base) (alike h)) (filter (λ g. not (are_alike (alike h) (contacts g))) (map (members class (alike h) ts) (distinct ks)))) (no_texts (contacts ts) none)

  pub nothing_added : (seen : List Text) (before : List Mapping) → before ++ new_entries seen (all_entries shared class (alike base) (alike h) ts) ≡ before
  nothing_added seen before = ap (λ l. before ++ new_entries seen l) no_entries ∙ append-nil before
