-- What answers depend on, what appended entries change, and the entries that make all answers the one that is wanted.
use Rattle.std.proofs.Common.{◌≡◌, Bool, true, false, List, [], ◌∷◌, Option, Some, None, if◌then◌else◌, unwrap_or, option_map, refl, sym, ap, ◌∙◌, rules, ◌≢◌, ◌⊎◌, inl, inr, filter, true≢false, ◌&&◌, ◌||◌, ◌++◌, is_none, append-nil, is_some, bytes_eq, not, append_assoc, subst, arith, map, IfSome, ⊎_elim}
use Rattle.std.specs.Option.{option_or}
use Rattle.mailmap_entries.specs.Entries.{Mapping}
use Rattle.mailmap_entries.specs.Folding.{Text, folded, text_cmp}
use Rattle.mailmap_entries.specs.Semantics.{Fields, first, given_fields, last, last_fields, last_given, new_fields, no_fields, of_email, of_key, spelling, Key, accepted, is_accepted, key, key_cmp}
use Rattle.mailmap_entries.proofs.Building.{same_text, same_key}
use Rattle.mailmap_entries.proofs.Reorder.{by_email, of_name}
use Rattle.mailmap_contacts.specs.Contacts.{Contact, Tally, answer_to}
use Rattle.std.specs.List.{AllByRecursion, flat_map, list_any}
use Rattle.std.specs.Ordering.{eq_by_cmp}
use Rattle.mailmap_entries.proofs.Parts.{all_apply, all_last, all_weaker, all_append}
use Rattle.mailmap_suggestions.specs.GroupEntries.{HasNoEmptyName, contacts}
use Rattle.mailmap_contacts.proofs.Steps.{all_filtered, all_unfiltered}
use Rattle.mailmap_entries.proofs.Alike.{first_parts, given_parts, last_parts, picked-append}
use Rattle.mailmap_suggestions.specs.Forms.{Histories, IsAnswered, git_answer_to, is_answered, own_key, plus, alike, are_answered, distinct, entries_for_email, entries_to, is_shared, is_short_enough, long_form, name_unless_empty, named_entries, named_form, needs_own_entry, of_old_email, plain_entries, short_form}
use Rattle.mailmap_entries.proofs.Joined.{filter_none}
use Rattle.std.proofs.lemmas.Bool.{or_right, false_from_ne_true, and_parts, not-true, true_from_ne_false}
use Rattle.mailmap_suggestions.proofs.Distinct.{◌∈◌, equal_bytes, all_among, all_joined, all_of, at, each, from_filter, in_filter, kept_part, same_bytes}
use Rattle.std.proofs.lemmas.Grind.{common_steps}

-- ==== what answers depend on, and what appended entries change

abbrev pub own_fields : List Mapping → Contact → Option Fields
own_fields h c = last_fields h (own_key c)

abbrev pub fields : List Mapping → Contact → Fields
fields h c = unwrap_or (own_fields h c) (given_fields h (folded c.email))

abbrev pub spelled : List Mapping → Contact → Option Text
spelled h c = spelling h (folded c.email)

-- ---- an email without an entry

none_first : (l : List Mapping) → option_map (λ e. e.old_email) (first l) ≡ None → l ≡ []
none_first [] none = refl
none_first (x ∷ xs) none = cc

no_entry : (h : List Mapping) (email : Text) (o : Option Text) → spelling h email ≡ None → of_key h (email, o) ≡ []
no_entry h email o none = by_email h (email, o) ∙ ap (of_name o) (none_first (of_email h email) none) ∙ sym (by_email [] (email, o))

pub no_own : (h : List Mapping) (c : Contact) → spelled h c ≡ None → own_fields h c ≡ None
no_own h c none = ap (λ l. option_map new_fields (last l)) (no_entry h (folded c.email) (Some (folded c.name)) none)

pub no_given : (h : List Mapping) (email : Text) → spelling h email ≡ None → given_fields h email ≡ no_fields
no_given h email none = search (rules, no_entry)

no_fields_for : (h : List Mapping) (c : Contact) → spelled h c ≡ None → fields h c ≡ no_fields
no_fields_for h c none = λ i. unwrap_or (no_own h c none i) (no_given h (folded c.email) none i)

-- ---- answers by their parts

abbrev pub made : Contact → Fields → Option Text → Contact
made c f kept = record { name = unwrap_or f.name c.name; email = unwrap_or f.email (unwrap_or kept c.email) }

pub git_is : (h : List Mapping) (c : Contact) → git_answer_to h c ≡ made c (fields h c) None
git_is h c = search rules

pub answer_is : (h : List Mapping) (c : Contact) → answer_to h c ≡ made c (fields h c) (spelled h c)
answer_is h c = search (rules, no_fields_for, same_text)

-- ==== names and emails of answers that are empty

pub empty_or : (t : Text) → (t ≡ []) ⊎ (t ≢ [])
empty_or [] = inl refl
empty_or (x ∷ xs) = inr (λ e. cc)

-- ---- what holds of the texts of a contact and of those in each entry holds of its answers

pub accepted_all : (P : Mapping → Type 0) (h : List Mapping) → AllByRecursion P h → AllByRecursion P (accepted h)
accepted_all P h all = all_filtered is_accepted P P (λ x p _. p) h all

module _ (N E : Text → Type 0) where
  abbrev pub Has : Contact → Type 0
  Has c = N c.name × E c.email

  abbrev pub Gives : Mapping → Type 0
  Gives x = IfSome x.new_name N × IfSome x.new_email E × E x.old_email

  pub given_all : (Q : Text → Type 0) (f : Mapping → Option Text) (l : List Mapping) → AllByRecursion (λ x. IfSome (f x) Q) l → IfSome (last_given f l) Q
  given_all Q f [] all = tt
  given_all Q f (x ∷ xs) all = grind (arith, all.0, given_all Q f xs all.1)

  first_all : (l : List Mapping) → AllByRecursion Gives l → IfSome (option_map (λ e. e.old_email) (first l)) E
  first_all [] all = tt
  first_all (x ∷ xs) all = all.0.2

  fields_all : (l m : List Mapping) → AllByRecursion Gives l → AllByRecursion Gives m
      → let f = unwrap_or (option_map new_fields (last l)) (record { name = last_given (λ e. e.new_name) m; email = last_given (λ e. e.new_email) m }) in IfSome f.name N × IfSome f.email E
  fields_all [] m _ all = (given_all N (λ e. e.new_name) m (all_weaker m (λ x g. g.0) all), given_all E (λ e. e.new_email) m (all_weaker m (λ x g. g.1) all))
  fields_all (x ∷ xs) m all _ = let g = all_last Gives x xs all.0 all.1 in (g.0, g.1)

  made_all : (c : Contact) (f : Fields) (kept : Option Text) → Has c → IfSome f.name N × IfSome f.email E → IfSome kept E → Has (made c f kept)
  made_all c f kept has fits email = search rules

  pub answers_all : (h : List Mapping) (c : Contact) → AllByRecursion Gives h → Has c → Has (answer_to h c) × Has (git_answer_to h c)
  answers_all h c all has =
      let picked : (p : Mapping → Bool) → AllByRecursion Gives (filter p (accepted h)) = λ p. all_filtered p Gives Gives (λ x g _. g) (accepted h) (accepted_all Gives h all) in
      let fits = fields_all (of_key h (own_key c)) (of_key h (folded c.email, None)) (picked _) (picked _) in
      (subst Has (sym (answer_is h c)) (made_all c (fields h c) (spelled h c) has fits (first_all (of_email h (folded c.email)) (picked _))), subst Has (sym (git_is h c)) (made_all c (fields h c) None has fits tt))

-- so an unnamed answer comes from an unnamed contact if no new name is empty
pub unnamed_contact : (h : List Mapping) (c : Contact) → AllByRecursion HasNoEmptyName h → (answer_to h c).name ≡ [] → c.name ≡ []
unnamed_contact h c all empty = (answers_all (λ n. n ≡ [] → c.name ≡ []) (λ _. Unit {0}) h c (all_weaker h (λ x named. search rules) all) (λ e. e, tt)).0.0 empty

-- ---- git's answer without an email is this library's

pub folded_empty : (s : Text) → folded s ≡ [] → s ≡ []
folded_empty [] e = refl
folded_empty (x ∷ xs) e = cc

first_passing : (p : Mapping → Bool) (l : List Mapping) (s : Text) → option_map (λ e. e.old_email) (first (filter p l)) ≡ Some s → (e : Mapping) × (p e ≡ true) × (e.old_email ≡ s)
first_passing p [] s is = cc
first_passing p (x ∷ xs) s is = search (rules, first_passing p xs s)

pub spelling_folded : (h : List Mapping) (email s : Text) → spelling h email ≡ Some s → folded s ≡ email
spelling_folded h email s is = search (rules, first_passing, same_text)

pub git_without_email : (h : List Mapping) (c : Contact) → folded (answer_to h c).email ≡ [] → git_answer_to h c ≡ answer_to h c
git_without_email h c empty = search (rules, answer_is, folded_empty, spelling_folded)

-- ==== what appended entries change

-- ---- the parts of an answer for joined lists

pub last_joined : (h xs : List Mapping) (k : Key) → last_fields (h ++ xs) k ≡ option_or (last_fields xs k) (last_fields h k)
last_joined h xs k = last_parts new_fields (λ e. eq_by_cmp key_cmp k (key e)) h xs

pub given_joined : (h xs : List Mapping) (email : Text) → given_fields (h ++ xs) email ≡ record { name = option_or (given_fields xs email).name (given_fields h email).name; email = option_or (given_fields xs email).email (given_fields h email).email }
given_joined h xs email = search (rules, given_parts)

pub spelling_joined : (h xs : List Mapping) (email : Text) → spelling (h ++ xs) email ≡ option_or (spelling h email) (spelling xs email)
spelling_joined h xs email = first_parts (λ e. e.old_email) (λ e. eq_by_cmp text_cmp email (folded e.old_email)) h xs

-- ---- which entries affect a contact's answers

-- whether an appended entry replaces the fields for a contact
abbrev pub reaches : List Mapping → Contact → Mapping → Bool
reaches h c x = eq_by_cmp key_cmp (own_key c) (key x) || (is_none (own_fields h c) && eq_by_cmp key_cmp (folded c.email, None) (key x))

-- Whether it can affect the answers to c. If the email has no entry yet, each one for that email does; but where several
-- people share the email, all of these are to spell it as c does.
abbrev pub affects : List Text → List Mapping → Contact → Mapping → Bool
affects shared h c x = if not (is_shared shared c.email) && is_none (spelled h c) then eq_by_cmp text_cmp (folded c.email) (folded x.old_email)
    else reaches h c x

-- the first entry for an email that several people share spells it as the contact does
abbrev pub SpellsAs : List Text → List Mapping → Contact → Mapping → Type 0
SpellsAs shared h c x = spelled h c ≡ None → is_shared shared c.email ≡ true → folded x.old_email ≡ folded c.email → x.old_email ≡ c.email

-- a filter that keeps what q selects changes nothing for q
kept : {X : Type 0} (a p q : X → Bool) → ((x : X) → q x ≡ true → p x ≡ true) → (xs : List X) → filter q (filter a (filter p xs)) ≡ filter q (filter a xs)
kept a p q keeps [] = refl
kept a p q keeps (x ∷ xs) = search (rules, kept a p q keeps xs)

kept_of_key : (k : Key) (p : Mapping → Bool) → ((x : Mapping) → eq_by_cmp key_cmp k (key x) ≡ true → p x ≡ true) → (xs : List Mapping) → of_key (filter p xs) k ≡ of_key xs k
kept_of_key k p keeps xs = kept is_accepted p (λ x. eq_by_cmp key_cmp k (key x)) keeps xs

abbrev pub spelling_of : List Mapping → Contact → Text
spelling_of h c = unwrap_or (spelled h c) c.email

-- what the answers to c depend on is the same
pub record SameParts (c : Contact) (h g : List Mapping) : Type 0 where
  pub fields_are : fields h c ≡ fields g c
  pub spelled_is : spelling_of h c ≡ spelling_of g c

-- ---- the spelling of an email after entries that spell it in one way

first_so : (s : Text) (l : List Mapping) → AllByRecursion (λ x. x.old_email ≡ s) l → unwrap_or (option_map (λ e. e.old_email) (first l)) s ≡ s
first_so s [] all = refl
first_so s (x ∷ xs) all = all.0

pub spelling_so : (c : Contact) (xs : List Mapping) → AllByRecursion (λ x. folded x.old_email ≡ folded c.email → x.old_email ≡ c.email) xs → spelling_of xs c ≡ c.email
spelling_so c xs all = first_so c.email (of_email xs (folded c.email))
    (all_filtered (λ x. eq_by_cmp text_cmp (folded c.email) (folded x.old_email)) (λ x. folded x.old_email ≡ folded c.email → x.old_email ≡ c.email) (λ x. x.old_email ≡ c.email)
    (λ x spells is. spells (sym ((same_text (folded c.email) (folded x.old_email)).0 is))) (accepted xs) (accepted_all (λ x. folded x.old_email ≡ folded c.email → x.old_email ≡ c.email) xs all))

kept_spelling : (o p : Option Text) (s : Text) → (o ≡ None → unwrap_or p s ≡ s) → unwrap_or (option_or o p) s ≡ unwrap_or o s
kept_spelling None p s so = so refl
kept_spelling (Some t) p s so = refl

pub spelling_stays : (h xs : List Mapping) (c : Contact) → (spelled h c ≡ None → AllByRecursion (λ x. folded x.old_email ≡ folded c.email → x.old_email ≡ c.email) xs) → spelling_of (h ++ xs) c ≡ spelling_of h c
spelling_stays h xs c all = ap (λ o. unwrap_or o c.email) (spelling_joined h xs (folded c.email)) ∙ kept_spelling (spelled h c) (spelled xs c) c.email (λ none. spelling_so c xs (all none))

-- ---- the answers depend only on the appended entries that affect them

module _ (h : List Mapping) (c : Contact) (xs : List Mapping) where
  only_email : spelled h c ≡ None → (fields (h ++ xs) c ≡ fields (h ++ filter (λ x. eq_by_cmp text_cmp (folded c.email) (folded x.old_email)) xs) c)
      × (spelled (h ++ xs) c ≡ spelled (h ++ filter (λ x. eq_by_cmp text_cmp (folded c.email) (folded x.old_email)) xs) c)
  only_email none = search (rules, picked-append, kept)

  pub only_keys : fields (h ++ xs) c ≡ fields (h ++ filter (reaches h c) xs) c
  only_keys = search (rules, kept_of_key, last_joined, given_joined)

  -- entries that don't affect the answers don't change them
  pub parts_stay : (spelling_of (h ++ xs) c ≡ spelling_of h c) → filter (reaches h c) xs ≡ [] → SameParts c (h ++ xs) h
  parts_stay spells none = record {
    fields_are = only_keys ∙ ap (λ l. fields (h ++ l) c) none ∙ ap (λ l. fields l c) (append-nil h);
    spelled_is = spells;
  }

module _ (shared : List Text) (h : List Mapping) (c : Contact) (xs : List Mapping) (spells : AllByRecursion (SpellsAs shared h c) xs) where
  by_keys : (not (is_shared shared c.email) && is_none (spelled h c)) ≡ false → SameParts c (h ++ xs) (h ++ filter (reaches h c) xs)
  by_keys is =
      let so : (xs : List Mapping) → AllByRecursion (SpellsAs shared h c) xs → spelling_of (h ++ xs) c ≡ spelling_of h c = λ xs all. spelling_stays h xs c (λ none. all_weaker xs (λ x s. s none (shared_if none)) all) in
      record {
        fields_are = only_keys h c xs;
        spelled_is = so xs spells ∙ sym (so (filter (reaches h c) xs) (all_filtered (reaches h c) (SpellsAs shared h c) (SpellsAs shared h c) (λ x s _. s) xs spells));
      }
    where
      shared_if : spelled h c ≡ None → is_shared shared c.email ≡ true
      shared_if none = grind (arith, is, none)

  by_email_alone : spelled h c ≡ None → SameParts c (h ++ xs) (h ++ filter (λ x. eq_by_cmp text_cmp (folded c.email) (folded x.old_email)) xs)
  by_email_alone none = let both = only_email h c xs none in record { fields_are = both.0; spelled_is = ap (λ o. unwrap_or o c.email) both.1 }

  pub only_affecting : SameParts c (h ++ xs) (h ++ filter (affects shared h c) xs)
  only_affecting = elim (not (is_shared shared c.email) && is_none (spelled h c)) as (λ b. (not (is_shared shared c.email) && is_none (spelled h c)) ≡ b
      → SameParts c (h ++ xs) (h ++ filter (λ x. if b then eq_by_cmp text_cmp (folded c.email) (folded x.old_email) else reaches h c x) xs)) [
        | true ↦ λ is. by_email_alone (search (rules, and_parts))
        | false ↦ λ is. by_keys is
      ] refl

  pub unaffected : filter (affects shared h c) xs ≡ [] → SameParts c (h ++ xs) h
  unaffected none = subst (SameParts c (h ++ xs)) (ap (λ l. h ++ l) none ∙ append-nil h) only_affecting

pub parts_answer : (c : Contact) (h g : List Mapping) → SameParts c h g → (answer_to h c ≡ answer_to g c) × (git_answer_to h c ≡ git_answer_to g c)
parts_answer c h g p = (
  answer_is h c ∙ (λ i. record { name = unwrap_or (p.fields_are i).name c.name; email = unwrap_or (p.fields_are i).email (p.spelled_is i) }) ∙ sym (answer_is g c),
  git_is h c ∙ ap (λ f. made c f None) p.fields_are ∙ sym (git_is g c),
)

-- ==== what the appended forms answer exactly, and what entries for one old email change

pub answered_decides : (h : List Mapping) (to c : Contact) → (is_answered (alike h) to c ≡ true → IsAnswered h to c) × (IsAnswered h to c → is_answered (alike h) to c ≡ true)
answered_decides h to c = search rules

-- ---- one entry

pub one_of_key : (x : Mapping) (k : Key) → is_accepted x ≡ true → k ≡ key x → of_key (x ∷ []) k ≡ x ∷ []
one_of_key x k good is = search (rules, same_key)

pub none_of_key : (x : Mapping) (k : Key) → is_accepted x ≡ true → eq_by_cmp key_cmp k (key x) ≡ false → of_key (x ∷ []) k ≡ []
none_of_key x k good other = search rules

pub named_after : (g : List Mapping) (x : Mapping) (d : Contact) → is_accepted x ≡ true → own_key d ≡ key x → fields (g ++ x ∷ []) d ≡ new_fields x
named_after g x d good is = search (rules, last_joined, one_of_key)

abbrev pub over : Mapping → Fields → Fields
over x f = record { name = option_or x.new_name f.name; email = option_or x.new_email f.email }

given_after : (h : List Mapping) (x : Mapping) (email : Text) → is_accepted x ≡ true → (email, None) ≡ key x → given_fields (h ++ x ∷ []) email ≡ over x (given_fields h email)
given_after h x email good is = search (rules, one_of_key, given_joined)

-- for a contact without an own entry
pub plain_after : (h : List Mapping) (x : Mapping) (d : Contact) → is_accepted x ≡ true → (folded d.email, None) ≡ key x → own_fields h d ≡ None → fields (h ++ x ∷ []) d ≡ over x (given_fields h (folded d.email))
plain_after h x d good is none = search (rules, last_joined, given_after)

-- ---- the forms

-- with a new email, only the name depends on more
pub with_email : (h : List Mapping) (d to : Contact) (name : Option Text) → fields h d ≡ record { name = name; email = Some to.email } → unwrap_or name d.name ≡ to.name → IsAnswered h to d
with_email h d to name is named = search (rules, answer_is)

-- a contact without a name where `to` has none
abbrev pub Fits : Contact → Contact → Type 0
Fits to c = to.name ≡ [] → c.name ≡ []

pub named_exact : (g : List Mapping) (to c d : Contact) → own_key d ≡ own_key c → Fits to d → IsAnswered (g ++ named_form to c ∷ []) to d
named_exact g to c d same fits =
    with_email (g ++ named_form to c ∷ []) d to (name_unless_empty to) (named_after g (named_form to c) d (or_right (is_some (name_unless_empty to)) true refl) same) (search rules)

pub plain_exact : (h : List Mapping) (to c d : Contact) → folded d.email ≡ folded c.email → own_fields h d ≡ None → (to.name ≡ [] → (answer_to h d).name ≡ []) → IsAnswered (h ++ long_form to c ∷ []) to d
plain_exact h to c d same none unnamed = search (rules, answer_is, plain_after)

named_unreached : (g : List Mapping) (to c d : Contact) → eq_by_cmp key_cmp (own_key d) (own_key c) ≡ false → filter (reaches g d) (named_form to c ∷ []) ≡ []
named_unreached g to c d other = search rules

pub named_step : (g : List Mapping) (to c d : Contact) → (is_none (spelled g d) ≡ false) ⊎ (c.email ≡ d.email) → Fits to d → IsAnswered g to d → IsAnswered (g ++ named_form to c ∷ []) to d
named_step g to c d placed fits before =
    elim (eq_by_cmp key_cmp (own_key d) (own_key c)) as (λ b. eq_by_cmp key_cmp (own_key d) (own_key c) ≡ b → IsAnswered (g ++ named_form to c ∷ []) to d) [
      | true ↦ λ same. named_exact g to c d ((same_key (own_key d) (own_key c)).0 same) fits
      | false ↦ λ other.
          let spells = spelling_stays g (named_form to c ∷ []) d (λ none. ⊎_elim (λ some. absurd (true≢false (sym (ap is_none none) ∙ some))) (λ same. ((λ _. same), tt)) placed) in
          let stays = parts_answer d (g ++ named_form to c ∷ []) g (parts_stay g d (named_form to c ∷ []) spells (named_unreached g to c d other)) in
          (stays.0 ∙ before.0, stays.1 ∙ before.1)
    ] refl

spelled_more : (g xs : List Mapping) (email : Text) → is_none (spelling g email) ≡ false → is_none (spelling (g ++ xs) email) ≡ false
spelled_more g xs email some = grind (arith, spelling_joined g xs email)

own_spelled : (h : List Mapping) (c : Contact) → own_fields h c ≢ None → is_none (spelled h c) ≡ false
own_spelled h c some = elim (spelled h c) as (λ o. spelled h c ≡ o → is_none o ≡ false) [ None ↦ λ none. absurd (some (no_own h c none)) | Some s ↦ λ _. refl ] refl

-- ==== the entries for one old email, and for any contacts, make all answers the one that is wanted

pub all_answered : (g : List Mapping) (to : Contact) (cs : List Contact) → are_answered (alike g) to cs ≡ true → AllByRecursion (IsAnswered g to) cs
all_answered g to [] is = tt
all_answered g to (c ∷ cs) is =
    let parts = and_parts (is_answered (alike g) to c) (are_answered (alike g) to cs) is in ((answered_decides g to c).0 parts.0, all_answered g to cs parts.1)

-- ---- what holds of the forms holds of the entries

module _ (P : Mapping → Type 0) (to : Contact) where
  -- the short form has a name, and is for the contact's email
  abbrev pub OfPlain : Contact → Type 0
  OfPlain c = (is_some (name_unless_empty to) ≡ true → folded to.email ≡ folded c.email → P (short_form to)) × P (long_form to c)

  -- the form without an old name is only for a contact that needs no entry of its own
  abbrev pub OfForms : List Text → Histories → Contact → Type 0
  OfForms shared h c = (not (needs_own_entry shared h c) ≡ true → OfPlain c) × P (named_form to c)

  pub each_plain : (h : Histories) (ps : List Contact) → AllByRecursion OfPlain ps → AllByRecursion P (plain_entries h to ps)
  each_plain h [] all = tt
  each_plain h (c ∷ cs) all = grind (arith, common_steps, same_bytes)

  pub each_named : (h : Histories) (cs : List Contact) → AllByRecursion (λ c. P (named_form to c)) cs → AllByRecursion P (named_entries h to cs)
  each_named h [] all = tt
  each_named h (c ∷ cs) all = search (rules, each_named h cs all.1, each_named (plus h (named_form to c ∷ [])) cs all.1)

  pub each_for_email : (shared : List Text) (h : Histories) (cs : List Contact) → AllByRecursion (OfForms shared h) cs → AllByRecursion P (entries_for_email shared h to cs)
  each_for_email shared h cs all =
      let own : Contact → Bool = λ c. not (needs_own_entry shared h c) in
      let plain = plain_entries h to (filter own cs) in
      all_append P plain (named_entries (plus h plain) to cs)
      (each_plain h (filter own cs) (all_filtered own (OfForms shared h) OfPlain (λ c p out. p.0 out) cs all))
      (each_named (plus h plain) cs (all_weaker cs (λ c p. p.1) all))

pub both_forms : (P Q : Mapping → Type 0) (to : Contact) (shared : List Text) (h : Histories) (c : Contact) → OfForms P to shared h c → OfForms Q to shared h c → OfForms (λ x. P x × Q x) to shared h c
both_forms P Q to shared h c p q = (λ out. ((λ some same. ((p.0 out).0 some same, (q.0 out).0 some same)), ((p.0 out).1, (q.0 out).1)), (p.1, q.1))

-- what holds of the entries for each old email holds of all
pub all_emails : (P : Mapping → Type 0) (shared : List Text) (h : Histories) (to : Contact) (cs : List Contact) → ((email : Text) → AllByRecursion P (entries_for_email shared h to (of_old_email email cs)))
    → AllByRecursion P (entries_to shared h to cs)
all_emails P shared h to cs each = search (rules, all_joined, all_of)

-- the contacts of a list for an old email
pub of_email_all : (P : Contact → Type 0) (cs : List Contact) (email : Text) → AllByRecursion P cs → AllByRecursion (λ c. (folded c.email ≡ email) × P c) (of_old_email email cs)
of_email_all P cs email all = all_filtered (λ c. bytes_eq email (folded c.email)) P (λ c. (folded c.email ≡ email) × P c) (λ c p same. (sym (same_bytes email (folded c.email) same), p)) cs all

pub each_entry : (P : Mapping → Type 0) (to : Contact) (shared : List Text) (h : Histories) (cs : List Contact) → AllByRecursion (OfForms P to shared h) cs → AllByRecursion P (entries_to shared h to cs)
each_entry P to shared h cs all = all_emails P shared h to cs (λ email. each_for_email P to shared h (of_old_email email cs) (all_weaker (of_old_email email cs) (λ c p. p.1) (of_email_all (OfForms P to shared h) cs email all)))

-- ---- forms with old names, for the contacts with one old email that need them

-- if `to` is unnamed, so is the answer
abbrev pub IsWanting : List Mapping → Contact → Contact → Type 0
IsWanting h to c = to.name ≡ [] → (answer_to h c).name ≡ []

-- a contact that needs no entry of its own has none, and one person has the email of its answer
pub none_needed : (shared : List Text) (h : List Mapping) (c : Contact) → needs_own_entry shared (alike h) c ≡ false → (own_fields h c ≡ None) × (is_shared shared (answer_to h c).email ≡ false)
none_needed shared h c out = grind (arith, out)

pub none_needed_if : (shared : List Text) (h : List Mapping) (c : Contact) → own_fields h c ≡ None → is_shared shared (answer_to h c).email ≡ false → needs_own_entry shared (alike h) c ≡ false
none_needed_if shared h c none single = λ i. (is_some (none i) || is_some (none i)) || single i

-- nothing is added if all are answered
no_named : (g : List Mapping) (to : Contact) (cs : List Contact) → AllByRecursion (IsAnswered g to) cs → named_entries (alike g) to cs ≡ []
no_named g to [] all = refl
no_named g to (c ∷ cs) all = (λ i. if (answered_decides g to c).1 all.0 i then named_entries (alike g) to cs else named_form to c ∷ named_entries (plus (alike g) (named_form to c ∷ [])) to cs) ∙ no_named g to cs all.1

module _ (shared : List Text) (h : List Mapping) (to : Contact) (email : Text) (P : Mapping → Type 0) (s : Text) where
  -- an entry for the email changes nothing of its spelling in the answer
  abbrev pub IsPlaced : List Mapping → Contact → Type 0
  IsPlaced g c = (is_none (spelling g email) ≡ false) ⊎ (c.email ≡ s)

  -- by these mappings the contact is answered by `to`, at least if it needs no entry of its own
  abbrev pub IsReady : List Mapping → Contact → Type 0
  IsReady g c = (folded c.email ≡ email) × Fits to c × IsPlaced g c × (needs_own_entry shared (alike h) c ≡ false → IsAnswered g to c) × (needs_own_entry shared (alike h) c ≡ true → P (named_form to c))

  abbrev IsDone : List Mapping → Contact → Type 0
  IsDone g c = (folded c.email ≡ email) × Fits to c × IsPlaced g c × IsAnswered g to c

  placed_more : (g xs : List Mapping) (c : Contact) → IsPlaced g c → IsPlaced (g ++ xs) c
  placed_more g xs c placed = ⊎_elim (λ some. inl (spelled_more g xs email some)) (λ same. inr same) placed

  both_placed : (g : List Mapping) (c d : Contact) → folded d.email ≡ email → IsPlaced g c → IsPlaced g d → (is_none (spelled g d) ≡ false) ⊎ (c.email ≡ d.email)
  both_placed g c d is pc pd =
      let known : is_none (spelling g email) ≡ false → is_none (spelled g d) ≡ false = λ some. ap (λ e. is_none (spelling g e)) is ∙ some in
      ⊎_elim (λ some. inl (known some)) (λ same. ⊎_elim (λ some. inl (known some)) (λ also. inr (same ∙ sym also)) pd) pc

  named_all : (cs done : List Contact) (g : List Mapping) → AllByRecursion (IsReady g) cs → AllByRecursion (IsDone g) done
      → let es = named_entries (alike g) to cs in AllByRecursion (IsDone (g ++ es)) done × AllByRecursion (IsDone (g ++ es)) cs × AllByRecursion P es
  named_all [] done g ready all = (subst (λ l. AllByRecursion (IsDone l) done) (sym (append-nil g)) all, tt, tt)
  named_all (c ∷ cs) done g ready all =
      let is : folded c.email ≡ email = ready.0.0 in
      let placed : IsPlaced g c = ready.0.2 in
      elim (is_answered (alike g) to c) as (λ b. is_answered (alike g) to c ≡ b
      → let es = if b then named_entries (alike g) to cs else named_form to c ∷ named_entries (alike (g ++ named_form to c ∷ [])) to cs in
      AllByRecursion (IsDone (g ++ es)) done × AllByRecursion (IsDone (g ++ es)) (c ∷ cs) × AllByRecursion P es) [
        | true ↦ λ yes. let rest = named_all cs (c ∷ done) g ready.1 ((is, ready.0.1, placed, (answered_decides g to c).0 yes), all) in (rest.0.1, (rest.0.0, rest.1), rest.2)
        | false ↦ λ out.
            let next : List Mapping = g ++ named_form to c ∷ [] in
            let needs : needs_own_entry shared (alike h) c ≡ true = true_from_ne_false (needs_own_entry shared (alike h) c) (λ no. true≢false (sym ((answered_decides g to c).1 (ready.0.3 no)) ∙ out)) in
            let stays : (d : Contact) → folded d.email ≡ email → Fits to d → IsPlaced g d → IsAnswered g to d → IsAnswered next to d = λ d same fits also. named_step g to c d (both_placed g c d same placed also) fits in
            let rest = named_all cs (c ∷ done) next
            (all_weaker cs (λ d r. (r.0, r.1, placed_more g (named_form to c ∷ []) d r.2, (λ no. stays d r.0 r.1 r.2 (r.3 no)), r.4)) ready.1)
            ((is, ready.0.1, placed_more g (named_form to c ∷ []) c placed, named_exact g to c c refl ready.0.1), all_weaker done (λ d r. (r.0, r.1, placed_more g (named_form to c ∷ []) d r.2, stays d r.0 r.1 r.2 r.3)) all) in
            let whole = subst (λ l. AllByRecursion (IsDone l) (c ∷ done) × AllByRecursion (IsDone l) cs) (append_assoc g (named_form to c ∷ []) (named_entries (alike next) to cs)) (rest.0, rest.1) in
            (whole.0.1, (whole.0.0, whole.1), (ready.0.4 needs, rest.2))
      ] refl

-- what the form without an old name, and that with one, have to be for a contact if they are needed
abbrev pub OfNeeded : (Mapping → Type 0) → Contact → List Text → List Mapping → Contact → Type 0
OfNeeded P to shared h c = OfPlain P to c × (needs_own_entry shared (alike h) c ≡ true → P (named_form to c))

-- contacts with one email that several people share, for which there is no entry, spell it alike
abbrev pub SpellAlike : List Text → List Mapping → Contact → Contact → Type 0
SpellAlike shared h b c = spelled h c ≡ None → is_shared shared c.email ≡ true → folded b.email ≡ folded c.email → b.email ≡ c.email

-- Classes of answers with which an entry for an email that several people share changes only answers that it is for.
pub record IsCareful (shared : List Text) (class : Contact → Text) (out : Contact → Bool) (h : List Mapping) (ts : List Tally) : Type 0 where
  -- answers without an email have none
  pub emails : AllByRecursion (λ c. (answer_to h c).email ≡ [] → class (answer_to h c) ≡ []) (contacts ts)
  -- contacts that one entry with an old name is for have one class, unless they are left out
  pub keys : AllByRecursion (λ b. AllByRecursion (λ c. out c ≡ false → is_shared shared (answer_to h b).email ≡ true
      → own_key b ≡ own_key c → class (answer_to h b) ≡ class (answer_to h c)) (contacts ts)) (contacts ts)
  -- all answers with such an email spell it in one way, if one of them has a class
  pub spelled : AllByRecursion (λ b. AllByRecursion (λ c. is_shared shared (answer_to h b).email ≡ true
      → class (answer_to h b) ≢ [] → folded (answer_to h b).email ≡ folded (answer_to h c).email
      → (answer_to h b).email ≡ (answer_to h c).email) (contacts ts)) (contacts ts)
  -- an answer with such an email and a class is only for contacts with a name
  pub names : AllByRecursion (λ c. is_shared shared (answer_to h c).email ≡ true
      → class (answer_to h c) ≢ [] → c.name ≢ []) (contacts ts)

-- an answer without an entry is the contact
pub unspelled_email : (h : List Mapping) (c : Contact) → spelled h c ≡ None → (answer_to h c).email ≡ c.email
unspelled_email h c none = search (rules, answer_is, no_fields_for)

module _ (shared : List Text) (h : List Mapping) (named : AllByRecursion HasNoEmptyName h) (to : Contact) where
  pub plain_all : (email : Text) (ps : List Contact) → AllByRecursion (λ c. ((folded c.email ≡ email) × IsWanting h to c) × (own_fields h c ≡ None)) ps → AllByRecursion (IsAnswered (h ++ plain_entries (alike h) to ps) to) ps
  plain_all email [] all = tt
  plain_all email (c ∷ cs) all =
      elim (are_answered (alike h) to (c ∷ cs)) as (λ b. are_answered (alike h) to (c ∷ cs) ≡ b → AllByRecursion (IsAnswered (h ++ (if b then [] else (if is_short_enough (alike h) to c cs then short_form to else long_form to c) ∷ [])) to) (c ∷ cs)) [
        | true ↦ λ yes. subst (λ l. AllByRecursion (IsAnswered l to) (c ∷ cs)) (sym (append-nil h)) (all_answered h to (c ∷ cs) yes)
        | false ↦ λ _. elim (is_short_enough (alike h) to c cs) as (λ b. is_short_enough (alike h) to c cs ≡ b → AllByRecursion (IsAnswered (h ++ (if b then short_form to else long_form to c) ∷ []) to) (c ∷ cs)) [
          | true ↦ λ enough. all_answered (h ++ short_form to ∷ []) to (c ∷ cs) (and_parts (is_some (name_unless_empty to) && bytes_eq (folded to.email) (folded c.email)) (are_answered (plus (alike h) (short_form to ∷ [])) to (c ∷ cs)) enough).1
          | false ↦ λ _. all_weaker (c ∷ cs) (λ d p. plain_exact h to c d (p.0.0 ∙ sym (all.0).0.0) p.1 p.0.1) all
        ] refl
      ] refl

  module _ (P : Mapping → Type 0) (email : Text) where
    abbrev Wants : Contact → Type 0
    Wants c = (folded c.email ≡ email) × IsWanting h to c × OfNeeded P to shared h c

    module _ (cs : List Contact) (all : AllByRecursion Wants cs) where
      abbrev single : Contact → Bool
      single c = not (needs_own_entry shared (alike h) c)

      abbrev plain : List Mapping
      plain = plain_entries (alike h) to (filter single cs)

      abbrev Answers : Type 0
      Answers = let es = entries_for_email shared (alike h) to cs in AllByRecursion (IsAnswered (h ++ es) to) cs × AllByRecursion P es

      single_answered : AllByRecursion (λ c. single c ≡ true → IsAnswered (h ++ plain) to c) cs
      single_answered = all_unfiltered single (IsAnswered (h ++ plain) to) cs (plain_all email (filter single cs)
          (all_filtered single Wants (λ c. ((folded c.email ≡ email) × IsWanting h to c) × (own_fields h c ≡ None)) (λ c p out. ((p.0, p.1), (none_needed shared h c (not-true _ out)).0)) cs all))

      plain_fits : AllByRecursion P plain
      plain_fits = each_plain P to (alike h) (filter single cs) (all_filtered single Wants (OfPlain P to) (λ c p _. (p.2).0) cs all)

      -- if each entry spells the email as the contacts do, or there is one before
      if_placed : (s : Text) → AllByRecursion (IsPlaced shared h to email P s (h ++ plain)) cs → Answers
      if_placed s placed =
          let done = named_all shared h to email P s cs [] (h ++ plain)
          (all_apply (λ c. Wants c × (single c ≡ true → IsAnswered (h ++ plain) to c)) (IsPlaced shared h to email P s (h ++ plain)) (IsReady shared h to email P s (h ++ plain))
          (λ c p q. (p.0.0, (λ e. unnamed_contact h c named (p.0.1 e)), q, (λ no. p.1 (ap not no)), (p.0.2).1)) cs
          (all_apply Wants (λ c. single c ≡ true → IsAnswered (h ++ plain) to c) (λ c. Wants c × (single c ≡ true → IsAnswered (h ++ plain) to c)) (λ c p q. (p, q)) cs all single_answered) placed) tt in (
            subst (λ l. AllByRecursion (IsAnswered l to) cs) (append_assoc h plain (named_entries (alike (h ++ plain)) to cs)) (all_weaker cs (λ c d. d.3) done.1),
            all_append P plain (named_entries (alike (h ++ plain)) to cs) plain_fits done.2,
          )

      -- if no contact needs an entry of its own
      if_single : AllByRecursion (λ c. single c ≡ true) cs → Answers
      if_single singles =
          let answered : AllByRecursion (IsAnswered (h ++ plain) to) cs = all_apply (λ c. single c ≡ true) (λ c. single c ≡ true → IsAnswered (h ++ plain) to c) (IsAnswered (h ++ plain) to) (λ c is f. f is) cs singles single_answered in
          let whole : plain ++ named_entries (alike (h ++ plain)) to cs ≡ plain = ap (λ l. plain ++ l) (no_named (h ++ plain) to cs answered) ∙ append-nil plain in
          (subst (λ l. AllByRecursion (IsAnswered (h ++ l) to) cs) (sym whole) answered, subst (AllByRecursion P) (sym whole) plain_fits)

    -- all contacts for an old email are answered, and the entries are what they have to be
    pub email_all : (cs : List Contact) → AllByRecursion Wants cs → ((b c : Contact) → b ∈ cs → c ∈ cs → SpellAlike shared h b c)
        → let es = entries_for_email shared (alike h) to cs in AllByRecursion (IsAnswered (h ++ es) to) cs × AllByRecursion P es
    email_all [] all spell = (tt, tt)
    email_all (c ∷ cs) all spell = elim (spelled h c) as (λ o. spelled h c ≡ o → Answers (c ∷ cs) all) [
      | Some s ↦ λ is. if_placed (c ∷ cs) all [] (all_of _ (λ d. inl (spelled_more h (plain (c ∷ cs) all) email (ap (λ e. is_none (spelling h e)) (sym all.0.0) ∙ ap is_none is))) (c ∷ cs))
      | None ↦ λ none. elim (is_shared shared c.email) as (λ b. is_shared shared c.email ≡ b → Answers (c ∷ cs) all) [
        | true ↦ λ many. if_placed (c ∷ cs) all c.email (each _ (c ∷ cs) (λ d i. inr (spell d c i (inl refl) none many ((at Wants (c ∷ cs) all d i).0 ∙ sym all.0.0))))
        | false ↦ λ one. if_single (c ∷ cs) all (all_weaker (c ∷ cs) (λ d w.
            let same : folded c.email ≡ folded d.email = all.0.0 ∙ sym w.0 in
            let unspelled : spelled h d ≡ None = ap (spelling h) (sym same) ∙ none in
            ap not (none_needed_if shared h d (no_own h d unspelled)
            (ap (is_shared shared) (unspelled_email h d unspelled) ∙ ap (λ e. list_any (bytes_eq e) shared) (sym same) ∙ one))) all)
      ] refl
    ] refl

-- ==== which contacts an entry for a contact can affect

-- contacts with the same key, or with the same email and no entries of their own
pub record Linked (h : List Mapping) (b c : Contact) : Type 0 where
  pub emails : folded b.email ≡ folded c.email
  pub names : (folded b.name ≡ folded c.name) ⊎ ((own_fields h b ≡ None) × (own_fields h c ≡ None))

-- their answers have the same email, ASCII case aside
pub linked_email : (h : List Mapping) (b c : Contact) → Linked h b c → folded (answer_to h b).email ≡ folded (answer_to h c).email
linked_email h b c l =
    let same : fields h b ≡ fields h c = search rules in
    let parts : folded (made b (fields h c) (spelled h b)).email ≡ folded (made c (fields h c) (spelled h c)).email = search rules in
    ap (λ a. folded a.email) (answer_is h b ∙ ap (λ f. made b f (spelled h b)) same) ∙ parts ∙ ap (λ a. folded a.email) (sym (answer_is h c))

-- with the same key they have the same name, too
pub linked_name : (h : List Mapping) (b c : Contact) → own_key b ≡ own_key c → folded (answer_to h b).name ≡ folded (answer_to h c).name
linked_name h b c keys = search rules

-- an entry for b may be one for c, too: they have the same key, or one person has the email of their answers
abbrev pub Touches : List Text → List Mapping → Contact → Contact → Type 0
Touches shared h b c = (own_key b ≡ own_key c) ⊎ (Linked h b c × (is_shared shared (answer_to h b).email ≡ false))

pub touched_email : (shared : List Text) (h : List Mapping) (b c : Contact) → Touches shared h b c → folded b.email ≡ folded c.email
touched_email shared h b c touches = ⊎_elim (λ keys. ap (λ k. k.0) keys) (λ l. l.0.emails) touches

-- an entry without an old name affects only contacts that are linked, and one with an old name those with the same key
plain_linked : (shared : List Text) (h : List Mapping) (b c : Contact) (x : Mapping) → folded x.old_email ≡ folded b.email → x.old_name ≡ None → own_fields h b ≡ None → affects shared h c x ≡ true → Linked h b c
plain_linked shared h b c x emails unnamed none is = search (rules, same_text, no_own)

none_some : {y : Text} → None ≡ Some y → ⊥
none_some e = cc

named_reached : (h : List Mapping) (b c : Contact) (x : Mapping) → key x ≡ own_key b → reaches h c x ≡ true → own_key b ≡ own_key c
named_reached h b c x keys is = by (eq_by_cmp key_cmp (own_key c) (key x)) refl is
  where
    by : (e : Bool) → eq_by_cmp key_cmp (own_key c) (key x) ≡ e → (e || (is_none (own_fields h c) && eq_by_cmp key_cmp (folded c.email, None) (key x))) ≡ true → own_key b ≡ own_key c
    by true same is = sym keys ∙ sym ((same_key (own_key c) (key x)).0 same)
    by false other is =
        let plain : (folded c.email, None) ≡ own_key b = (same_key (folded c.email, None) (key x)).0 (and_parts (is_none (own_fields h c)) (eq_by_cmp key_cmp (folded c.email, None) (key x)) is).1 ∙ keys in
        absurd (none_some (ap (λ (k : Key). k.1) plain))

none_mapped : (o : Option Text) → is_some o ≡ true → None ≡ option_map folded o → ⊥
none_mapped None is e = true≢false (sym is)
none_mapped (Some y) is e = none_some e

some_mapped : (o : Option Text) (y : Text) → o ≡ None → Some y ≡ option_map folded o → ⊥
some_mapped o y none e = none_some (sym (e ∙ ap (option_map folded) none))

some_none : {X : Type 0} (o : Option X) → is_some o ≡ true → is_none o ≡ true → ⊥
some_none None some none = true≢false (sym some)
some_none (Some x) some none = true≢false (sym none)

-- an entry with an old name for another key, and one without for an email whose contact has an entry of its own
pub other_unreached : (h : List Mapping) (c : Contact) (x : Mapping) → is_some x.old_name ≡ true → (key x ≡ own_key c → ⊥) → filter (reaches h c) (x ∷ []) ≡ []
other_unreached h c x named other = filter_none (reaches h c) (x ∷ []) (false_from_ne_true (reaches h c x) (by (eq_by_cmp key_cmp (own_key c) (key x)) refl), tt)
  where
    by : (e : Bool) → eq_by_cmp key_cmp (own_key c) (key x) ≡ e → (e || (is_none (own_fields h c) && eq_by_cmp key_cmp (folded c.email, None) (key x))) ≡ true → ⊥
    by true same is = other (sym ((same_key (own_key c) (key x)).0 same))
    by false differs is = none_mapped x.old_name named
        (ap (λ (k : Key). k.1) ((same_key (folded c.email, None) (key x)).0 (and_parts (is_none (own_fields h c)) (eq_by_cmp key_cmp (folded c.email, None) (key x)) is).1))

pub owned_unreached : (h : List Mapping) (c : Contact) (x : Mapping) → x.old_name ≡ None → (folded x.old_email ≡ folded c.email → is_some (own_fields h c) ≡ true) → filter (reaches h c) (x ∷ []) ≡ []
owned_unreached h c x unnamed owns = filter_none (reaches h c) (x ∷ []) (false_from_ne_true (reaches h c x) (by (eq_by_cmp key_cmp (own_key c) (key x)) refl), tt)
  where
    by : (e : Bool) → eq_by_cmp key_cmp (own_key c) (key x) ≡ e → (e || (is_none (own_fields h c) && eq_by_cmp key_cmp (folded c.email, None) (key x))) ≡ true → ⊥
    by true same is = some_mapped x.old_name (folded c.name) unnamed (ap (λ (k : Key). k.1) ((same_key (own_key c) (key x)).0 same))
    by false differs is =
        let parts = and_parts (is_none (own_fields h c)) (eq_by_cmp key_cmp (folded c.email, None) (key x)) is in
        some_none (own_fields h c) (owns (sym (ap (λ (k : Key). k.0) ((same_key (folded c.email, None) (key x)).0 parts.1)))) parts.0

-- if one person has the email, and there is no entry for it
unspelled_linked : (shared : List Text) (h : List Mapping) (b c : Contact) → folded c.email ≡ folded b.email → spelled h c ≡ None → is_shared shared c.email ≡ false → Linked h b c × (is_shared shared (answer_to h b).email ≡ false)
unspelled_linked shared h b c same none one =
    let unspelled : spelled h b ≡ None = ap (spelling h) (sym same) ∙ none in (
      record { emails = sym same; names = inr (no_own h b unspelled, no_own h c none) },
      ap (is_shared shared) (unspelled_email h b unspelled) ∙ ap (λ e. list_any (bytes_eq e) shared) (sym same) ∙ one,
    )

named_touches : (shared : List Text) (h : List Mapping) (b c : Contact) (x : Mapping) → folded x.old_email ≡ folded b.email → key x ≡ own_key b → affects shared h c x ≡ true → Touches shared h b c
named_touches shared h b c x emails keys is = by (is_shared shared c.email) refl (spelled h c) refl is
  where
    by : (s : Bool) → is_shared shared c.email ≡ s → (o : Option Text) → spelled h c ≡ o
        → (if not s && is_none o then eq_by_cmp text_cmp (folded c.email) (folded x.old_email) else reaches h c x) ≡ true → Touches shared h b c
    by true many o at is = inl (named_reached h b c x keys is)
    by false one None at is = inr (unspelled_linked shared h b c ((same_text (folded c.email) (folded x.old_email)).0 is ∙ emails) at one)
    by false one (Some s) at is = inl (named_reached h b c x keys is)

-- so what holds of these contacts holds if a form for b affects c
pub forms_linked : (shared : List Text) (h : List Mapping) (to b c : Contact) (Q : Type 0) → (Touches shared h b c → Q) → OfForms (λ x. affects shared h c x ≡ true → Q) to shared (alike h) b
forms_linked shared h to b c Q f = (
  λ out.
      let no = none_needed shared h b (not-true _ out) in
      ((λ _ same is. f (inr (plain_linked shared h b c (short_form to) same refl no.0 is, no.1))), λ is. f (inr (plain_linked shared h b c (long_form to b) refl refl no.0 is, no.1))),
  λ is. f (named_touches shared h b c (named_form to b) refl refl is),
)

-- and the forms spell an email that several people share as the contacts do
pub forms_spelled : (shared : List Text) (h : List Mapping) (to b c : Contact) → SpellAlike shared h b c → OfForms (SpellsAs shared h c) to shared (alike h) b
forms_spelled shared h to b c alike_spelled = (
  λ out.
      let no = none_needed shared h b (not-true _ out) in
      let never : spelled h c ≡ None → is_shared shared c.email ≡ true → folded b.email ≡ folded c.email → ⊥ = λ none many same.
      true≢false (sym many ∙ ap (λ e. list_any (bytes_eq e) shared) (sym same) ∙ sym (ap (is_shared shared) (unspelled_email h b (ap (spelling h) same ∙ none))) ∙ no.1) in
      ((λ _ same none many emails. absurd (never none many (sym same ∙ emails))), λ none many emails. absurd (never none many emails)),
  λ none many emails. alike_spelled none many emails,
)

-- ==== the entries for any contacts make all their answers the one that is wanted

-- parts for texts, of which only that for one text can affect a contact
module _ (shared : List Text) (h : List Mapping) (c : Contact) (part : Text → List Mapping) (own : Text)
    (alone : (t : Text) → AllByRecursion (λ x. SpellsAs shared h c x × (affects shared h c x ≡ true → t ≡ own)) (part t)) where
  pub part_spelled : (t : Text) → AllByRecursion (SpellsAs shared h c) (part t)
  part_spelled t = all_weaker (part t) (λ x p. p.0) (alone t)

  pub unaffected_part : (t : Text) → t ≢ own → filter (affects shared h c) (part t) ≡ []
  unaffected_part t other = filter_none (affects shared h c) (part t) (all_weaker (part t) (λ x is. false_from_ne_true (affects shared h c x) (λ affected. other (is.1 affected))) (alone t))

  -- only the part for that text counts
  pub own_part : (texts : List Text) → list_any (bytes_eq own) texts ≡ true → (answer_to (h ++ flat_map part (distinct texts)) c ≡ answer_to (h ++ part own) c) × (git_answer_to (h ++ flat_map part (distinct texts)) c ≡ git_answer_to (h ++ part own) c)
  own_part texts among =
      let all = flat_map part (distinct texts) in
      let same = kept_part (affects shared h c) part own texts among (λ t other. unaffected_part t (λ e. true≢false (sym (equal_bytes own t (sym e)) ∙ other))) in
      let x = parts_answer c (h ++ part own) (h ++ filter (affects shared h c) (part own)) (only_affecting shared h c (part own) (part_spelled own)) in
      let y = parts_answer c (h ++ all) (h ++ filter (affects shared h c) all) (only_affecting shared h c all (all_joined (SpellsAs shared h c) part (distinct texts) (all_of _ part_spelled (distinct texts)))) in (
        y.0 ∙ ap (λ l. answer_to (h ++ l) c) same ∙ sym x.0,
        y.1 ∙ ap (λ l. git_answer_to (h ++ l) c) same ∙ sym x.1,
      )

  pub answered_by_own : (to : Contact) (texts : List Text) → list_any (bytes_eq own) texts ≡ true → IsAnswered (h ++ part own) to c → IsAnswered (h ++ flat_map part (distinct texts)) to c
  answered_by_own to texts among before = let same = own_part texts among in (same.0 ∙ before.0, same.1 ∙ before.1)

-- all contacts are answered, and the entries are what they have to be
pub entries_all : (shared : List Text) (h : List Mapping) → AllByRecursion HasNoEmptyName h → (to : Contact) (P : Mapping → Type 0) (cs : List Contact) → AllByRecursion (λ c. IsWanting h to c × OfNeeded P to shared h c) cs
    → ((b c : Contact) → b ∈ cs → c ∈ cs → SpellAlike shared h b c)
    → AllByRecursion (IsAnswered (h ++ entries_to shared (alike h) to cs) to) cs × AllByRecursion P (entries_to shared (alike h) to cs)
entries_all shared h named to P cs all spell = (each (IsAnswered (h ++ entries_to shared (alike h) to cs) to) cs answered, all_emails P shared (alike h) to cs (λ t. (of_email t).1))
  where
    part : Text → List Mapping
    part t = entries_for_email shared (alike h) to (of_old_email t cs)

    from_email : (t : Text) (c : Contact) → c ∈ of_old_email t cs → c ∈ cs
    from_email t c i = (from_filter (λ d. bytes_eq t (folded d.email)) cs c i).0

    of_email : (t : Text) → AllByRecursion (IsAnswered (h ++ part t) to) (of_old_email t cs) × AllByRecursion P (part t)
    of_email t = email_all shared h named to P t (of_old_email t cs) (all_weaker _ (λ c p. (p.0, (p.1).0, (p.1).1)) (of_email_all (λ c. IsWanting h to c × OfNeeded P to shared h c) cs t all))
        (λ b c i j. spell b c (from_email t b i) (from_email t c j))

    answered : (c : Contact) → c ∈ cs → IsAnswered (h ++ entries_to shared (alike h) to cs) to c
    answered c i = answered_by_own shared h c part (folded c.email)
        (λ t. each_for_email (λ x. SpellsAs shared h c x × (affects shared h c x ≡ true → t ≡ folded c.email)) to shared (alike h) (of_old_email t cs)
        (each _ (of_old_email t cs) (λ b j.
        let found = from_filter (λ d. bytes_eq t (folded d.email)) cs b j in
        both_forms (SpellsAs shared h c) (λ x. affects shared h c x ≡ true → t ≡ folded c.email) to shared (alike h) b (forms_spelled shared h to b c (spell b c found.0 i))
        (forms_linked shared h to b c (t ≡ folded c.email) (λ touches. same_bytes t (folded b.email) found.1 ∙ touched_email shared h b c touches)))))
        to (map (λ c. folded c.email) cs) (at (λ c. list_any (bytes_eq (folded c.email)) (map (λ c. folded c.email) cs) ≡ true) cs (all_among (λ c. folded c.email) cs) c i)
        (at (IsAnswered (h ++ part (folded c.email)) to) (of_old_email (folded c.email) cs) (of_email (folded c.email)).0 c (in_filter (λ d. bytes_eq (folded c.email) (folded d.email)) cs c i (equal_bytes (folded c.email) (folded c.email) refl)))
