-- What a contact gets if several groups have entries for its old email.
use Rattle.std.proofs.Common.{◌≡◌, ◌≢◌, ◌⊎◌, ◌∙◌, ◌&&◌, ◌||◌, Bool, true, false, true≢false, not, List, [], ◌∷◌, ◌++◌, Option, None, Some, ap, append-nil, append_assoc, bytes_eq, filter, if◌then◌else◌, inl, inr, is_none, is_some, option_map, refl, subst, sym, unwrap_or, ⊎_elim}
use Rattle.std.specs.List.{AllByRecursion}
use Rattle.std.specs.Option.{option_or}
use Rattle.std.specs.Ordering.{eq_by_cmp}
use Rattle.std.proofs.lemmas.Bool.{and_parts, not-true}
use Rattle.mailmap_entries.specs.Entries.{Mapping}
use Rattle.mailmap_entries.specs.Folding.{Text, folded}
use Rattle.mailmap_entries.specs.Semantics.{Fields, given_fields, is_accepted, key, key_cmp, new_fields, spelling}
use Rattle.mailmap_entries.proofs.Building.{same_key}
use Rattle.mailmap_contacts.specs.Contacts.{Contact, Tally, answer_to}
use Rattle.mailmap_contacts.proofs.Steps.{all_filtered}
use Rattle.mailmap_suggestions.specs.Forms.{IsAnswered, alike, are_answered, distinct, entries_to, git_answer_to, is_short_enough, long_form, name_unless_empty, named_form, needs_own_entry, of_old_email, own_key, plain_entries, plus, short_form}
use Rattle.mailmap_suggestions.specs.GroupEntries.{all_entries, are_alike, are_cut, contacts}
use Rattle.mailmap_entries.proofs.Parts.{all_append, all_weaker}
use Rattle.mailmap_suggestions.proofs.Appended.{all_answered, all_emails, answer_is, each_named, fields, git_is, made, named_after, none_needed, only_keys, over, own_fields, plain_after, reaches, spelled, spelling_folded, spelling_joined, spelling_so, with_email}
use Rattle.mailmap_suggestions.proofs.Distinct.{◌∈◌, all_joined, all_of, same_bytes}
use Rattle.mailmap_suggestions.proofs.Kept.{from_none, own_before, some_not}
use Rattle.mailmap_suggestions.proofs.NewNames.{named_some}
use Rattle.mailmap_suggestions.proofs.United.{active_some, added_are, all_texts, from_group, group, has_named, is_active, lines, part, part_off, part_on, proper_comes, these, wanted}

-- ---- entries that say one answer

-- the email of an answer by its fields
folded_email : (h : List Mapping) (d : Contact) → folded (answer_to h d).email ≡ unwrap_or (option_map folded (fields h d).email) (folded d.email)
folded_email h d = ap (λ (a : Contact). folded a.email) (answer_is h d) ∙ by (fields h d).email (spelled h d) refl
  where
    by : (m o : Option Text) → spelled h d ≡ o → folded (unwrap_or m (unwrap_or o d.email)) ≡ unwrap_or (option_map folded m) (folded d.email)
    by (Some y) o is = refl
    by None None is = refl
    by None (Some t) is = spelling_folded h (folded d.email) t is

same_emails : (h g : List Mapping) (d : Contact) → (fields h d).email ≡ (fields g d).email → folded (answer_to h d).email ≡ folded (answer_to g d).email
same_emails h g d same = folded_email h d ∙ ap (λ m. unwrap_or (option_map folded m) (folded d.email)) same ∙ sym (folded_email g d)

module _ (g : List Mapping) where
  -- in full; or in the short form, and then contacts for its email without an entry of their own have that already
  abbrev IsShort : Contact → Mapping → Type 0
  IsShort to x = (x.new_email ≡ None) × (x.old_name ≡ None) × ((d : Contact) → folded d.email ≡ folded x.old_email → own_fields g d ≡ None → folded (answer_to g d).email ≡ folded to.email)

  abbrev Says : Contact → Mapping → Type 0
  Says to x = (x.new_name ≡ Some to.name) × ((x.new_email ≡ Some to.email) ⊎ IsShort to x)

  short_email : (to c d : Contact) → own_fields g c ≡ None → own_fields g d ≡ None → folded to.email ≡ folded c.email → folded d.email ≡ folded to.email → IsAnswered (g ++ short_form to ∷ []) to c → folded (answer_to g d).email ≡ folded to.email
  short_email to c d none alone fits same is = folded_email g d ∙ ap (λ o. unwrap_or (option_map folded (unwrap_or o (given_fields g (folded d.email))).email) (folded d.email)) alone
      ∙ by (given_fields g (folded d.email)).email (ap (λ e. unwrap_or (given_fields g e).email c.email) (same ∙ fits) ∙ given)
    where
      given : unwrap_or (given_fields g (folded c.email)).email c.email ≡ to.email
      given = ap (λ (a : Contact). a.email) (sym (git_is (g ++ short_form to ∷ []) c ∙ ap (λ k. made c k None) (plain_after g (short_form to) c refl (λ i. (sym fits i, None)) none)) ∙ is.1)

      by : (m : Option Text) → unwrap_or m c.email ≡ to.email → unwrap_or (option_map folded m) (folded d.email) ≡ folded to.email
      by None _ = same
      by (Some y) is = ap folded is

  plain_says : (to : Contact) (ps : List Contact) → to.name ≢ [] → AllByRecursion (λ c. own_fields g c ≡ None) ps → AllByRecursion (Says to) (plain_entries (alike g) to ps)
  plain_says to [] some all = tt
  plain_says to (c ∷ cs) some all = elim (are_answered (alike g) to (c ∷ cs)) as (λ r. AllByRecursion (Says to) (if r then [] else (if is_short_enough (alike g) to c cs then short_form to else long_form to c) ∷ [])) [
    | true ↦ tt
    | false ↦ elim (is_short_enough (alike g) to c cs) as (λ r. is_short_enough (alike g) to c cs ≡ r → AllByRecursion (Says to) ((if r then short_form to else long_form to c) ∷ [])) [
      | true ↦ λ enough.
          let parts = and_parts (is_some (name_unless_empty to) && bytes_eq (folded to.email) (folded c.email)) (are_answered (plus (alike g) (short_form to ∷ [])) to (c ∷ cs)) enough in
          let same = same_bytes (folded to.email) (folded c.email) (and_parts (is_some (name_unless_empty to)) (bytes_eq (folded to.email) (folded c.email)) parts.0).1 in
          let answered = (all_answered (g ++ short_form to ∷ []) to (c ∷ cs) parts.1).0 in
          ((refl, inr (refl, refl, λ d fits alone. short_email to c d all.0 alone same fits answered)), tt)
      | false ↦ λ _. ((named_some to some, inl refl), tt)
    ] refl
  ]

  all_say : (shared : List Text) (to : Contact) (cs : List Contact) → to.name ≢ [] → AllByRecursion (Says to) (entries_to shared (alike g) to cs)
  all_say shared to cs some = all_emails (Says to) shared (alike g) to cs (λ email.
      let ds = of_old_email email cs in
      let single : Contact → Bool = λ c. not (needs_own_entry shared (alike g) c) in
      let plain = plain_entries (alike g) to (filter single ds) in
      all_append (Says to) plain _
      (plain_says to (filter single ds) some (all_filtered single (λ _. Unit {0}) (λ c. own_fields g c ≡ None) (λ c _ out. (none_needed shared g c (not-true (needs_own_entry shared (alike g) c) out)).0) ds (all_of (λ _. Unit {0}) (λ _. tt) ds)))
      (each_named (Says to) to (alike (g ++ plain)) ds (all_of (λ c. Says to (named_form to c)) (λ c. (named_some to some, inl refl)) ds)))

  -- ---- of some answers, each with a text

  module _ (On : Text → Type 0) (to : Text → Contact) where
    abbrev SaysOne : Mapping → Type 0
    SaysOne x = (t : Text) × On t × Says (to t) x

    abbrev said : Text → Text → Fields
    said l t = record { name = Some (to l).name; email = Some (to t).email }

    abbrev IsWhole : Fields → Type 0
    IsWhole f = (t : Text) × On t × (f ≡ said t t)

    -- the name of one and the email of another, after entries for a contact
    abbrev IsMixed : Contact → Fields → Type 0
    IsMixed d f = (l : Text) × On l × (t : Text) × On t × (f ≡ said l t) × (folded (to l).email ≡ folded (answer_to g d).email)

    abbrev Gets : Contact → Fields → Type 0
    Gets d f = (f.email ≡ (fields g d).email) ⊎ (IsWhole f ⊎ IsMixed d f)

    module _ (d : Contact) where
      abbrev unless_own : List Mapping → Type 0
      unless_own h = own_fields h d ≡ None → own_fields g d ≡ None

      -- one more entry, for its key
      own_step : (x : Mapping) → SaysOne x → own_key d ≡ key x → Gets d (new_fields x)
      own_step x (t, on, (name, inl email)) keys = inr (inl (t, on, λ i. record { name = name i; email = email i }))
      own_step x (t, on, (name, inr (none, unnamed, fits))) keys = absurd (some_not (ap (λ k. k.1) keys ∙ ap (option_map folded) unnamed))

      -- or for its email
      plain_step : (x : Mapping) → SaysOne x → own_fields g d ≡ None → folded d.email ≡ folded x.old_email → (f : Fields) → Gets d f → Gets d (over x f)
      plain_step x (t, on, (name, inl email)) alone same f gets = inr (inl (t, on, λ i. record { name = option_or (name i) f.name; email = option_or (email i) f.email }))
      plain_step x (t, on, (name, inr (none, unnamed, fits))) alone same f (inl kept) = inl (ap (λ o. option_or o f.email) none ∙ kept)
      plain_step x (t, on, (name, inr (none, unnamed, fits))) alone same f (inr (inl (u, too, is))) = inr (inr (t, on, u, too, (λ i. record { name = option_or (name i) (is i).name; email = option_or (none i) (is i).email }), sym (fits d same alone)))
      plain_step x (t, on, (name, inr (none, unnamed, fits))) alone same f (inr (inr (l, _, u, too, is, _))) = inr (inr (t, on, u, too, (λ i. record { name = option_or (name i) (is i).name; email = option_or (none i) (is i).email }), sym (fits d same alone)))

      step : (h : List Mapping) (x : Mapping) → SaysOne x → unless_own h → Gets d (fields h d) → Gets d (fields (h ++ x ∷ []) d)
      step h x says before gets = by (eq_by_cmp key_cmp (own_key d) (key x)) refl
        where
          good : is_accepted x ≡ true
          good = ap (λ o. is_some o || is_some x.new_email) says.2.0

          by_email : (b : Bool) → (is_none (own_fields h d) && eq_by_cmp key_cmp (folded d.email, None) (key x)) ≡ b → eq_by_cmp key_cmp (own_key d) (key x) ≡ false → Gets d (fields (h ++ x ∷ []) d)
          by_email true is other =
              let parts = and_parts (is_none (own_fields h d)) (eq_by_cmp key_cmp (folded d.email, None) (key x)) is in
              let none = from_none (own_fields h d) parts.0 in
              let keys = (same_key (folded d.email, None) (key x)).0 parts.1 in
              let same : fields (h ++ x ∷ []) d ≡ over x (fields h d) = plain_after h x d good keys none ∙ ap (over x) (ap (λ o. unwrap_or o (given_fields h (folded d.email))) (sym none)) in
              subst (Gets d) (sym same) (plain_step x says (before none) (ap (λ k. k.0) keys) (fields h d) gets)
          by_email false is other =
              let none : filter (reaches h d) (x ∷ []) ≡ [] = λ i. if other i || is i then x ∷ [] else [] in
              subst (Gets d) (sym (only_keys h d (x ∷ []) ∙ ap (λ l. fields (h ++ l) d) none ∙ ap (λ l. fields l d) (append-nil h))) gets

          by : (b : Bool) → eq_by_cmp key_cmp (own_key d) (key x) ≡ b → Gets d (fields (h ++ x ∷ []) d)
          by true is = let keys = (same_key (own_key d) (key x)).0 is in subst (Gets d) (sym (named_after h x d good keys)) (own_step x says keys)
          by false other = by_email (is_none (own_fields h d) && eq_by_cmp key_cmp (folded d.email, None) (key x)) refl other

      walk : (h xs : List Mapping) → unless_own h → Gets d (fields h d) → AllByRecursion SaysOne xs → Gets d (fields (h ++ xs) d)
      walk h [] before gets all = subst (λ l. Gets d (fields l d)) (sym (append-nil h)) gets
      walk h (x ∷ xs) before gets all = subst (λ l. Gets d (fields l d)) (append_assoc h (x ∷ []) xs)
          (walk (h ++ x ∷ []) xs (λ none. before (own_before [] h (x ∷ []) d none)) (step h x all.0 before gets) all.1)

    -- its email stays, ASCII case aside, or it gets one of the answers, or the name of one and the email of another
    pub overlapping : (xs : List Mapping) → AllByRecursion SaysOne xs → (d : Contact) → let a = answer_to (g ++ xs) d in
        (folded a.email ≡ folded (answer_to g d).email) ⊎ (((t : Text) × On t × (a ≡ to t))
        ⊎ ((l : Text) × On l × (t : Text) × On t × (a.name ≡ (to l).name) × (a.email ≡ (to t).email) × (folded (to l).email ≡ folded (answer_to g d).email)))
    overlapping xs all d = ⊎_elim
        (λ kept. inl (same_emails (g ++ xs) g d kept))
        (λ more. inr (⊎_elim
        (λ (t, on, is). inl (t, on, (with_email (g ++ xs) d (to t) (Some (to t).name) is refl).0))
        (λ (l, on, t, too, is, same).
        let got = (with_email (g ++ xs) d (record { name = (to l).name; email = (to t).email }) (Some (to l).name) is refl).0 in
        inr (l, on, t, too, ap (λ (a : Contact). a.name) got, ap (λ (a : Contact). a.email) got, same))
        more))
        (walk d g xs (λ none. none) (inl refl) all)

-- ---- the entries of groups

member : (g : List Mapping) (cs : List Contact) → not (are_alike (alike g) cs) ≡ true → (c : Contact) × (c ∈ cs)
member g [] is = absurd (true≢false (sym is))
member g (c ∷ cs) is = (c, inl refl)

-- if only answers with a name have a class
pub groups_say : (shared : List Text) (g : List Mapping) (ts : List Tally) (class : Contact → Text) → ((c : Contact) → c ∈ contacts ts → (answer_to g c).name ≡ [] → class (answer_to g c) ≡ [])
    → AllByRecursion (SaysOne g (λ t. is_active shared g g ts class t ≡ true) (wanted shared g g ts class)) (all_entries shared class (alike g) (alike g) ts)
groups_say shared g ts class unnamed = subst (AllByRecursion One) (sym (added_are shared g g ts class)) (all_joined One (part shared g g ts class) (distinct (all_texts shared g g ts class))
    (all_of (λ t. AllByRecursion One (part shared g g ts class t)) (λ t. by t (is_active shared g g ts class t) refl) (distinct (all_texts shared g g ts class))))
  where
    One : Mapping → Type 0
    One = SaysOne g (λ t. is_active shared g g ts class t ≡ true) (wanted shared g g ts class)

    by : (t : Text) (b : Bool) → is_active shared g g ts class t ≡ b → AllByRecursion One (part shared g g ts class t)
    by t true on =
        let parts = and_parts (not (bytes_eq t [])) (not (are_alike (alike g) (group shared g g ts class t)) && not (are_cut (lines shared g g ts class t))) on in
        let some = (and_parts (not (are_alike (alike g) (group shared g g ts class t))) (not (are_cut (lines shared g g ts class t))) parts.1).0 in
        let c = member g (group shared g g ts class t) some in
        subst (AllByRecursion One) (sym (part_on shared g g ts class t on)) (all_weaker (lines shared g g ts class t) (λ x says. (t, on, says))
        (all_say g shared (wanted shared g g ts class t) (group shared g g ts class t) (has_named shared g ts class unnamed t (active_some shared g g ts class t on) c.0 c.1)))
    by t false off = subst (AllByRecursion One) (sym (part_off shared g g ts class t off)) tt

-- the proper answer of a group that has entries is one to a contact of it
pub active_from : (shared : List Text) (g : List Mapping) (ts : List Tally) (class : Contact → Text) (t : Text) → is_active shared g g ts class t ≡ true
    → (e : Contact) × (e ∈ contacts ts) × (answer_to g e ≡ wanted shared g g ts class t) × (class (answer_to g e) ≡ t)
active_from shared g ts class t on =
    let parts = and_parts (not (bytes_eq t [])) (not (are_alike (alike g) (group shared g g ts class t)) && not (are_cut (lines shared g g ts class t))) on in
    let some = (and_parts (not (are_alike (alike g) (group shared g g ts class t))) (not (are_cut (lines shared g g ts class t))) parts.1).0 in
    let c = member g (group shared g g ts class t) some in
    let d = proper_comes shared g (these shared g g ts class t) c.0 c.1 in
    let found = from_group shared g g ts class t d.0 d.1 in
    (d.0, found.0, d.2, found.1)

-- ---- the short form after more entries

after_short : (m o p : Option Text) (e w : Text) → unwrap_or m e ≡ w → unwrap_or m (unwrap_or o e) ≡ w → (e ≡ w → unwrap_or p e ≡ w) → unwrap_or m (unwrap_or (option_or o p) e) ≡ w
after_short (Some y) o p e w gits ours kept = gits
after_short None None p e w gits ours kept = kept gits
after_short None (Some t) p e w gits ours kept = ours

-- a contact without an entry of its own, whose answers have the email, gets the name
pub short_after : (h : List Mapping) (to c : Contact) → own_fields h c ≡ None → folded to.email ≡ folded c.email → (answer_to h c).email ≡ to.email → (git_answer_to h c).email ≡ to.email → IsAnswered (h ++ short_form to ∷ []) to c
short_after h to c none fits ours gits = (
  answer_is (h ++ x ∷ []) c ∙ (λ i. made c (fields_are i) (spelling_joined h (x ∷ []) (folded c.email) i)) ∙ (λ i. record { name = to.name; email = our_email i }),
  git_is (h ++ x ∷ []) c ∙ ap (λ f. made c f None) fields_are ∙ (λ i. record { name = to.name; email = git_email i }),
)
  where
    x : Mapping
    x = short_form to

    given : Option Text
    given = (given_fields h (folded c.email)).email

    fields_are : fields (h ++ x ∷ []) c ≡ over x (given_fields h (folded c.email))
    fields_are = plain_after h x c refl (λ i. (sym fits i, None)) none

    own : fields h c ≡ given_fields h (folded c.email)
    own = ap (λ o. unwrap_or o (given_fields h (folded c.email))) none

    git_email : unwrap_or given c.email ≡ to.email
    git_email = ap (λ (a : Contact). a.email) (sym (git_is h c ∙ ap (λ f. made c f None) own)) ∙ gits

    our_email : unwrap_or given (unwrap_or (option_or (spelled h c) (spelling (x ∷ []) (folded c.email))) c.email) ≡ to.email
    our_email = after_short given (spelled h c) (spelling (x ∷ []) (folded c.email)) c.email to.email git_email
        (ap (λ (a : Contact). a.email) (sym (answer_is h c ∙ ap (λ f. made c f (spelled h c)) own)) ∙ ours)
        (λ same. spelling_so c (x ∷ []) ((λ _. sym same), tt) ∙ same)

before_short : (m o p : Option Text) (e w : Text) → unwrap_or m e ≡ w → unwrap_or m (unwrap_or (option_or o p) e) ≡ w → unwrap_or m (unwrap_or o e) ≡ w
before_short (Some y) o p e w gits ours = gits
before_short None None p e w gits ours = gits
before_short None (Some t) p e w gits ours = ours

-- and whom it answers has answers with the email
pub before_it : (h : List Mapping) (to c : Contact) → own_fields h c ≡ None → folded to.email ≡ folded c.email → IsAnswered (h ++ short_form to ∷ []) to c → ((answer_to h c).email ≡ to.email) × ((git_answer_to h c).email ≡ to.email)
before_it h to c none fits is = (ours, ap (λ (a : Contact). a.email) (git_is h c ∙ ap (λ f. made c f None) own) ∙ git_email)
  where
    x : Mapping
    x = short_form to

    given : Option Text
    given = (given_fields h (folded c.email)).email

    fields_are : fields (h ++ x ∷ []) c ≡ over x (given_fields h (folded c.email))
    fields_are = plain_after h x c refl (λ i. (sym fits i, None)) none

    own : fields h c ≡ given_fields h (folded c.email)
    own = ap (λ o. unwrap_or o (given_fields h (folded c.email))) none

    git_email : unwrap_or given c.email ≡ to.email
    git_email = ap (λ (a : Contact). a.email) (sym (git_is (h ++ x ∷ []) c ∙ ap (λ f. made c f None) fields_are) ∙ is.1)

    ours : (answer_to h c).email ≡ to.email
    ours = ap (λ (a : Contact). a.email) (answer_is h c ∙ ap (λ f. made c f (spelled h c)) own)
        ∙ before_short given (spelled h c) (spelling (x ∷ []) (folded c.email)) c.email to.email git_email
        (ap (λ (a : Contact). a.email) (sym (answer_is (h ++ x ∷ []) c ∙ (λ i. made c (fields_are i) (spelling_joined h (x ∷ []) (folded c.email) i))) ∙ is.0))
