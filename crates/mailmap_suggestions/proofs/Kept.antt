-- Entries for groups after more entries than they were made for, of which only some are kept.
use Rattle.std.proofs.Common.{◌≡◌, ◌≢◌, ◌⊎◌, ◌∙◌, ◌&&◌, ◌||◌, Bool, true, false, true≢false, not, List, [], ◌∷◌, ◌++◌, Option, None, Some, ap, append-nil, append_assoc, bytes_eq, filter, if◌then◌else◌, inl, inr, is_none, is_some, map, option_map, refl, subst, sym, ⊎_elim}
use Rattle.std.specs.List.{AllByRecursion, flat_map, list_any}
use Rattle.std.specs.Option.{option_or}
use Rattle.std.specs.Ordering.{eq_by_cmp}
use Rattle.std.proofs.lemmas.Bool.{and_parts, cases_Bool, false_from_ne_true, not-true, or_right, true_from_ne_false}
use Rattle.std.proofs.lemmas.List.Elements.{filter-append, filter_agree}
use Rattle.mailmap_entries.specs.Entries.{Mapping}
use Rattle.mailmap_entries.specs.Folding.{Text, folded, text_cmp}
use Rattle.mailmap_entries.specs.Semantics.{Fields, Key, accepted, is_accepted, key, key_cmp, last, last_fields, new_fields, of_key, spelling}
use Rattle.mailmap_entries.proofs.Building.{same_key, same_text}
use Rattle.mailmap_entries.proofs.Joined.{filter_none}
use Rattle.mailmap_entries.proofs.Parts.{all_head, all_tail, all_weaker, filter-filter, filter_all}
use Rattle.mailmap_contacts.specs.Contacts.{Contact, Tally, answer_to}
use Rattle.mailmap_contacts.proofs.Steps.{all_filtered}
use Rattle.mailmap_suggestions.specs.Forms.{IsAnswered, Stays, alike, are_answered, distinct, entries_for_email, git_answer_to, is_answered, is_shared, is_short_enough, long_form, name_unless_empty, named_entries, named_form, needs_own_entry, of_old_email, own_key, plain_entries, plus, short_form}
use Rattle.mailmap_suggestions.specs.GroupEntries.{HasNoEmptyName, all_entries, are_cut, contacts, is_grouped}
use Rattle.mailmap_suggestions.specs.Selections.{lines_for}
use Rattle.mailmap_suggestions.specs.Suggestions.{has_any, is_remembered, new_entries}
use Rattle.mailmap_suggestions.proofs.Appended.{IsWanting, Linked, OfForms, OfPlain, SpellAlike, SpellsAs, Touches, accepted_all, affects, all_answered, answered_decides, both_forms, each_for_email, each_named, each_plain, email_all, forms_linked, forms_spelled, linked_email, last_joined, no_own, none_needed_if, none_of_key, of_email_all, one_of_key, own_fields, own_part, part_spelled, parts_answer, parts_stay, plain_exact, reaches, spelled, spelling_joined, spelling_stays, touched_email, unaffected, unaffected_part, unnamed_contact, unspelled_email}
use Rattle.mailmap_suggestions.proofs.Distinct.{◌∈◌, all_among, all_joined, all_of, at, each, equal_bytes, filter_joined, from_filter, in_filter, kept_part, no_part, same_bytes}
use Rattle.mailmap_suggestions.proofs.Needed.{Given, HasOwn, Other, answered_without, by_own, for_others, good, needs_same, none_reached, old_email_is}
use Rattle.mailmap_suggestions.proofs.United.{active_some, added_are, all_texts, alone, from_group, group, has_entries_is, in_group, is_active, lines, part, part_off, part_on, text, text_among, wanted}

-- ==== what more entries before change

pub some_not : {X : Type 0} {x : X} → Some x ≡ None → ⊥
some_not e = cc

pub from_none : {X : Type 0} (o : Option X) → is_none o ≡ true → o ≡ None
from_none None is = refl
from_none (Some x) is = absurd (true≢false (sym is))

left_none : {X : Type 0} (o p : Option X) → option_or o p ≡ None → o ≡ None
left_none None p none = refl
left_none (Some x) p none = none

right_none : {X : Type 0} (o p : Option X) → option_or o p ≡ None → p ≡ None
right_none None p none = none
right_none (Some x) p none = absurd (some_not none)

or_and : (a m n b : Bool) → (m ≡ true → n ≡ true) → (a || (m && b)) ≡ true → (a || (n && b)) ≡ true
or_and true m n b f is = refl
or_and false m n b f is = let parts = and_parts m b is in λ i. f parts.0 i && parts.1 i

affected : (u m n e r q : Bool) → (m ≡ true → n ≡ true) → (r ≡ true → q ≡ true) → (q ≡ true → e ≡ true) → (if u && m then e else r) ≡ true → (if u && n then e else q) ≡ true
affected false m n e r q f reach email is = reach is
affected true true true e r q f reach email is = is
affected true true false e r q f reach email is = absurd (true≢false (sym (f refl)))
affected true false true e r q f reach email is = email (reach is)
affected true false false e r q f reach email is = reach is

module _ (shared : List Text) (h more : List Mapping) (c : Contact) where
  spelled_before : spelled (h ++ more) c ≡ None → spelled h c ≡ None
  spelled_before none = left_none (spelled h c) (spelling more (folded c.email)) (sym (spelling_joined h more (folded c.email)) ∙ none)

  pub own_before : own_fields (h ++ more) c ≡ None → own_fields h c ≡ None
  own_before none = right_none (last_fields more (own_key c)) (own_fields h c) (sym (last_joined h more (own_key c)) ∙ none)

  reached_before : (x : Mapping) → reaches (h ++ more) c x ≡ true → reaches h c x ≡ true
  reached_before x is = or_and (eq_by_cmp key_cmp (own_key c) (key x)) (is_none (own_fields (h ++ more) c)) (is_none (own_fields h c)) (eq_by_cmp key_cmp (folded c.email, None) (key x))
      (λ none. ap is_none (own_before (from_none (own_fields (h ++ more) c) none))) is

  reached_email : (x : Mapping) → reaches h c x ≡ true → eq_by_cmp text_cmp (folded c.email) (folded x.old_email) ≡ true
  reached_email x is = by (eq_by_cmp key_cmp (own_key c) (key x)) refl is
    where
      by : (b : Bool) → eq_by_cmp key_cmp (own_key c) (key x) ≡ b → (b || (is_none (own_fields h c) && eq_by_cmp key_cmp (folded c.email, None) (key x))) ≡ true → eq_by_cmp text_cmp (folded c.email) (folded x.old_email) ≡ true
      by true same is = (same_text (folded c.email) (folded x.old_email)).1 (ap (λ (k : Key). k.0) ((same_key (own_key c) (key x)).0 same))
      by false other is = (same_text (folded c.email) (folded x.old_email)).1 (ap (λ (k : Key). k.0) ((same_key (folded c.email, None) (key x)).0 (and_parts (is_none (own_fields h c)) (eq_by_cmp key_cmp (folded c.email, None) (key x)) is).1))

  affected_if : (x : Mapping) → reaches h c x ≡ true → affects shared h c x ≡ true
  affected_if x is = affected (not (is_shared shared c.email)) false (is_none (spelled h c)) (eq_by_cmp text_cmp (folded c.email) (folded x.old_email)) (reaches h c x) (reaches h c x)
      (λ e. absurd (true≢false (sym e))) (λ r. r) (reached_email x) (by (not (is_shared shared c.email)))
    where
      by : (u : Bool) → (if u && false then eq_by_cmp text_cmp (folded c.email) (folded x.old_email) else reaches h c x) ≡ true
      by true = is
      by false = is

  affected_before : (x : Mapping) → affects shared (h ++ more) c x ≡ true → affects shared h c x ≡ true
  affected_before x is = affected (not (is_shared shared c.email)) (is_none (spelled (h ++ more) c)) (is_none (spelled h c)) (eq_by_cmp text_cmp (folded c.email) (folded x.old_email)) (reaches (h ++ more) c x) (reaches h c x)
      (λ none. ap is_none (spelled_before (from_none (spelled (h ++ more) c) none))) (reached_before x) (reached_email x) is

  -- entries that could affect a contact only in one way before can only so now
  alone_after : (Q : Type 0) (xs : List Mapping) → AllByRecursion (λ x. SpellsAs shared h c x × (affects shared h c x ≡ true → Q)) xs → AllByRecursion (λ x. SpellsAs shared (h ++ more) c x × (affects shared (h ++ more) c x ≡ true → Q)) xs
  alone_after Q xs all = all_weaker xs (λ x a. ((λ none. a.0 (spelled_before none)), λ is. a.1 (affected_before x is))) all

-- entries that don't reach a contact, and spell its email as it does if there is no entry for that, leave it answered
answered_with : (h xs : List Mapping) (to c : Contact) → filter (reaches h c) xs ≡ [] → (spelled h c ≡ None → AllByRecursion (λ x. folded x.old_email ≡ folded c.email → x.old_email ≡ c.email) xs) → IsAnswered h to c → IsAnswered (h ++ xs) to c
answered_with h xs to c none spells is =
    let same = parts_answer c (h ++ xs) h (parts_stay h c xs (spelling_stays h xs c spells) none) in
    (same.0 ∙ is.0, same.1 ∙ is.1)

-- ==== the entries with old names

module _ (to : Contact) where
  abbrev IsForm : Mapping → Type 0
  IsForm x = (is_accepted x ≡ true) × (is_some x.old_name ≡ true) × (new_fields x ≡ record { name = name_unless_empty to; email = Some to.email })

  -- either one of them is for a key, or all are for others
  decide_own : (k : Key) (xs : List Mapping) → AllByRecursion IsForm xs → HasOwn to k xs ⊎ ((last_fields xs k ≡ None) × AllByRecursion (Other k) xs)
  decide_own k [] all = inr (refl, tt)
  decide_own k (x ∷ xs) all = ⊎_elim (λ has. inl (last_joined (x ∷ []) xs k ∙ ap (λ o. option_or o (last_fields (x ∷ []) k)) has))
      (λ rest.
      let first : last_fields (x ∷ xs) k ≡ last_fields (x ∷ []) k = last_joined (x ∷ []) xs k ∙ ap (λ o. option_or o (last_fields (x ∷ []) k)) rest.0 in
      ⊎_elim (λ yes. inl (first ∙ ap (λ l. option_map new_fields (last l)) (one_of_key x k all.0.0 ((same_key k (key x)).0 yes)) ∙ ap Some all.0.2))
      (λ no. inr (first ∙ ap (λ l. option_map new_fields (last l)) (none_of_key x k all.0.0 no), ((all.0.1, λ same. true≢false (sym ((same_key k (key x)).1 (sym same)) ∙ no)), rest.1)))
      (cases_Bool (eq_by_cmp key_cmp k (key x))))
      (decide_own k xs all.1)

  -- a contact for whose key there is none was answered before
  before_own : (cs : List Contact) (g : List Mapping) (c : Contact) → c ∈ cs → AllByRecursion (Other (own_key c)) (named_entries (alike g) to cs) → IsAnswered g to c
  before_own [] g c i others = absurd i
  before_own (b ∷ cs) g c i others = elim (is_answered (alike g) to b) as (λ r. is_answered (alike g) to b ≡ r
      → AllByRecursion (Other (own_key c)) (if r then named_entries (alike g) to cs else named_form to b ∷ named_entries (alike (g ++ named_form to b ∷ [])) to cs) → IsAnswered g to c) [
        | true ↦ λ yes others. ⊎_elim (λ same. subst (IsAnswered g to) same ((answered_decides g to b).0 yes)) (λ later. before_own cs g c later others) i
        | false ↦ λ out others. ⊎_elim (λ same. absurd (others.0.1 (ap own_key same)))
            (λ later. answered_without g (named_form to b ∷ []) to c (none_reached g c (named_form to b ∷ []) (others.0, tt)) (before_own cs (g ++ named_form to b ∷ []) c later others.1)) i
      ] refl others

-- ==== the entry without an old name for one old email, after more entries than it was made for

module _ (g more : List Mapping) (to : Contact) (email : Text) where
  abbrev after : List Mapping
  after = g ++ more

  -- what a contact without an entry of its own needs
  pub record IsKept (c : Contact) : Type 0 where
    pub has_email : folded c.email ≡ email
    pub kept : IsAnswered g to c → IsAnswered after to c
    pub unowned : own_fields after c ≡ None
    pub wants : IsWanting after to c
    pub short : folded to.email ≡ folded c.email → IsAnswered (g ++ short_form to ∷ []) to c → IsAnswered (after ++ short_form to ∷ []) to c

  pub plain_stays : (ps : List Contact) → AllByRecursion IsKept ps → (c : Contact) → c ∈ ps → IsAnswered (after ++ plain_entries (alike g) to ps) to c
  plain_stays [] all c i = absurd i
  plain_stays (b ∷ bs) all c i =
      let this = at IsKept (b ∷ bs) all c i in
      elim (are_answered (alike g) to (b ∷ bs)) as (λ r. are_answered (alike g) to (b ∷ bs) ≡ r → IsAnswered (after ++ (if r then [] else (if is_short_enough (alike g) to b bs then short_form to else long_form to b) ∷ [])) to c) [
        | true ↦ λ yes. subst (λ l. IsAnswered l to c) (sym (append-nil after)) (this.kept (at (IsAnswered g to) (b ∷ bs) (all_answered g to (b ∷ bs) yes) c i))
        | false ↦ λ _. elim (is_short_enough (alike g) to b bs) as (λ r. is_short_enough (alike g) to b bs ≡ r → IsAnswered (after ++ (if r then short_form to else long_form to b) ∷ []) to c) [
          | true ↦ λ enough.
              let parts = and_parts (is_some (name_unless_empty to) && bytes_eq (folded to.email) (folded b.email)) (are_answered (plus (alike g) (short_form to ∷ [])) to (b ∷ bs)) enough in
              let same : folded to.email ≡ email = same_bytes (folded to.email) (folded b.email) (and_parts (is_some (name_unless_empty to)) (bytes_eq (folded to.email) (folded b.email)) parts.0).1 ∙ all.0.has_email in
              this.short (same ∙ sym this.has_email) (at (IsAnswered (g ++ short_form to ∷ []) to) (b ∷ bs) (all_answered (g ++ short_form to ∷ []) to (b ∷ bs) parts.1) c i)
          | false ↦ λ _. plain_exact after to b c (this.has_email ∙ sym all.0.has_email) this.unowned this.wants
        ] refl
      ] refl

-- ==== no entry has a key

none_keyed : (c : Contact) (xs : List Mapping) → AllByRecursion (λ x. is_some x.old_name ≡ true → key x ≡ own_key c → ⊥) xs → of_key xs (own_key c) ≡ []
none_keyed c xs all = filter_none (λ x. eq_by_cmp key_cmp (own_key c) (key x)) (accepted xs)
    (accepted_all (λ x. eq_by_cmp key_cmp (own_key c) (key x) ≡ false) xs (all_weaker xs (λ x other. false_from_ne_true (eq_by_cmp key_cmp (own_key c) (key x)) (λ yes.
    let same = (same_key (own_key c) (key x)).0 yes in
    other (named_if x.old_name (ap (λ (k : Key). k.1) same)) (sym same))) all))
  where
    named_if : (o : Option Text) → Some (folded c.name) ≡ option_map folded o → is_some o ≡ true
    named_if None e = absurd (some_not e)
    named_if (Some n) e = refl

pub unkeyed : (c : Contact) (xs : List Mapping) → AllByRecursion (λ x. is_some x.old_name ≡ true → key x ≡ own_key c → ⊥) xs → last_fields xs (own_key c) ≡ None
unkeyed c xs all = ap (λ l. option_map new_fields (last l)) (none_keyed c xs all)

-- ==== lines for a contact of which some are kept

-- whether a contact has lines, and none of them is kept
abbrev pub is_dropped : (Mapping → Bool) → List Mapping → Contact → Bool
is_dropped keep es c = let ls = lines_for es c in has_any ls && not (has_any (filter keep ls))

some_fields : {f : Fields} (l : List Mapping) → option_map new_fields (last l) ≡ Some f → has_any l ≡ true
some_fields [] is = absurd (some_not (sym is))
some_fields (x ∷ l) is = refl

no_fields : (l : List Mapping) → option_map new_fields (last l) ≡ None → l ≡ []
no_fields [] is = refl
no_fields (x ∷ l) is = absurd (some_not is)

any_kept : (keep : Mapping → Bool) (l : List Mapping) → has_any (filter keep l) ≡ true → has_any l ≡ true
any_kept keep [] is = is
any_kept keep (x ∷ l) is = refl

swapped : (a b : Bool) → (a && b) ≡ (b && a)
swapped true true = refl
swapped true false = refl
swapped false true = refl
swapped false false = refl

abbrev keyed : Key → Mapping → Bool
keyed k x = is_accepted x && eq_by_cmp key_cmp k (key x)

of_key_is : (l : List Mapping) (k : Key) → of_key l k ≡ filter (keyed k) l
of_key_is l k = filter-filter (λ x. eq_by_cmp key_cmp k (key x)) is_accepted l

kept_of_key : (keep : Mapping → Bool) (l : List Mapping) (k : Key) → of_key (filter keep l) k ≡ filter keep (of_key l k)
kept_of_key keep l k = of_key_is (filter keep l) k ∙ filter-filter (keyed k) keep l ∙ filter_agree (λ x. keep x && keyed k x) (λ x. keyed k x && keep x) (λ x. swapped (keep x) (keyed k x)) l
    ∙ sym (filter-filter keep (keyed k) l) ∙ ap (filter keep) (sym (of_key_is l k))

joined_of_key : (l m : List Mapping) (k : Key) → of_key (l ++ m) k ≡ of_key l k ++ of_key m k
joined_of_key l m k = of_key_is (l ++ m) k ∙ filter-append (keyed k) l m ∙ (λ i. sym (of_key_is l k) i ++ sym (of_key_is m k) i)

-- if it has its own lines
own_dropped : (keep : Mapping → Bool) (own plain : List Mapping) → has_any own ≡ true → (let ls = if has_any own then own else plain in has_any ls && not (has_any (filter keep ls))) ≡ not (has_any (filter keep own))
own_dropped keep [] plain some = absurd (true≢false (sym some))
own_dropped keep (x ∷ own) plain some = refl

module _ (keep : Mapping → Bool) (es : List Mapping) (c : Contact) where
  -- a line of its own is kept
  kept_own : {f : Fields} → last_fields (filter keep es) (own_key c) ≡ Some f → is_dropped keep es c ≡ false
  kept_own has =
      let any : has_any (filter keep (of_key es (own_key c))) ≡ true = ap has_any (sym (kept_of_key keep es (own_key c))) ∙ some_fields (of_key (filter keep es) (own_key c)) has in
      own_dropped keep (of_key es (own_key c)) (of_key es (folded c.email, None)) (any_kept keep (of_key es (own_key c)) any) ∙ ap not any

  -- it has some, and none is kept
  dropped_own : {f : Fields} → last_fields es (own_key c) ≡ Some f → last_fields (filter keep es) (own_key c) ≡ None → is_dropped keep es c ≡ true
  dropped_own has none = own_dropped keep (of_key es (own_key c)) (of_key es (folded c.email, None)) (some_fields (of_key es (own_key c)) has)
      ∙ ap (λ l. not (has_any l)) (sym (kept_of_key keep es (own_key c)) ∙ no_fields (of_key (filter keep es) (own_key c)) none)

  -- it has none
  without_own : (plain : List Mapping) → last_fields es (own_key c) ≡ None → of_key es (folded c.email, None) ≡ plain → is_dropped keep es c ≡ (has_any plain && not (has_any (filter keep plain)))
  without_own plain none is = λ i. let ls = if has_any (no_fields (of_key es (own_key c)) none i) then no_fields (of_key es (own_key c)) none i else is i in has_any ls && not (has_any (filter keep ls))

or_none : (o : Option Fields) → option_or o None ≡ o
or_none None = refl
or_none (Some f) = refl

-- ==== the entries for one old email

module _ (shared : List Text) (g more : List Mapping) (named : AllByRecursion HasNoEmptyName g) (to : Contact) (email : Text) (cs : List Contact) (given : AllByRecursion (Given shared g named to email) cs)
    (alike_spelled : (b c : Contact) → b ∈ cs → c ∈ cs → SpellAlike shared g b c) (keep : Mapping → Bool) where
  abbrev later : List Mapping
  later = g ++ more

  abbrev alone_in : Contact → Bool
  alone_in c = not (needs_own_entry shared (alike g) c)

  abbrev plain : List Mapping
  plain = plain_entries (alike g) to (filter alone_in cs)

  abbrev own : List Mapping
  own = named_entries (alike (g ++ plain)) to cs

  abbrev left : List Mapping
  left = filter keep (plain ++ own)

  -- all of them spell an email that several people share as the contact does
  spelled_as : (c : Contact) → c ∈ cs → AllByRecursion (SpellsAs shared g c) (plain ++ own)
  spelled_as c i = each_for_email (SpellsAs shared g c) to shared (alike g) cs (each (OfForms (SpellsAs shared g c) to shared (alike g)) cs (λ b j. forms_spelled shared g to b c (alike_spelled b c j i)))

  forms : AllByRecursion (IsForm to) own
  forms = each_named (IsForm to) to (alike (g ++ plain)) cs (all_of (λ c. IsForm to (named_form to c)) (λ c. (good to c, refl, refl)) cs)

  -- ---- the entry without an old name

  abbrev IsPlain : Mapping → Type 0
  IsPlain x = (is_accepted x ≡ true) × (x.old_name ≡ None) × (folded x.old_email ≡ email)

  plain_form : AllByRecursion IsPlain plain
  plain_form = each_plain IsPlain to (alike g) (filter alone_in cs) (each (OfPlain IsPlain to) (filter alone_in cs) (λ b j.
      let same = (at (Given shared g named to email) cs given b (from_filter alone_in cs b j).0).0 in
      ((λ some fits. (refl, refl, fits ∙ same)), (or_right (is_some (name_unless_empty to)) true refl, refl, same))))

  -- there is one at most
  at_most_one : (ps : List Contact) → (plain_entries (alike g) to ps ≡ []) ⊎ ((x : Mapping) × (plain_entries (alike g) to ps ≡ x ∷ []))
  at_most_one [] = inl refl
  at_most_one (b ∷ bs) = elim (are_answered (alike g) to (b ∷ bs)) as (λ r. let es = if r then [] else (if is_short_enough (alike g) to b bs then short_form to else long_form to b) ∷ [] in (es ≡ []) ⊎ ((x : Mapping) × (es ≡ x ∷ []))) [
    | true ↦ inl refl
    | false ↦ inr (if is_short_enough (alike g) to b bs then short_form to else long_form to b, refl)
  ]

  -- all or none is kept
  kept_plain : ((filter keep plain ≡ plain) × ((has_any plain && not (has_any (filter keep plain))) ≡ false)) ⊎ ((filter keep plain ≡ []) × ((has_any plain && not (has_any (filter keep plain))) ≡ true))
  kept_plain = ⊎_elim (λ none. inl (ap (filter keep) none ∙ sym none, ap (λ l. has_any l && not (has_any (filter keep l))) none))
      (λ (x, is). elim (keep x) as (λ b. keep x ≡ b → ((filter keep plain ≡ plain) × ((has_any plain && not (has_any (filter keep plain))) ≡ false)) ⊎ ((filter keep plain ≡ []) × ((has_any plain && not (has_any (filter keep plain))) ≡ true))) [
        | true ↦ λ yes.
            let kept : filter keep (x ∷ []) ≡ x ∷ [] = ap (λ b. if b then x ∷ [] else []) yes in
            inl (ap (filter keep) is ∙ kept ∙ sym is, ap (λ l. has_any l && not (has_any (filter keep l))) is ∙ ap (λ l. not (has_any l)) kept)
        | false ↦ λ no.
            let kept : filter keep (x ∷ []) ≡ [] = ap (λ b. if b then x ∷ [] else []) no in
            inr (ap (filter keep) is ∙ kept, ap (λ l. has_any l && not (has_any (filter keep l))) is ∙ ap (λ l. not (has_any l)) kept)
      ] refl)
      (at_most_one (filter alone_in cs))

  -- it is the line for its email alone
  plain_keyed : of_key (plain ++ own) (email, None) ≡ plain
  plain_keyed = joined_of_key plain own (email, None) ∙ (λ i. all_of_key i ++ none_of_own i) ∙ append-nil plain
    where
      all_of_key : of_key plain (email, None) ≡ plain
      all_of_key = of_key_is plain (email, None) ∙ filter_all (keyed (email, None)) plain (all_weaker plain keys plain_form)
        where
          keys : (x : Mapping) → IsPlain x → keyed (email, None) x ≡ true
          keys x p = λ i. p.0 i && (same_key (email, None) (key x)).1 (λ j. (sym p.2 j, option_map folded (sym p.1 j))) i

      none_of_own : of_key own (email, None) ≡ []
      none_of_own = of_key_is own (email, None) ∙ filter_none (keyed (email, None)) own (all_weaker own others forms)
        where
          some_mapped : (o : Option Text) → is_some o ≡ true → None ≡ option_map folded o → ⊥
          some_mapped None is e = true≢false (sym is)
          some_mapped (Some n) is e = some_not (sym e)

          others : (x : Mapping) → IsForm to x → keyed (email, None) x ≡ false
          others x f = false_from_ne_true (keyed (email, None) x) (λ yes. some_mapped x.old_name f.1 (ap (λ (k : Key). k.1) ((same_key (email, None) (key x)).0 (and_parts (is_accepted x) (eq_by_cmp key_cmp (email, None) (key x)) yes).1)))

  -- and none for a contact's name and email
  plain_unkeyed : (c : Contact) → last_fields plain (own_key c) ≡ None
  plain_unkeyed c = unkeyed c plain (all_weaker plain (λ x p some. absurd (true≢false (sym some ∙ ap is_some p.1))) plain_form)

  own_is : (c : Contact) → last_fields (plain ++ own) (own_key c) ≡ last_fields own (own_key c)
  own_is c = last_joined plain own (own_key c) ∙ ap (λ o. option_or (last_fields own (own_key c)) o) (plain_unkeyed c) ∙ or_none (last_fields own (own_key c))

  kept_own_is : (c : Contact) → last_fields left (own_key c) ≡ last_fields (filter keep own) (own_key c)
  kept_own_is c = ap (λ l. last_fields l (own_key c)) (filter-append keep plain own) ∙ last_joined (filter keep plain) (filter keep own) (own_key c)
      ∙ ap (λ o. option_or (last_fields (filter keep own) (own_key c)) o) (unkeyed c (filter keep plain) (all_filtered keep IsPlain (λ x. is_some x.old_name ≡ true → key x ≡ own_key c → ⊥) (λ x p _ some. absurd (true≢false (sym some ∙ ap is_some p.1))) plain plain_form))
      ∙ or_none (last_fields (filter keep own) (own_key c))

  -- ---- contacts that need some

  linked_needs : (b c : Contact) → Linked g b c → needs_own_entry shared (alike g) b ≡ false → is_shared shared (answer_to g b).email ≡ false → folded (answer_to g b).email ≡ folded (answer_to g c).email → needs_own_entry shared (alike g) c ≡ false
  linked_needs b c l none one same = ⊎_elim (λ names. sym (needs_same shared g b c (λ i. (l.emails i, Some (names i)))) ∙ none)
      (λ both. none_needed_if shared g c both.1 (ap (λ e. list_any (bytes_eq e) shared) (sym same) ∙ one)) l.names

  plain_apart : (c : Contact) → needs_own_entry shared (alike g) c ≡ true → AllByRecursion (λ x. affects shared g c x ≡ true → ⊥) plain
  plain_apart c needs = each_plain (λ x. affects shared g c x ≡ true → ⊥) to (alike g) (filter alone_in cs)
      (each (OfPlain (λ x. affects shared g c x ≡ true → ⊥) to) (filter alone_in cs) (λ b j.
      let out = (from_filter alone_in cs b j).1 in
      let none = not-true (needs_own_entry shared (alike g) b) out in
      (forms_linked shared g to b c ⊥ (λ touches. ⊎_elim
      (λ keys. true≢false (sym needs ∙ sym (needs_same shared g b c keys) ∙ none))
      (λ l. true≢false (sym needs ∙ linked_needs b c l.0 none l.1 (linked_email g b c l.0))) touches)).0 out))

  own_shared : (c : Contact) → needs_own_entry shared (alike g) c ≡ true → spelled g c ≡ None → is_shared shared c.email ≡ true
  own_shared c needs none = ap (is_shared shared) (sym (unspelled_email g c none))
      ∙ true_from_ne_false (is_shared shared (answer_to g c).email) (λ one. true≢false (sym needs ∙ none_needed_if shared g c (no_own g c none) one))

  -- ---- if several people don't share an email without an entry, no contact with it needs one of its own

  unneeded : (c : Contact) → c ∈ cs → spelled g c ≡ None → is_shared shared c.email ≡ false → AllByRecursion (λ x. is_some x.old_name ≡ true → ⊥) own
  unneeded c i none one = all_tail P plain own (email_all shared g named to P email cs (all_weaker cs (λ d w. (w.0, w.1, (((λ _ _ some. true≢false (sym some)), λ some. true≢false (sym some)), λ needs _. true≢false (sym needs ∙ not_needed d w.0)))) given) alike_spelled).1
    where
      P : Mapping → Type 0
      P x = is_some x.old_name ≡ true → ⊥

      not_needed : (d : Contact) → folded d.email ≡ email → needs_own_entry shared (alike g) d ≡ false
      not_needed d is =
          let same : folded d.email ≡ folded c.email = is ∙ sym (at (Given shared g named to email) cs given c i).0 in
          let unspelled : spelled g d ≡ None = ap (spelling g) same ∙ none in
          none_needed_if shared g d (no_own g d unspelled) (ap (is_shared shared) (unspelled_email g d unspelled) ∙ ap (λ e. list_any (bytes_eq e) shared) same ∙ one)

  spelled_own : (c : Contact) → c ∈ cs → spelled g c ≡ None → (b : Bool) → is_shared shared c.email ≡ b → AllByRecursion (λ x. folded x.old_email ≡ folded c.email → x.old_email ≡ c.email) own
  spelled_own c i none true many = all_weaker own (λ x as_it. as_it none many) (all_tail (SpellsAs shared g c) plain own (spelled_as c i))
  spelled_own c i none false one = neither own forms (unneeded c i none one)
    where
      neither : (xs : List Mapping) → AllByRecursion (IsForm to) xs → AllByRecursion (λ x. is_some x.old_name ≡ true → ⊥) xs → AllByRecursion (λ x. folded x.old_email ≡ folded c.email → x.old_email ≡ c.email) xs
      neither [] all never = tt
      neither (x ∷ xs) all never = absurd (never.0 all.0.1)

  kept_forms : AllByRecursion (IsForm to) (filter keep own)
  kept_forms = all_filtered keep (IsForm to) (IsForm to) (λ x f _. f) own forms

  kept_spelled : (c : Contact) → c ∈ cs → spelled later c ≡ None → AllByRecursion (λ x. folded x.old_email ≡ folded c.email → x.old_email ≡ c.email) (filter keep own)
  kept_spelled c i none = all_filtered keep _ (λ x. folded x.old_email ≡ folded c.email → x.old_email ≡ c.email) (λ x s _. s) own (spelled_own c i (spelled_before shared g more c none) (is_shared shared c.email) refl)

  -- one with an entry of its own needs it
  owned_needs : (c : Contact) → HasOwn to (own_key c) own → needs_own_entry shared (alike g) c ≡ true
  owned_needs c has = true_from_ne_false (needs_own_entry shared (alike g) c) (λ none.
      let others = for_others shared g named to email cs given alike_spelled c (ap not none) in
      some_not (sym has ∙ unkeyed c own (all_weaker own (λ x o _. o.1) others)))

  -- ---- a contact whose line isn't kept stays

  own_stays_out : (c : Contact) → c ∈ cs → HasOwn to (own_key c) own → AllByRecursion (Other (own_key c)) (filter keep own) → Stays later left c
  own_stays_out c i has others =
      let needs = owned_needs c has in
      let apart = plain_apart c needs in
      parts_answer c (later ++ left) later (parts_stay later c left
      (spelling_stays later left c (λ none.
      let unspelled = spelled_before shared g more c none in
      all_filtered keep (SpellsAs shared g c) (λ x. folded x.old_email ≡ folded c.email → x.old_email ≡ c.email) (λ x as_it _. as_it unspelled (own_shared c needs unspelled)) (plain ++ own) (spelled_as c i)))
      (ap (filter (reaches later c)) (filter-append keep plain own) ∙ filter-append (reaches later c) (filter keep plain) (filter keep own)
      ∙ (λ j. filter_none (reaches later c) (filter keep plain) (all_filtered keep (λ x. affects shared g c x ≡ true → ⊥) (λ x. reaches later c x ≡ false)
      (λ x no _. false_from_ne_true (reaches later c x) (λ yes. no (affected_if shared g [] c x (reached_before shared g more c x yes)))) plain apart) j ++ none_reached later c (filter keep own) others j)))

  plain_stays_out : (c : Contact) → c ∈ cs → filter keep plain ≡ [] → AllByRecursion (Other (own_key c)) (filter keep own) → Stays later left c
  plain_stays_out c i none others =
      let is : left ≡ filter keep own = filter-append keep plain own ∙ ap (λ l. l ++ filter keep own) none in
      subst (λ l. Stays later l c) (sym is) (parts_answer c (later ++ filter keep own) later (parts_stay later c (filter keep own) (spelling_stays later (filter keep own) c (kept_spelled c i)) (none_reached later c (filter keep own) others)))

  module _ (out : Contact → Bool) (kept : (c : Contact) → c ∈ cs → out c ≡ false → IsAnswered g to c → IsAnswered later to c) (plain_kept : (c : Contact) → c ∈ cs → out c ≡ false → needs_own_entry shared (alike g) c ≡ false → IsAnswered (later ++ plain) to c) where
    with_plain : (c : Contact) → c ∈ cs → out c ≡ false → (n : Bool) → needs_own_entry shared (alike g) c ≡ n → IsAnswered (g ++ plain) to c → IsAnswered (later ++ plain) to c
    with_plain c i o false none before = plain_kept c i o none
    with_plain c i o true needs before =
        let apart = plain_apart c needs in
        let was = answered_without g plain to c (filter_none (reaches g c) plain (all_weaker plain (λ x no. false_from_ne_true (reaches g c x) (λ yes. no (affected_if shared g [] c x yes))) apart)) before in
        answered_with later plain to c (filter_none (reaches later c) plain (all_weaker plain (λ x no. false_from_ne_true (reaches later c x) (λ yes. no (affected_if shared g [] c x (reached_before shared g more c x yes)))) apart))
        (λ none. let unspelled = spelled_before shared g more c none in
        all_weaker plain (λ x as_it. as_it unspelled (own_shared c needs unspelled)) (all_head (SpellsAs shared g c) plain own (spelled_as c i)))
        (kept c i o was)

    own_answers : (c : Contact) → c ∈ cs → HasOwn to (own_key c) (filter keep own) → IsAnswered (later ++ left) to c
    own_answers c i has = by_own to (later ++ left) (own_key c) c
        (last_joined later left (own_key c) ∙ ap (λ o. option_or o (last_fields later (own_key c))) (kept_own_is c ∙ has))
        refl (λ empty. unnamed_contact g c named ((at (Given shared g named to email) cs given c i).1 empty))

    plain_answers : (c : Contact) → c ∈ cs → out c ≡ false → filter keep plain ≡ plain → AllByRecursion (Other (own_key c)) own → AllByRecursion (Other (own_key c)) (filter keep own) → IsAnswered (later ++ left) to c
    plain_answers c i o is others left_others = subst (λ l. IsAnswered l to c) (append_assoc later plain (filter keep own) ∙ ap (λ l. later ++ l) (sym (filter-append keep plain own ∙ ap (λ l. l ++ filter keep own) is)))
        (answered_with (later ++ plain) (filter keep own) to c (none_reached (later ++ plain) c (filter keep own) left_others)
        (λ none. kept_spelled c i (spelled_before shared later plain c none))
        (with_plain c i o (needs_own_entry shared (alike g) c) refl (before_own to cs (g ++ plain) c i others)))

    -- a contact is answered if it has no line, or one is kept, and stays if not
    pub answered_or_stays : (c : Contact) → c ∈ cs → out c ≡ false → ((is_dropped keep (plain ++ own) c ≡ false) × IsAnswered (later ++ left) to c) ⊎ ((is_dropped keep (plain ++ own) c ≡ true) × Stays later left c)
    answered_or_stays c i o = ⊎_elim
        (λ has. inl (kept_own keep (plain ++ own) c (kept_own_is c ∙ has), own_answers c i has))
        (λ none. ⊎_elim
        (λ has. inr (dropped_own keep (plain ++ own) c (own_is c ∙ has) (kept_own_is c ∙ none.0), own_stays_out c i has none.1))
        (λ never.
        let same : folded c.email ≡ email = (at (Given shared g named to email) cs given c i).0 in
        let dropped = without_own keep (plain ++ own) c plain (own_is c ∙ never.0) (ap (λ e. of_key (plain ++ own) (e, None)) same ∙ plain_keyed) in
        ⊎_elim (λ all. inl (dropped ∙ all.1, plain_answers c i o all.0 never.1 none.1)) (λ gone. inr (dropped ∙ gone.1, plain_stays_out c i gone.0 none.1)) kept_plain)
        (decide_own to (own_key c) own forms))
        (decide_own to (own_key c) (filter keep own) kept_forms)

-- ==== the entries of all groups

pub kept_all : (P : Mapping → Type 0) (keep : Mapping → Bool) (xs : List Mapping) → AllByRecursion P xs → AllByRecursion P (filter keep xs)
kept_all P keep xs all = all_filtered keep P P (λ x p _. p) xs all

keyed_other : (k : Key) (x : Mapping) → (k.0 ≡ folded x.old_email → ⊥) → keyed k x ≡ false
keyed_other k x other = false_from_ne_true (keyed k x) (λ yes. other (ap (λ (k : Key). k.0) ((same_key k (key x)).0 (and_parts (is_accepted x) (eq_by_cmp key_cmp k (key x)) yes).1)))

-- this library and git answer a contact alike by two lists
abbrev AnswersAlike : List Mapping → List Mapping → Contact → Type 0
AnswersAlike l m c = (answer_to l c ≡ answer_to m c) × (git_answer_to l c ≡ git_answer_to m c)

module _ (shared : List Text) (g more f : List Mapping) (ts : List Tally) (class : Contact → Text) (out : Contact → Bool) (named : AllByRecursion HasNoEmptyName g)
    (wants : (t : Text) → AllByRecursion (IsWanting g (wanted shared g f ts class t)) (group shared g f ts class t))
    (together : (b c : Contact) → b ∈ contacts ts → c ∈ contacts ts → out c ≡ false → Touches shared g b c → text shared g f ts class b ≡ text shared g f ts class c)
    (spell_alike : (b c : Contact) → b ∈ contacts ts → c ∈ contacts ts → text shared g f ts class b ≢ [] → SpellAlike shared g b c) (seen : List Text) where
  abbrev keep : Mapping → Bool
  keep e = not (is_remembered seen e)

  abbrev before : List Mapping
  before = g ++ more

  abbrev label : Contact → Text
  label = text shared g f ts class

  abbrev to : Text → Contact
  to = wanted shared g f ts class

  abbrev those : Text → List Contact
  those = group shared g f ts class

  abbrev on : Text → Bool
  on = is_active shared g f ts class

  abbrev parts : Text → List Mapping
  parts = part shared g f ts class

  abbrev whole : Text → List Mapping
  whole = lines shared g f ts class

  abbrev added : List Mapping
  added = all_entries shared class (alike g) (alike f) ts

  abbrev texts : List Text
  texts = all_texts shared g f ts class

  -- those of a group with an old email, and their entries
  abbrev pub with_email : Text → Text → List Contact
  with_email t e = of_old_email e (those t)

  abbrev by_email : Text → Text → List Mapping
  by_email t e = entries_for_email shared (alike g) (to t) (with_email t e)

  abbrev emails : Text → List Text
  emails t = map (λ c. folded c.email) (those t)

  from_email : (t e : Text) (c : Contact) → c ∈ with_email t e → (c ∈ those t) × (e ≡ folded c.email)
  from_email t e c i = let found = from_filter (λ d. bytes_eq e (folded d.email)) (those t) c i in (found.0, same_bytes e (folded c.email) found.1)

  alike_in : (t : Text) → t ≢ [] → (b c : Contact) → b ∈ those t → c ∈ those t → SpellAlike shared g b c
  alike_in t some b c i j = let found = from_group shared g f ts class t b i in spell_alike b c found.0 (from_group shared g f ts class t c j).0 (λ none. some (sym found.1 ∙ none))

  email_among : (t : Text) (c : Contact) → c ∈ those t → list_any (bytes_eq (folded c.email)) (emails t) ≡ true
  email_among t c i = at (λ c. list_any (bytes_eq (folded c.email)) (emails t) ≡ true) (those t) (all_among (λ c. folded c.email) (those t)) c i

  -- ---- in a group, the lines for one old email count

  apart_emails : (t : Text) → t ≢ [] → (c : Contact) → c ∈ those t → (e : Text) → AllByRecursion (λ x. SpellsAs shared before c x × (affects shared before c x ≡ true → e ≡ folded c.email)) (filter keep (by_email t e))
  apart_emails t some c i e = kept_all _ keep (by_email t e) (alone_after shared g more c (e ≡ folded c.email) (by_email t e) (each_for_email (λ x. SpellsAs shared g c x × (affects shared g c x ≡ true → e ≡ folded c.email)) (to t) shared (alike g) (with_email t e)
      (each _ (with_email t e) (λ b j.
      let found = from_email t e b j in
      both_forms (SpellsAs shared g c) (λ x. affects shared g c x ≡ true → e ≡ folded c.email) (to t) shared (alike g) b (forms_spelled shared g (to t) b c (alike_in t some b c found.0 i))
      (forms_linked shared g (to t) b c (e ≡ folded c.email) (λ touches. found.1 ∙ touched_email shared g b c touches))))))

  by_own_email : (t : Text) → t ≢ [] → (c : Contact) → c ∈ those t → AnswersAlike (before ++ filter keep (whole t)) (before ++ filter keep (by_email t (folded c.email))) c
  by_own_email t some c i = subst (λ l. AnswersAlike (before ++ l) (before ++ filter keep (by_email t (folded c.email))) c) (sym (filter_joined keep (by_email t) (distinct (emails t))))
      (own_part shared before c (λ e. filter keep (by_email t e)) (folded c.email) (apart_emails t some c i) (emails t) (email_among t c i))

  old_emails : (t e : Text) → AllByRecursion (λ x. folded x.old_email ≡ e) (by_email t e)
  old_emails t e = old_email_is shared g (to t) e (those t)

  same_of_key : (t : Text) (c : Contact) → c ∈ those t → (k : Key) → k.0 ≡ folded c.email → of_key (whole t) k ≡ of_key (by_email t (folded c.email)) k
  same_of_key t c i k is = of_key_is (whole t) k ∙ kept_part (keyed k) (by_email t) (folded c.email) (emails t) (email_among t c i)
      (λ e other. filter_none (keyed k) (by_email t e) (all_weaker (by_email t e) (λ x has. keyed_other k x (λ same. true≢false (sym (equal_bytes (folded c.email) e (sym is ∙ same ∙ has)) ∙ other))) (old_emails t e)))
      ∙ sym (of_key_is (by_email t (folded c.email)) k)

  dropped_same : (t : Text) (c : Contact) → c ∈ those t → is_dropped keep (whole t) c ≡ is_dropped keep (by_email t (folded c.email)) c
  dropped_same t c i = λ j. let own = same_of_key t c i (own_key c) refl j in let ls = if has_any own then own else same_of_key t c i (folded c.email, None) refl j in has_any ls && not (has_any (filter keep ls))

  -- ---- of all groups, one counts

  apart_groups : (c : Contact) → c ∈ contacts ts → out c ≡ false → (t : Text) → AllByRecursion (λ x. SpellsAs shared before c x × (affects shared before c x ≡ true → t ≡ label c)) (filter keep (parts t))
  apart_groups c i o t = kept_all _ keep (parts t) (alone_after shared g more c (t ≡ label c) (parts t) (alone shared g f ts class out named wants together spell_alike c i o t))

  added_left : filter keep added ≡ flat_map (λ t. filter keep (parts t)) (distinct texts)
  added_left = ap (filter keep) (added_are shared g f ts class) ∙ filter_joined keep parts (distinct texts)

  by_own_group : (c : Contact) → c ∈ contacts ts → out c ≡ false → on (label c) ≡ true → AnswersAlike (before ++ filter keep added) (before ++ filter keep (whole (label c))) c
  by_own_group c i o is = subst (λ l. AnswersAlike (before ++ l) (before ++ filter keep (whole (label c))) c) (sym added_left)
      (subst (λ l. AnswersAlike (before ++ flat_map (λ t. filter keep (parts t)) (distinct texts)) (before ++ filter keep l) c) (part_on shared g f ts class (label c) is)
      (own_part shared before c (λ t. filter keep (parts t)) (label c) (apart_groups c i o) texts (text_among shared g f ts class c i is)))

  none_for : (c : Contact) → c ∈ contacts ts → out c ≡ false → on (label c) ≡ false → (t : Text) → filter (affects shared before c) (filter keep (parts t)) ≡ []
  none_for c i o is t = elim (bytes_eq t (label c)) as (λ b. bytes_eq t (label c) ≡ b → filter (affects shared before c) (filter keep (parts t)) ≡ []) [
    | true ↦ λ same. ap (λ l. filter (affects shared before c) (filter keep l)) (part_off shared g f ts class t (ap on (same_bytes t (label c) same) ∙ is))
    | false ↦ λ other. unaffected_part shared before c (λ t. filter keep (parts t)) (label c) (apart_groups c i o) t (λ e. true≢false (sym (equal_bytes t (label c) e) ∙ other))
  ] refl

  pub others_stay : (c : Contact) → c ∈ contacts ts → out c ≡ false → on (label c) ≡ false → Stays before (filter keep added) c
  others_stay c i o is = parts_answer c (before ++ filter keep added) before (unaffected shared before c (filter keep added)
      (subst (AllByRecursion (SpellsAs shared before c)) (sym added_left) (all_joined (SpellsAs shared before c) (λ t. filter keep (parts t)) (distinct texts)
      (all_of _ (part_spelled shared before c (λ t. filter keep (parts t)) (label c) (apart_groups c i o)) (distinct texts))))
      (ap (filter (affects shared before c)) added_left ∙ filter_joined (affects shared before c) (λ t. filter keep (parts t)) (distinct texts)
      ∙ no_part (λ t. filter (affects shared before c) (filter keep (parts t))) (distinct texts) (all_of _ (none_for c i o is) (distinct texts))))

  module _ (kept : (t : Text) (c : Contact) → t ≢ [] → c ∈ those t → out c ≡ false → IsAnswered g (to t) c → IsAnswered before (to t) c)
      (plain_kept : (t e : Text) (c : Contact) → t ≢ [] → c ∈ with_email t e → out c ≡ false → needs_own_entry shared (alike g) c ≡ false
      → IsAnswered (before ++ plain_entries (alike g) (to t) (filter (λ d. not (needs_own_entry shared (alike g) d)) (with_email t e))) (to t) c) where
    for_email : (t : Text) → t ≢ [] → (c : Contact) → c ∈ those t → out c ≡ false
        → let es = by_email t (folded c.email) in ((is_dropped keep es c ≡ false) × IsAnswered (before ++ filter keep es) (to t) c) ⊎ ((is_dropped keep es c ≡ true) × Stays before (filter keep es) c)
    for_email t some c i o =
        let e = folded c.email in
        answered_or_stays shared g more named (to t) e (with_email t e) (of_email_all (IsWanting g (to t)) (those t) e (wants t))
        (λ b d j k. alike_in t some b d (from_email t e b j).0 (from_email t e d k).0) keep out
        (λ d j. kept t d some (from_email t e d j).0) (λ d j. plain_kept t e d some j)
        c (in_filter (λ d. bytes_eq e (folded d.email)) (those t) c i (equal_bytes e e refl)) o

    -- a contact of a group is answered, or its line isn't kept and it stays
    pub answered_unless : (c : Contact) → c ∈ contacts ts → out c ≡ false → on (label c) ≡ true
        → ((is_dropped keep (whole (label c)) c ≡ false) × IsAnswered (before ++ filter keep added) (to (label c)) c) ⊎ ((is_dropped keep (whole (label c)) c ≡ true) × Stays before (filter keep added) c)
    answered_unless c i o is =
        let t = label c in
        let some = active_some shared g f ts class t is in
        let j = in_group shared g f ts class c i in
        let groups = by_own_group c i o is in
        let emails = by_own_email t some c j in
        let ours = groups.0 ∙ emails.0 in
        let gits = groups.1 ∙ emails.1 in
        let same = dropped_same t c j in
        ⊎_elim (λ (none, answered). inl (same ∙ none, (ours ∙ answered.0, gits ∙ answered.1))) (λ (gone, stays). inr (same ∙ gone, (ours ∙ stays.0, gits ∙ stays.1))) (for_email t some c j o)

    -- whether its group has entries, and its line is kept or it has none
    abbrev pub united : Contact → Bool
    united c = (is_grouped class (alike f) ts c && not (are_cut (whole (label c)))) && not (is_dropped keep (whole (label c)) c)

    abbrev entries_is : (c : Contact) → (is_grouped class (alike f) ts c && not (are_cut (whole (label c)))) ≡ on (label c)
    entries_is = has_entries_is shared g f ts class

    pub united_answered : (c : Contact) → c ∈ contacts ts → out c ≡ false → united c ≡ true → IsAnswered (before ++ new_entries seen added) (to (label c)) c
    united_answered c i o is =
        let parts = and_parts (is_grouped class (alike f) ts c && not (are_cut (whole (label c)))) (not (is_dropped keep (whole (label c)) c)) is in
        ⊎_elim (λ (none, answered). answered) (λ (gone, stays). absurd (true≢false (sym parts.1 ∙ ap not gone))) (answered_unless c i o (sym (entries_is c) ∙ parts.0))

    pub not_united_stays : (c : Contact) → c ∈ contacts ts → out c ≡ false → united c ≡ false → Stays before (new_entries seen added) c
    not_united_stays c i o is = ⊎_elim
        (λ active. ⊎_elim (λ (none, answered). absurd (true≢false (sym (λ k. (entries_is c ∙ active) k && not (none k)) ∙ is))) (λ (gone, stays). stays) (answered_unless c i o active))
        (λ off. others_stay c i o off)
        (cases_Bool (on (label c)))
