-- What suggested entries do: they unite the contacts by the classes of their answers.
use Rattle.std.proofs.Common.{◌≡◌, Some, List, [], ◌∷◌, ◌++◌, filter, refl, sym, ◌∙◌, rules, ◌≢◌, ◌&&◌, ◌||◌, Bool, true, false, true≢false, ap, bytes_eq, if◌then◌else◌, map, not, subst, ⊎_elim, ◌⊎◌, inl, inr}
use Rattle.std.specs.List.{AllByRecursion, flat_map, list_any}
use Rattle.std.proofs.lemmas.Bool.{and_parts, false_from_ne_true}
use Rattle.std.proofs.lemmas.List.Elements.{filter_agree}
use Rattle.mailmap_entries.specs.Entries.{Mapping}
use Rattle.mailmap_entries.specs.Folding.{Text, folded}
use Rattle.mailmap_entries.specs.Semantics.{spelling}
use Rattle.mailmap_entries.proofs.Parts.{filter-map, all_weaker, all_map, all_mapped, all_append}
use Rattle.mailmap_grammar.specs.CanonicalText.{IsWritable}
use Rattle.mailmap_grammar.specs.Lines.{mappings_of}
use Rattle.mailmap_grammar.proofs.WritableLines.{all_read}
use Rattle.mailmap_contacts.specs.Contacts.{Contact, Tally, answer_to, answered, has_text, tallied}
use Rattle.mailmap_contacts.proofs.Tallied.{each_tallied, each_untallied}
use Rattle.mailmap_suggestions.specs.Counted.{counted_answers, by_frequency}
use Rattle.mailmap_suggestions.specs.Forms.{Histories, IsAnswered, Stays, alike, distinct, is_shared}
use Rattle.mailmap_suggestions.specs.GroupEntries.{Agree, GetsProper, HasNoEmptyName, IsMostFrequent, Unites, all_entries, are_alike, are_cut, candidates, contacts, email_class, email_entries, group_entries, is_grouped, members, only, proper_answer, uncut, wanted_entries}
use Rattle.mailmap_suggestions.proofs.Appended.{IsCareful, affects, empty_or, parts_answer, IsWanting, OfForms, SpellAlike, SpellsAs, Touches, all_answered, answered_by_own, both_forms, each_entry, folded_empty, entries_all, forms_linked, forms_spelled, linked_email, part_spelled, unaffected, unaffected_part, unspelled_email}
use Rattle.mailmap_suggestions.proofs.NewNames.{GivesName, name_forms, unnamed_before}
use Rattle.mailmap_suggestions.proofs.Distinct.{◌∈◌, all_among, among_passing, any_at, at, each, each_pair, equal_bytes, filter_joined, from_filter, in_filter, no_part, same_bytes, somes, all_joined, all_of}
use Rattle.mailmap_suggestions.proofs.Frequent.{most_frequent}
use Rattle.mailmap_suggestions.proofs.Proper.{Each, all_by_frequency, all_proper, from_by_frequency, none_proper, unshared_proper}

-- ==== no new name that is read is empty

pub writable_named : (h : List Mapping) → AllByRecursion IsWritable h → AllByRecursion HasNoEmptyName h
writable_named h writable = search (rules, all_weaker)

pub lines_named : (buffers : List Text) → AllByRecursion HasNoEmptyName (flat_map mappings_of buffers)
lines_named buffers = writable_named (flat_map mappings_of buffers) (all_read buffers)

-- ==== the proper answer

-- what is counted stays as it is
pub counted_each : (P : Contact → Type 0) (ts : List Tally) → Each P ts → Each P (by_frequency (tallied ts))
counted_each P ts all = all_by_frequency (λ t. P t.contact) (tallied ts) (each_tallied P ts all)

pub each_counted : (P : Contact → Type 0) (h : List Mapping) (g : List Tally) → AllByRecursion (λ c. P (answer_to h c)) (contacts g) → Each P (counted_answers (alike h) g)
each_counted P h g all = counted_each P (map (answered h) g) (all_mapped (answered h) (λ u. P u.contact) g (all_map (λ u. u.contact) (λ c. P (answer_to h c)) g all))

from_counted : (P : Contact → Type 0) (h : List Mapping) (g : List Tally) → Each P (counted_answers (alike h) g) → AllByRecursion (λ c. P (answer_to h c)) (contacts g)
from_counted P h g all = all_mapped (λ u. u.contact) (λ c. P (answer_to h c)) g
    (all_map (answered h) (λ u. P u.contact) g
    (each_untallied P (map (answered h) g) (from_by_frequency (tallied (map (answered h) g)) (λ t. P t.contact) all)))

-- it is the answer to one of them
pub proper_comes : (shared : List Text) (h : List Mapping) (g : List Tally) (c : Contact) → c ∈ contacts g → (d : Contact) × (d ∈ contacts g) × (answer_to h d ≡ proper_answer shared (alike h) g)
proper_comes shared h g c i =
    let Comes : Contact → Type 0 = λ a. (d : Contact) × (d ∈ contacts g) × (answer_to h d ≡ a) in
    all_proper Comes shared (counted_answers (alike h) g)
    (λ none. at (λ _. ⊥) (contacts g) (from_counted (λ _. ⊥) h g (subst (Each (λ _. ⊥)) (sym none) tt)) c i)
    (each_counted Comes h g (each (λ c. Comes (answer_to h c)) (contacts g) (λ d j. (d, j, refl))))

-- there is one if there is a contact
counted_some : (h : List Mapping) (g : List Tally) → g ≢ [] → counted_answers (alike h) g ≢ []
counted_some h [] some none = some refl
counted_some h (t ∷ g) some none = (from_counted (λ _. ⊥) h (t ∷ g) (subst (Each (λ _. ⊥)) (sym none) tt)).0

pub proper_frequent : (shared : List Text) (h : List Mapping) (g : List Tally) → g ≢ [] → IsMostFrequent (candidates shared (counted_answers (alike h) g)) (proper_answer shared (alike h) g)
proper_frequent shared h g some = most_frequent shared (counted_answers (alike h) g) (counted_some h g some)

-- it has a name if one has
pub proper_wanting : (shared : List Text) (h : List Mapping) (g : List Tally) → AllByRecursion (IsWanting h (proper_answer shared (alike h) g)) (contacts g)
proper_wanting shared h g = each (IsWanting h (proper_answer shared (alike h) g)) (contacts g)
    (λ c i e. at (λ c. (answer_to h c).name ≡ []) (contacts g) (from_counted (λ c. c.name ≡ []) h g (none_proper shared (counted_answers (alike h) g) e)) c i)

all_failed : {X : Type 0} (p : X → Bool) (xs : List X) → filter p xs ≡ [] → AllByRecursion (λ x. p x ≡ false) xs
all_failed p xs none = each _ xs (λ x i. false_from_ne_true (p x) (λ yes. subst (λ l. x ∈ l) none (in_filter p xs x i yes)))

-- one person has its email if that is so of an answer with a name
pub proper_unshared : (shared : List Text) (h : List Mapping) (g : List Tally) (c : Contact) → c ∈ contacts g → has_text (answer_to h c).name ≡ true → is_shared shared (answer_to h c).email ≡ false → is_shared shared (proper_answer shared (alike h) g).email ≡ false
proper_unshared shared h g c i named one = unshared_proper shared (counted_answers (alike h) g) (λ none. true≢false (sym (λ k. named k && not (one k)) ∙ at _ (contacts g)
    (from_counted (λ a. (has_text a.name && not (is_shared shared a.email)) ≡ false) h g (all_failed (λ a. has_text a.contact.name && not (is_shared shared a.contact.email)) (counted_answers (alike h) g) none)) c i))

-- ==== the entries of all groups make the answers of each group its proper one, and change no other

pub alike_all : (h : List Mapping) (cs : List Contact) → are_alike (alike h) cs ≡ true → (c d : Contact) → c ∈ cs → d ∈ cs → IsAnswered h (answer_to h d) c
alike_all h [] is c d i j = absurd i
alike_all h (x ∷ xs) is c d i j =
    let a = answer_to h x in
    let all = all_answered h a (x ∷ xs) is in
    subst (λ b. IsAnswered h b c) (sym (at (IsAnswered h a) (x ∷ xs) all d j).0) (at (IsAnswered h a) (x ∷ xs) all c i)

pub flat_filtered : {X Y Z : Type 0} (f : X → Y) (q : Y → Bool) (F : Y → List Z) (xs : List X) → flat_map F (filter q (map f xs)) ≡ flat_map (λ x. if q (f x) then F (f x) else []) xs
flat_filtered f q F [] = refl
flat_filtered f q F (x ∷ xs) = search (rules, flat_filtered f q F xs)

pub flat_same : {X Z : Type 0} (F G : X → List Z) (xs : List X) → AllByRecursion (λ x. F x ≡ G x) xs → flat_map F xs ≡ flat_map G xs
flat_same F G [] all = refl
flat_same F G (x ∷ xs) all = λ i. all.0 i ++ flat_same F G xs all.1 i

-- what the entries need of new names
named_forms : (shared : List Text) (h : Histories) (to c : Contact) → OfForms HasNoEmptyName to shared h c
named_forms shared h to c = search (rules, equal_bytes)

part_if : (a cut : Bool) (es : List Mapping) → (if not a then (if cut then [] else es) else []) ≡ (if not a && not cut then es else [])
part_if true cut es = refl
part_if false true es = refl
part_if false false es = refl

-- ---- classes that pass a test

pub only_same : (p : Text → Bool) (k t : Text) → k ≢ [] → p k ≡ true → bytes_eq k (if p t then t else []) ≡ bytes_eq k t
only_same p k t some passes = elim (p t) as (λ b. p t ≡ b → bytes_eq k (if b then t else []) ≡ bytes_eq k t) [
  | true ↦ λ _. refl
  | false ↦ λ out. false_from_ne_true (bytes_eq k []) (λ e. some (same_bytes k [] e))
      ∙ sym (false_from_ne_true (bytes_eq k t) (λ e. true≢false (sym passes ∙ ap p (same_bytes k t e) ∙ out)))
] refl

-- a class that isn't empty passed
pub only_some : (p : Text → Bool) (k : Text) → (if p k then k else []) ≢ [] → (p k ≡ true) × (k ≢ [])
only_some p k some = elim (p k) as (λ b. (if b then k else []) ≢ [] → (b ≡ true) × (k ≢ [])) [
  | true ↦ λ s. (refl, s)
  | false ↦ λ s. absurd (s refl)
] some

alike_if : (n a w : Bool) → n ≡ true → w ≡ true → (n && (not a && w)) ≡ false → a ≡ true
alike_if n true w some is out = refl
alike_if n false w some is out = absurd (true≢false (sym (λ i. some i && (true && is i)) ∙ out))

-- neither of two
pub neither : (a b : Bool) → (a || b) ≡ false → (a ≡ false) × (b ≡ false)
neither true b is = absurd (true≢false is)
neither false b is = (refl, is)

not_false : (b : Bool) → not b ≡ false → b ≡ true
not_false true is = refl
not_false false is = absurd (true≢false is)

pub left_false : (a b : Bool) → b ≡ true → (a && b) ≡ false → a ≡ false
left_false true b is none = absurd (true≢false (sym is ∙ none))
left_false false b is none = refl

pub right_false : (a b : Bool) → a ≡ true → (a && b) ≡ false → b ≡ false
right_false true b is none = none
right_false false b is none = absurd (true≢false (sym is))

grouped_and : (n a w : Bool) → ((n && a) && w) ≡ (n && (a && w))
grouped_and false a w = refl
grouped_and true a w = refl

-- The groups are those of the answers by h, and the entries are for those by `base`.
module _ (shared : List Text) (base h : List Mapping) (ts : List Tally) (class : Contact → Text) where
  abbrev pub text : Contact → Text
  text c = class (answer_to h c)

  abbrev pub these : Text → List Tally
  these t = members class (alike h) ts t

  abbrev pub group : Text → List Contact
  group t = contacts (these t)

  abbrev pub wanted : Text → Contact
  wanted t = proper_answer shared (alike h) (these t)

  abbrev pub lines : Text → List Mapping
  lines t = wanted_entries shared (alike base) (alike h) (these t)

  abbrev pub all_texts : List Text
  all_texts = filter (λ t. not (bytes_eq t [])) (map text (contacts ts))

  -- whether there are entries for a class
  abbrev pub is_active : Text → Bool
  is_active t = not (bytes_eq t []) && (not (are_alike (alike h) (group t)) && not (are_cut (lines t)))

  pub part : Text → List Mapping
  part t = if is_active t then lines t else []

  pub part_on : (t : Text) → is_active t ≡ true → part t ≡ lines t
  unfolding part
  part_on t is = ap (λ b. if b then lines t else []) is

  pub part_off : (t : Text) → is_active t ≡ false → part t ≡ []
  unfolding part
  part_off t is = ap (λ b. if b then lines t else []) is

  -- whether git would cut a line for the contact's class
  abbrev pub cut_class : Contact → Bool
  cut_class c = not (bytes_eq (text c) []) && are_cut (lines (text c))

  abbrev pub added : List Mapping
  added = all_entries shared class (alike base) (alike h) ts

  group_is : (t : Text) → group t ≡ filter (λ c. bytes_eq t (text c)) (contacts ts)
  group_is t = sym (filter-map (λ c. bytes_eq t (text c)) (λ (u : Tally). u.contact) ts)

  pub in_group : (c : Contact) → c ∈ contacts ts → c ∈ group (text c)
  in_group c i = search (rules, group_is, in_filter, equal_bytes)

  pub from_group : (t : Text) (c : Contact) → c ∈ group t → (c ∈ contacts ts) × (text c ≡ t)
  from_group t c i = search (rules, group_is, from_filter, same_bytes)

  pub added_are : added ≡ flat_map part (distinct all_texts)
  unfolding part
  added_are = flat_filtered these (λ g. not (are_alike (alike h) (contacts g))) (group_entries shared (alike base) (alike h)) (distinct all_texts)
      ∙ flat_same (λ t. if not (are_alike (alike h) (group t)) then (if are_cut (lines t) then [] else lines t) else []) part (distinct all_texts)
      (all_weaker (distinct all_texts) (λ t some. part_if (are_alike (alike h) (group t)) (are_cut (lines t)) (lines t)
      ∙ (λ i. if not (sym (false_from_ne_true (bytes_eq t []) (λ e. some (same_bytes t [] e))) i) && (not (are_alike (alike h) (group t)) && not (are_cut (lines t))) then lines t else [])) (somes (map text (contacts ts))))

  pub active_some : (t : Text) → is_active t ≡ true → t ≢ []
  active_some t is none = true≢false (sym (and_parts (not (bytes_eq t [])) (not (are_alike (alike h) (group t)) && not (are_cut (lines t))) is).0 ∙ ap not (equal_bytes t [] none))

  -- the class of a contact whose group has entries is among all
  pub text_among : (c : Contact) → c ∈ contacts ts → is_active (text c) ≡ true → list_any (bytes_eq (text c)) all_texts ≡ true
  text_among c i is = among_passing (λ t. not (bytes_eq t [])) (text c) (map text (contacts ts))
      (and_parts (not (bytes_eq (text c) [])) (not (are_alike (alike h) (group (text c))) && not (are_cut (lines (text c)))) is).0
      (at (λ c. list_any (bytes_eq (text c)) (map text (contacts ts)) ≡ true) (contacts ts) (all_among text (contacts ts)) c i)

  pub part_all : (P : Mapping → Type 0) (t : Text) → (t ≢ [] → AllByRecursion P (lines t)) → AllByRecursion P (part t)
  unfolding part
  part_all P t all = elim (is_active t) as (λ b. is_active t ≡ b → AllByRecursion P (if b then lines t else [])) [
    | true ↦ λ is. all (active_some t is)
    | false ↦ λ _. tt
  ] refl

  pub added_named : AllByRecursion HasNoEmptyName base → AllByRecursion HasNoEmptyName (base ++ added)
  added_named named = all_append HasNoEmptyName base added named (subst (AllByRecursion HasNoEmptyName) (sym added_are) (all_joined HasNoEmptyName part (distinct all_texts)
      (all_of (λ t. AllByRecursion HasNoEmptyName (part t)) (λ t. part_all HasNoEmptyName t (λ _. each_entry HasNoEmptyName (wanted t) shared (alike base) (group t) (all_of _ (named_forms shared (alike base) (wanted t)) (group t)))) (distinct all_texts))))

  -- the contact's group has entries
  pub has_entries_is : (c : Contact) → (is_grouped class (alike h) ts c && not (are_cut (lines (text c)))) ≡ is_active (text c)
  has_entries_is c = grouped_and (not (bytes_eq (text c) [])) (not (are_alike (alike h) (group (text c)))) (not (are_cut (lines (text c))))

  -- if no contact of a group has a label, one with its class has none
  pub none_of_group : (label : Contact → Text) (b c : Contact) → b ∈ contacts ts → text b ≡ text c → list_any (λ d. not (bytes_eq (label d) [])) (group (text c)) ≡ false → label b ≡ []
  none_of_group label b c i same none = same_bytes (label b) [] (not_false (bytes_eq (label b) [])
      (false_from_ne_true (not (bytes_eq (label b) [])) (λ yes. true≢false (sym (any_at (λ d. not (bytes_eq (label d) [])) (group (text c)) b (subst (λ t. b ∈ group t) same (in_group b i)) yes) ∙ none))))

  -- an entry for one of a group is for no contact that isn't in it, unless that is left out
  module _ (out : Contact → Bool) (named : AllByRecursion HasNoEmptyName base) (wants : (t : Text) → AllByRecursion (IsWanting base (wanted t)) (group t))
      (together : (b c : Contact) → b ∈ contacts ts → c ∈ contacts ts → out c ≡ false → Touches shared base b c → text b ≡ text c)
      (spell : (b c : Contact) → b ∈ contacts ts → c ∈ contacts ts → text b ≢ [] → SpellAlike shared base b c) where
    for_text : (c : Contact) → c ∈ contacts ts → is_active (text c) ≡ true → IsAnswered (base ++ part (text c)) (wanted (text c)) c
    unfolding part
    for_text c i is = subst (λ b. IsAnswered (base ++ (if b then lines (text c) else [])) (wanted (text c)) c) (sym is)
        (at (IsAnswered (base ++ lines (text c)) (wanted (text c))) (group (text c))
        (entries_all shared base named (wanted (text c)) (λ _. Unit {0}) (group (text c)) (all_weaker (group (text c)) (λ d w. (w, (((λ _ _. tt), tt), λ _. tt))) (wants (text c)))
        (λ b d j k. let found = from_group (text c) b j in spell b d found.0 (from_group (text c) d k).0 (λ none. active_some (text c) is (sym found.1 ∙ none)))).0 c (in_group c i))

    pub alone : (c : Contact) → c ∈ contacts ts → out c ≡ false → (t : Text) → AllByRecursion (λ x. SpellsAs shared base c x × (affects shared base c x ≡ true → t ≡ text c)) (part t)
    alone c i o t = part_all (λ x. SpellsAs shared base c x × (affects shared base c x ≡ true → t ≡ text c)) t
        (λ some. each_entry (λ x. SpellsAs shared base c x × (affects shared base c x ≡ true → t ≡ text c)) (wanted t) shared (alike base) (group t)
        (each (OfForms (λ x. SpellsAs shared base c x × (affects shared base c x ≡ true → t ≡ text c)) (wanted t) shared (alike base)) (group t)
        (λ b j.
        let found = from_group t b j in
        both_forms (SpellsAs shared base c) (λ x. affects shared base c x ≡ true → t ≡ text c) (wanted t) shared (alike base) b
        (forms_spelled shared base (wanted t) b c (spell b c found.0 i (λ e. some (sym found.1 ∙ e))))
        (forms_linked shared base (wanted t) b c (t ≡ text c) (λ l. sym found.1 ∙ together b c found.0 i o l)))))

    pub grouped : (c : Contact) → c ∈ contacts ts → out c ≡ false → is_active (text c) ≡ true → IsAnswered (base ++ added) (wanted (text c)) c
    grouped c i o is =
        subst (λ l. IsAnswered (base ++ l) (wanted (text c)) c) (sym added_are) (answered_by_own shared base c part (text c) (alone c i o) (wanted (text c)) all_texts (text_among c i is) (for_text c i is))

    none_for : (c : Contact) → c ∈ contacts ts → out c ≡ false → is_active (text c) ≡ false → (t : Text) → filter (affects shared base c) (part t) ≡ []
    unfolding part
    none_for c i o is t = elim (bytes_eq t (text c)) as (λ b. bytes_eq t (text c) ≡ b → filter (affects shared base c) (part t) ≡ []) [
      | true ↦ λ same. ap (λ b. filter (affects shared base c) (if b then lines t else [])) (ap is_active (same_bytes t (text c) same) ∙ is)
      | false ↦ λ other. unaffected_part shared base c part (text c) (alone c i o) t (λ e. true≢false (sym (equal_bytes t (text c) e) ∙ other))
    ] refl

    -- each contact for whose class there are no entries is answered as before
    pub others : (c : Contact) → c ∈ contacts ts → out c ≡ false → is_active (text c) ≡ false → Stays base added c
    others c i o is = parts_answer c (base ++ added) base (unaffected shared base c added
        (subst (AllByRecursion (SpellsAs shared base c)) (sym added_are) (all_joined (SpellsAs shared base c) part (distinct all_texts) (all_of _ (part_spelled shared base c part (text c) (alone c i o)) (distinct all_texts))))
        (ap (filter (affects shared base c)) added_are ∙ filter_joined (affects shared base c) part (distinct all_texts)
        ∙ no_part (λ t. filter (affects shared base c) (part t)) (distinct all_texts) (all_of _ (none_for c i o is) (distinct all_texts))))

-- ==== where the entries are for the answers that are grouped

module _ (shared : List Text) (h : List Mapping) (ts : List Tally) (class : Contact → Text) (out : Contact → Bool) (named : AllByRecursion HasNoEmptyName h)
    (together : (b c : Contact) → b ∈ contacts ts → c ∈ contacts ts → out c ≡ false → Touches shared h b c → class (answer_to h b) ≡ class (answer_to h c))
    (spell : (b c : Contact) → b ∈ contacts ts → c ∈ contacts ts → class (answer_to h b) ≢ [] → SpellAlike shared h b c) where
  abbrev text' : Contact → Text
  text' c = class (answer_to h c)

  abbrev these' : Text → List Tally
  these' = these shared h h ts class

  abbrev want : Text → Contact
  want = wanted shared h h ts class

  abbrev active : Text → Bool
  active = is_active shared h h ts class

  abbrev more : List Mapping
  more = all_entries shared class (alike h) (alike h) ts

  -- whether git would cut no line
  abbrev whole : Text → Bool
  whole t = not (are_cut (wanted_entries shared (alike h) (alike h) (these' t)))

  abbrev pub class' : Contact → Text
  class' = uncut shared class (alike h) (alike h) ts

  pub answered_now : (c : Contact) → c ∈ contacts ts → out c ≡ false → active (text' c) ≡ true → IsAnswered (h ++ more) (want (text' c)) c
  answered_now = grouped shared h h ts class out named (λ t. proper_wanting shared h (these' t)) together spell

  pub stays : (c : Contact) → c ∈ contacts ts → out c ≡ false → active (text' c) ≡ false → Stays h more c
  stays = others shared h h ts class out named (λ t. proper_wanting shared h (these' t)) together spell

  if_alike : (c : Contact) → c ∈ contacts ts → are_alike (alike h) (contacts (these' (text' c))) ≡ true → IsAnswered h (want (text' c)) c
  if_alike c i is =
      let j = in_group shared h h ts class c i in
      let d = proper_comes shared h (these' (text' c)) c j in
      subst (λ a. IsAnswered h a c) d.2 (alike_all h (contacts (these' (text' c))) is c d.0 j d.1)

  -- a contact with a class gets the proper answer
  pub gets : (c : Contact) → c ∈ contacts ts → out c ≡ false → whole (text' c) ≡ true → text' c ≢ [] → IsAnswered (h ++ more) (want (text' c)) c
  gets c i o is some = elim (active (text' c)) as (λ b. active (text' c) ≡ b → IsAnswered (h ++ more) (want (text' c)) c) [
    | true ↦ λ on. answered_now c i o on
    | false ↦ λ off.
        let before = if_alike c i (alike_if (not (bytes_eq (text' c) [])) (are_alike (alike h) (contacts (these' (text' c)))) (whole (text' c))
        (ap not (false_from_ne_true (bytes_eq (text' c) []) (λ e. some (same_bytes (text' c) [] e)))) is off) in
        let same = stays c i o off in
        (same.0 ∙ before.0, same.1 ∙ before.1)
  ] refl

  -- each answer was one before, to a contact that was given
  pub comes : (c : Contact) → c ∈ contacts ts → out c ≡ false → (d : Contact) × (d ∈ contacts ts) × (answer_to h d ≡ answer_to (h ++ more) c) × (text' d ≡ text' c)
  comes c i o = elim (active (text' c)) as (λ b. active (text' c) ≡ b → (d : Contact) × (d ∈ contacts ts) × (answer_to h d ≡ answer_to (h ++ more) c) × (text' d ≡ text' c)) [
    | true ↦ λ on.
        let d = proper_comes shared h (these' (text' c)) c (in_group shared h h ts class c i) in
        let found = from_group shared h h ts class (text' c) d.0 d.1 in
        (d.0, found.0, d.2 ∙ sym (answered_now c i o on).0, found.1)
    | false ↦ λ off. (c, i, sym (stays c i o off).0, refl)
  ] refl

  -- so it keeps its class
  pub keeps : (c : Contact) → c ∈ contacts ts → out c ≡ false → class' (answer_to (h ++ more) c) ≡ class' (answer_to h c)
  keeps c i o = let d = comes c i o in ap class' (sym d.2) ∙ ap (λ t. if whole t then t else []) d.3

  these_same : (k : Text) → k ≢ [] → whole k ≡ true → members class' (alike h) ts k ≡ these' k
  these_same k some is = filter_agree (λ t. bytes_eq k (class' (answer_to h t.contact))) (λ t. bytes_eq k (text' t.contact)) (λ t. only_same whole k (text' t.contact) some is) ts

  -- the class that counts
  counts : (c : Contact) → class' (answer_to h c) ≢ [] → (whole (text' c) ≡ true) × (text' c ≢ []) × (class' (answer_to h c) ≡ text' c)
  counts c some = let both = only_some whole (text' c) some in (both.0, both.1, ap (λ b. if b then text' c else []) both.0)

  gets_proper : (c : Contact) → c ∈ contacts ts → out c ≡ false → GetsProper shared class' h ts (h ++ more) c
  gets_proper c i o some =
      let is = counts c some in
      subst (λ g. IsAnswered (h ++ more) (proper_answer shared (alike h) g) c) (sym (ap (members class' (alike h) ts) is.2 ∙ these_same (text' c) is.1 is.0)) (gets c i o is.0 is.1)

  pub one_by_class : (b c : Contact) → b ∈ contacts ts → c ∈ contacts ts → out b ≡ false → out c ≡ false → Agree class' (h ++ more) b c
  one_by_class b c i j o u same some =
      let before : class' (answer_to h b) ≡ class' (answer_to h c) = sym (keeps b i o) ∙ same ∙ keeps c j u in
      let this = counts c (λ none. some (keeps c j u ∙ none)) in
      let that = counts b (λ none. some (keeps c j u ∙ sym before ∙ none)) in
      (gets b i o that.0 that.1).0 ∙ ap want (sym that.2 ∙ before ∙ this.2) ∙ sym (gets c j u this.0 this.1).0

  other_stays : (c : Contact) → c ∈ contacts ts → out c ≡ false → is_grouped class' (alike h) ts c ≡ false → Stays h more c
  other_stays c i o ungrouped = elim (active (text' c)) as (λ b. active (text' c) ≡ b → Stays h more c) [
    | true ↦ λ on. absurd (true≢false (sym (is_in c on) ∙ ungrouped))
    | false ↦ λ off. stays c i o off
  ] refl
    where
      is_in : (c : Contact) → active (text' c) ≡ true → is_grouped class' (alike h) ts c ≡ true
      is_in c on =
          let k = text' c in
          let parts = and_parts (not (bytes_eq k [])) (not (are_alike (alike h) (contacts (these' k))) && whole k) on in
          let rest = and_parts (not (are_alike (alike h) (contacts (these' k)))) (whole k) parts.1 in
          let some : k ≢ [] = λ none. true≢false (sym parts.0 ∙ ap not (equal_bytes k [] none)) in
          let is : class' (answer_to h c) ≡ k = ap (λ b. if b then k else []) rest.1 in
          ap (λ j. not (bytes_eq j []) && not (are_alike (alike h) (contacts (members class' (alike h) ts j)))) is
          ∙ ap (λ g. not (bytes_eq k []) && not (are_alike (alike h) (contacts g))) (these_same k some rest.1)
          ∙ (λ i. parts.0 i && rest.0 i)

  -- each contact without a class that counts is answered as before
  pub unclassed : (c : Contact) → c ∈ contacts ts → out c ≡ false → class' (answer_to h c) ≡ [] → Stays h more c
  unclassed c i o none = other_stays c i o (ap (λ k. not (bytes_eq k []) && not (are_alike (alike h) (contacts (members class' (alike h) ts k)))) none)

  -- if none is left out
  pub unites : ((c : Contact) → out c ≡ false) → Unites shared class' h ts (h ++ more)
  unites none = record {
    proper = each (GetsProper shared class' h ts (h ++ more)) (contacts ts) (λ c i. gets_proper c i (none c));
    others = each (λ c. is_grouped class' (alike h) ts c ≡ false → Stays h more c) (contacts ts) (λ c i. other_stays c i (none c));
    distinct = each_pair (Agree class' (h ++ more)) (contacts ts) (λ b c i j. one_by_class b c i j (none b) (none c));
  }

-- ==== entries that give names

-- if only answers with a name have a class, the proper one of a group has one
pub has_named : (shared : List Text) (h : List Mapping) (ts : List Tally) (class : Contact → Text) → ((c : Contact) → c ∈ contacts ts → (answer_to h c).name ≡ [] → class (answer_to h c) ≡ [])
    → (t : Text) → t ≢ [] → (c : Contact) → c ∈ group shared h h ts class t → (wanted shared h h ts class t).name ≢ []
has_named shared h ts class unnamed t some c i empty =
    let d = proper_comes shared h (these shared h h ts class t) c i in
    let found = from_group shared h h ts class t d.0 d.1 in
    some (sym found.1 ∙ unnamed d.0 found.0 (ap (λ (a : Contact). a.name) d.2 ∙ empty))

-- and so do all entries
pub names_given : (shared : List Text) (h : List Mapping) (ts : List Tally) (class : Contact → Text) → ((c : Contact) → c ∈ contacts ts → (answer_to h c).name ≡ [] → class (answer_to h c) ≡ [])
    → AllByRecursion GivesName (all_entries shared class (alike h) (alike h) ts)
names_given shared h ts class unnamed = subst (AllByRecursion GivesName) (sym (added_are shared h h ts class)) (all_joined GivesName (part shared h h ts class) (distinct (all_texts shared h h ts class))
    (all_of (λ t. AllByRecursion GivesName (part shared h h ts class t)) (λ t. part_all shared h h ts class GivesName t (λ some. each_entry GivesName (wanted shared h h ts class t) shared (alike h) (group shared h h ts class t)
    (each _ (group shared h h ts class t) (λ c i. name_forms shared (alike h) (wanted shared h h ts class t) c (has_named shared h ts class unnamed t some c i))))) (distinct (all_texts shared h h ts class))))

-- ==== by email

-- contacts that may have an entry in common have answers with one email
pub touched_answers : (shared : List Text) (h : List Mapping) (b c : Contact) → Touches shared h b c → folded (answer_to h b).email ≡ folded (answer_to h c).email
touched_answers shared h b c touches = linked_email h b c (⊎_elim (λ keys. record { emails = ap (λ k. k.0) keys; names = inl (one_name (folded b.name) (folded c.name) (ap (λ k. k.1) keys)) }) (λ l. l.0) touches)
  where
    one_name : (a b : Text) → Some a ≡ Some b → a ≡ b
    one_name a b e = cc

email_class_is : (shared : List Text) (a b : Contact) → folded a.email ≡ folded b.email → email_class shared a ≡ email_class shared b
email_class_is shared a b same = ap (λ e. if list_any (bytes_eq e) shared then [] else e) same

pub either_same : {X : Type 0} (b : Bool) (t : X) → (if b then t else t) ≡ t
either_same true t = refl
either_same false t = refl

-- a class by email that isn't empty is the email
class_email : (w : Text → Bool) (s : Bool) (e : Text) → (if w (if s then [] else e) then (if s then [] else e) else []) ≢ [] → (if w (if s then [] else e) then (if s then [] else e) else []) ≡ e
class_email w true e some = absurd (some (either_same (w []) []))
class_email w false e some = by (w e) some
  where
    by : (b : Bool) → (if b then e else []) ≢ [] → (if b then e else []) ≡ e
    by true some = refl
    by false some = absurd (some refl)

-- with careful classes, an email that several people share is spelled in one way
pub careful_spell : (shared : List Text) (g : List Mapping) (ts : List Tally) (class : Contact → Text) → {out : Contact → Bool} → IsCareful shared class out g ts
    → (b c : Contact) → b ∈ contacts ts → c ∈ contacts ts → class (answer_to g b) ≢ [] → SpellAlike shared g b c
careful_spell shared g ts class careful b c i j some none many same =
    let first = unspelled_email g b (ap (spelling g) same ∙ none) in
    let second = unspelled_email g c none in
    sym first ∙ at _ (contacts ts) (at _ (contacts ts) careful.spelled b i) c j
    (ap (is_shared shared) first ∙ ap (λ e. list_any (bytes_eq e) shared) same ∙ many) some
    (ap folded first ∙ same ∙ sym (ap folded second)) ∙ second

-- nobody is left out
abbrev pub never : Contact → Bool
never c = false

module _ (shared : List Text) (h : List Mapping) (ts : List Tally) (named : AllByRecursion HasNoEmptyName h) where
  pub email_together : (b c : Contact) → b ∈ contacts ts → c ∈ contacts ts → never c ≡ false → Touches shared h b c → email_class shared (answer_to h b) ≡ email_class shared (answer_to h c)
  email_together b c i j o touches = email_class_is shared (answer_to h b) (answer_to h c) (touched_answers shared h b c touches)

  pub email_spell : (b c : Contact) → b ∈ contacts ts → c ∈ contacts ts → email_class shared (answer_to h b) ≢ [] → SpellAlike shared h b c
  email_spell b c i j some none many same = absurd (some (ap (λ s. if s then [] else folded (answer_to h b).email)
      (ap (is_shared shared) (unspelled_email h b (ap (spelling h) same ∙ none)) ∙ ap (λ e. list_any (bytes_eq e) shared) same ∙ many)))

  abbrev pub with_emails : List Mapping
  with_emails = h ++ email_entries shared (alike h) ts

  pub unites_emails : Unites shared (uncut shared (email_class shared) (alike h) (alike h) ts) h ts with_emails
  unites_emails = unites shared h ts (email_class shared) never named email_together email_spell (λ c. refl)

  pub emails_named : AllByRecursion HasNoEmptyName with_emails
  emails_named = added_named shared h h ts (email_class shared) named

  -- who has no email, or one that several people share, or whose lines git would cut, is answered as before
  pub others_stay : AllByRecursion (λ c. uncut shared (email_class shared) (alike h) (alike h) ts (answer_to h c) ≡ [] → Stays h (email_entries shared (alike h) ts) c) (contacts ts)
  others_stay = each _ (contacts ts) (λ c i. unclassed shared h ts (email_class shared) never named email_together email_spell c i refl)

  -- whether git would cut no line for an email
  abbrev pub is_whole : Text → Bool
  is_whole t = not (are_cut (wanted_entries shared (alike h) (alike h) (members (email_class shared) (alike h) ts t)))

  -- nobody at a shared address is answered otherwise
  pub shared_stay : AllByRecursion (λ c. is_shared shared (answer_to h c).email ≡ true → Stays h (email_entries shared (alike h) ts) c) (contacts ts)
  shared_stay = all_weaker (contacts ts) (λ c stay many. stay
      (ap (λ s. if is_whole (if s then [] else folded (answer_to h c).email) then (if s then [] else folded (answer_to h c).email) else []) many ∙ either_same (is_whole []) [])) others_stay

  -- the email of an answer is as before, ASCII case aside
  pub email_before : (c : Contact) → c ∈ contacts ts → folded (answer_to h c).email ≡ folded (answer_to with_emails c).email
  email_before c i = ⊎_elim (λ none. ap (λ a. folded a.email) (sym (unclassed shared h ts (email_class shared) never named email_together email_spell c i refl none).0))
      (λ some.
      let same = keeps shared h ts (email_class shared) never named email_together email_spell c i refl in
      sym (class_email is_whole (is_shared shared (answer_to h c).email) (folded (answer_to h c).email) some) ∙ sym same
      ∙ class_email is_whole (is_shared shared (answer_to with_emails c).email) (folded (answer_to with_emails c).email) (λ none. some (sym same ∙ none)))
      (empty_or (uncut shared (email_class shared) (alike h) (alike h) ts (answer_to h c)))

  -- two contacts get one answer only if their answers had one email
  pub joined_by_email : AllByRecursion (λ b. AllByRecursion (λ c. answer_to with_emails b ≡ answer_to with_emails c → folded (answer_to h b).email ≡ folded (answer_to h c).email) (contacts ts)) (contacts ts)
  joined_by_email = each_pair (λ b c. answer_to with_emails b ≡ answer_to with_emails c → folded (answer_to h b).email ≡ folded (answer_to h c).email) (contacts ts)
      (λ b c i j same. email_before b i ∙ ap (λ a. folded a.email) same ∙ sym (email_before c j))

  -- ==== then by other classes, as by names

  -- answers with an email that one person has, and for which git would cut no line, are the same
  one_if : (b c : Contact) → b ∈ contacts ts → c ∈ contacts ts → folded (answer_to with_emails b).email ≡ folded (answer_to with_emails c).email
      → is_shared shared (answer_to with_emails c).email ≡ false → folded (answer_to with_emails c).email ≢ [] → is_whole (email_class shared (answer_to with_emails c)) ≡ true → answer_to with_emails b ≡ answer_to with_emails c
  one_if b c i j same one some is =
      let class_is : uncut shared (email_class shared) (alike h) (alike h) ts (answer_to with_emails c) ≡ folded (answer_to with_emails c).email =
      ap (λ w. if w then email_class shared (answer_to with_emails c) else []) is ∙ ap (λ s. if s then [] else folded (answer_to with_emails c).email) one in
      one_by_class shared h ts (email_class shared) never named email_together email_spell b c i j refl refl
      (ap (λ k. if is_whole k then k else []) (email_class_is shared (answer_to with_emails b) (answer_to with_emails c) same)) (λ none. some (sym class_is ∙ none))

  -- ---- whether git would cut a line for the email of an answer

  abbrev pub cut_email : Contact → Bool
  cut_email = cut_class shared h h ts (email_class shared)

  abbrev cut_by : Text → Bool
  cut_by k = not (bytes_eq k []) && are_cut (lines shared h h ts (email_class shared) k)

  one_before : (b c : Contact) → b ∈ contacts ts → c ∈ contacts ts → folded (answer_to with_emails b).email ≡ folded (answer_to with_emails c).email → email_class shared (answer_to h b) ≡ email_class shared (answer_to h c)
  one_before b c i j same = email_class_is shared (answer_to h b) (answer_to h c) (email_before b i ∙ same ∙ sym (email_before c j))

  pub cut_same : (b c : Contact) → b ∈ contacts ts → c ∈ contacts ts → folded (answer_to with_emails b).email ≡ folded (answer_to with_emails c).email → cut_email b ≡ cut_email c
  cut_same b c i j same = ap cut_by (one_before b c i j same)

  pub shared_uncut : (c : Contact) → c ∈ contacts ts → is_shared shared (answer_to with_emails c).email ≡ true → cut_email c ≡ false
  shared_uncut c i many = ap (λ s. cut_by (if s then [] else folded (answer_to h c).email)) (ap (λ e. list_any (bytes_eq e) shared) (email_before c i) ∙ many)

  whole_if : (c : Contact) → c ∈ contacts ts → cut_email c ≡ false → is_shared shared (answer_to with_emails c).email ≡ false → folded (answer_to with_emails c).email ≢ [] → is_whole (email_class shared (answer_to with_emails c)) ≡ true
  whole_if c i o one some =
      let e = folded (answer_to with_emails c).email in
      let now_is : email_class shared (answer_to with_emails c) ≡ e = ap (λ s. if s then [] else e) one in
      let before : email_class shared (answer_to h c) ≡ e = email_class_is shared (answer_to h c) (answer_to with_emails c) (email_before c i) ∙ now_is in
      ap is_whole now_is ∙ ap not (right_false (not (bytes_eq e [])) (are_cut (lines shared h h ts (email_class shared) e)) (ap not (false_from_ne_true (bytes_eq e []) (λ none. some (same_bytes e [] none)))) (sym (ap cut_by before) ∙ o))

  -- answers with an email that one person has are the same if it would not
  pub one_by_email : (b c : Contact) → b ∈ contacts ts → c ∈ contacts ts → cut_email c ≡ false → folded (answer_to with_emails b).email ≡ folded (answer_to with_emails c).email
      → is_shared shared (answer_to with_emails c).email ≡ false → folded (answer_to with_emails c).email ≢ [] → answer_to with_emails b ≡ answer_to with_emails c
  one_by_email b c i j o same one some = one_if b c i j same one some (whole_if c j o one some)

  module _ (class : Contact → Text) (careful : IsCareful shared class never with_emails ts) (p : Text → Bool) where
    abbrev answer : Contact → Contact
    answer c = answer_to with_emails c

    abbrev chosen : Contact → Text
    chosen c = only p class (answer c)

    -- answers with one email that one person has
    unshared : (b c : Contact) → b ∈ contacts ts → c ∈ contacts ts → cut_email c ≡ false → folded (answer b).email ≡ folded (answer c).email → is_shared shared (answer b).email ≡ false
        → (folded (answer c).email ≡ []) ⊎ (folded (answer c).email ≢ []) → chosen b ≡ chosen c
    unshared b c i j o same one (inl none) =
        let first : class (answer b) ≡ [] = at _ (contacts ts) careful.emails b i (folded_empty (answer b).email (same ∙ none)) in
        let second : class (answer c) ≡ [] = at _ (contacts ts) careful.emails c j (folded_empty (answer c).email none) in
        ap (λ k. if p k then k else []) (first ∙ sym second)
    unshared b c i j o same one (inr some) = ap (only p class) (one_by_email b c i j o same (ap (λ e. list_any (bytes_eq e) shared) (sym same) ∙ one) some)

    several : (b c : Contact) → b ∈ contacts ts → c ∈ contacts ts → is_shared shared (answer b).email ≡ true → Touches shared with_emails b c → class (answer b) ≡ class (answer c)
    several b c i j many (inl keys) = at _ (contacts ts) (at _ (contacts ts) careful.keys b i) c j refl many keys
    several b c i j many (inr l) = absurd (true≢false (sym many ∙ l.1))

    pub together_by : (b c : Contact) → b ∈ contacts ts → c ∈ contacts ts → cut_email c ≡ false → Touches shared with_emails b c → chosen b ≡ chosen c
    together_by b c i j o touches = by (is_shared shared (answer b).email) refl
      where
        by : (s : Bool) → is_shared shared (answer b).email ≡ s → chosen b ≡ chosen c
        by true many = ap (λ k. if p k then k else []) (several b c i j many touches)
        by false one = unshared b c i j o (touched_answers shared with_emails b c touches) one (empty_or (folded (answer c).email))

    -- whether git would cut a line for its email, and an answer with that has a class that passes
    abbrev pub cut_for_names : Contact → Bool
    cut_for_names c = cut_email c && list_any (λ d. not (bytes_eq (chosen d) [])) (group shared h h ts (email_class shared) (email_class shared (answer_to h c)))

    pub together_for : (b c : Contact) → b ∈ contacts ts → c ∈ contacts ts → cut_for_names c ≡ false → Touches shared with_emails b c → chosen b ≡ chosen c
    together_for b c i j o touches = by (cut_email c) refl
      where
        unchosen : cut_email c ≡ true → (d : Contact) → d ∈ contacts ts → email_class shared (answer_to h d) ≡ email_class shared (answer_to h c) → chosen d ≡ []
        unchosen cut d k same = none_of_group shared h h ts (email_class shared) chosen d c k same (right_false (cut_email c) _ cut o)

        by : (cut : Bool) → cut_email c ≡ cut → chosen b ≡ chosen c
        by true cut = unchosen cut b i (one_before b c i j (touched_answers shared with_emails b c touches)) ∙ sym (unchosen cut c j refl)
        by false none = together_by b c i j none touches

    pub spell : (b c : Contact) → b ∈ contacts ts → c ∈ contacts ts → only p class (answer b) ≢ [] → SpellAlike shared with_emails b c
    spell b c i j some = careful_spell shared with_emails ts class careful b c i j (only_some p (class (answer b)) some).1

  -- ==== then by further classes, as by logins, without the entries before them

  module _ (class : Contact → Text) (careful : IsCareful shared class never with_emails ts) where
    abbrev pub with_names : List Mapping
    with_names = with_emails ++ all_entries shared class (alike with_emails) (alike with_emails) ts

    abbrev all_pass : Text → Bool
    all_pass k = true

    abbrev pub now : Contact → Contact
    now c = answer_to with_emails c

    abbrev pub then_by : Contact → Contact
    then_by c = answer_to with_names c

    abbrev pub in_block : Contact → Bool
    in_block c = is_active shared with_emails with_emails ts class (class (now c))

    -- whether git would cut a line of its group by email or by class
    abbrev pub cut_before : Contact → Bool
    cut_before c = cut_email c || cut_class shared with_emails with_emails ts class c

    pub one_class : (b c : Contact) → b ∈ contacts ts → c ∈ contacts ts → cut_email c ≡ false → Touches shared with_emails b c → class (now b) ≡ class (now c)
    one_class = together_by class careful all_pass

    pub spell_one : (b c : Contact) → b ∈ contacts ts → c ∈ contacts ts → class (now b) ≢ [] → SpellAlike shared with_emails b c
    spell_one = spell class careful all_pass

    pub changed : (c : Contact) → c ∈ contacts ts → cut_email c ≡ false → in_block c ≡ true → then_by c ≡ wanted shared with_emails with_emails ts class (class (now c))
    changed c i o is = (answered_now shared with_emails ts class cut_email emails_named one_class spell_one c i o is).0

    pub unchanged : (c : Contact) → c ∈ contacts ts → cut_email c ≡ false → in_block c ≡ false → then_by c ≡ now c
    unchanged c i o is = (stays shared with_emails ts class cut_email emails_named one_class spell_one c i o is).0

    -- contacts of a class for which there are no entries have one answer
    pub unblocked : (b c : Contact) → b ∈ contacts ts → c ∈ contacts ts → class (now b) ≡ class (now c) → class (now b) ≢ []
        → are_cut (lines shared with_emails with_emails ts class (class (now b))) ≡ false → in_block b ≡ false → now b ≡ now c
    unblocked b c i j same some whole off =
        let k = class (now b) in
        let all = group shared with_emails with_emails ts class k in
        let on : are_alike (alike with_emails) all ≡ true = alike_if (not (bytes_eq k [])) (are_alike (alike with_emails) all) (not (are_cut (lines shared with_emails with_emails ts class k)))
        (ap not (false_from_ne_true (bytes_eq k []) (λ e. some (same_bytes k [] e)))) (ap not whole) off in
        (alike_all with_emails all on b c (in_group shared with_emails with_emails ts class b i)
        (subst (λ t. c ∈ group shared with_emails with_emails ts class t) (sym same) (in_group shared with_emails with_emails ts class c j))).0

    module _ (next : Contact → Text) (also : IsCareful shared next cut_before with_names ts) where
      same_before : (b c : Contact) → b ∈ contacts ts → c ∈ contacts ts → cut_email c ≡ false → then_by b ≡ now b → then_by c ≡ now c → folded (now b).email ≡ folded (now c).email → is_shared shared (now b).email ≡ false
          → (folded (now c).email ≡ []) ⊎ (folded (now c).email ≢ []) → next (then_by b) ≡ next (then_by c)
      same_before b c i j o b_is c_is emails one (inl none) =
          let first : next (then_by b) ≡ [] = at _ (contacts ts) also.emails b i (ap (λ (a : Contact). a.email) b_is ∙ folded_empty (now b).email (emails ∙ none)) in
          let second : next (then_by c) ≡ [] = at _ (contacts ts) also.emails c j (ap (λ (a : Contact). a.email) c_is ∙ folded_empty (now c).email none) in
          first ∙ sym second
      same_before b c i j o b_is c_is emails one (inr some) = ap next (b_is ∙ one_by_email b c i j o emails (ap (λ e. list_any (bytes_eq e) shared) (sym emails) ∙ one) some ∙ sym c_is)

      several_before : (b c : Contact) → b ∈ contacts ts → c ∈ contacts ts → cut_before c ≡ false → then_by b ≡ now b → is_shared shared (now b).email ≡ true → Touches shared with_emails b c → next (then_by b) ≡ next (then_by c)
      several_before b c i j o b_is many (inl keys) = at _ (contacts ts) (at _ (contacts ts) also.keys b i) c j o (ap (λ (a : Contact). is_shared shared a.email) b_is ∙ many) keys
      several_before b c i j o b_is many (inr l) = absurd (true≢false (sym many ∙ l.1))

      both_unchanged : (b c : Contact) → b ∈ contacts ts → c ∈ contacts ts → cut_before c ≡ false → then_by b ≡ now b → then_by c ≡ now c → Touches shared with_emails b c → next (then_by b) ≡ next (then_by c)
      both_unchanged b c i j o b_is c_is touches = by (is_shared shared (now b).email) refl
        where
          by : (s : Bool) → is_shared shared (now b).email ≡ s → next (then_by b) ≡ next (then_by c)
          by true many = several_before b c i j o b_is many touches
          by false one = same_before b c i j (neither (cut_email c) _ o).0 b_is c_is (touched_answers shared with_emails b c touches) one (empty_or (folded (now c).email))

      pub next_together : (b c : Contact) → b ∈ contacts ts → c ∈ contacts ts → cut_before c ≡ false → Touches shared with_emails b c → next (then_by b) ≡ next (then_by c)
      next_together b c i j o touches = by (in_block b) refl
        where
          c_whole : cut_email c ≡ false
          c_whole = (neither (cut_email c) _ o).0

          b_whole : cut_email b ≡ false
          b_whole = cut_same b c i j (touched_answers shared with_emails b c touches) ∙ c_whole

          alike_classes : class (now b) ≡ class (now c)
          alike_classes = one_class b c i j c_whole touches

          by : (t : Bool) → in_block b ≡ t → next (then_by b) ≡ next (then_by c)
          by true on = ap next (changed b i b_whole on ∙ ap (wanted shared with_emails with_emails ts class) alike_classes
              ∙ sym (changed c j c_whole (ap (is_active shared with_emails with_emails ts class) (sym alike_classes) ∙ on)))
          by false off = both_unchanged b c i j o (unchanged b i b_whole off) (unchanged c j c_whole (ap (is_active shared with_emails with_emails ts class) (sym alike_classes) ∙ off)) touches

      -- some classes, where a contact is left out if git would cut a line of its group by email or by class, and one of that
      -- has a class that passes
      module _ (p : Text → Bool) where
        abbrev label : Contact → Text
        label c = only p next (then_by c)

        abbrev has_label : Contact → Bool
        has_label d = not (bytes_eq (label d) [])

        abbrev cut_for_email : Contact → Bool
        cut_for_email c = cut_email c && list_any has_label (group shared h h ts (email_class shared) (email_class shared (answer_to h c)))

        abbrev cut_for_class : Contact → Bool
        cut_for_class c = cut_class shared with_emails with_emails ts class c && list_any has_label (group shared with_emails with_emails ts class (class (now c)))

        abbrev pub cut_for_next : Contact → Bool
        cut_for_next c = cut_for_email c || cut_for_class c

        pub next_for : (b c : Contact) → b ∈ contacts ts → c ∈ contacts ts → cut_for_next c ≡ false → Touches shared with_emails b c → label b ≡ label c
        next_for b c i j o touches = by (cut_email c) refl (cut_class shared with_emails with_emails ts class c) refl
          where
            parts : (cut_for_email c ≡ false) × (cut_for_class c ≡ false)
            parts = neither (cut_for_email c) (cut_for_class c) o

            by_email : cut_email c ≡ true → (d : Contact) → d ∈ contacts ts → email_class shared (answer_to h d) ≡ email_class shared (answer_to h c) → label d ≡ []
            by_email cut d k same = none_of_group shared h h ts (email_class shared) label d c k same (right_false (cut_email c) _ cut parts.0)

            by_class : cut_class shared with_emails with_emails ts class c ≡ true → (d : Contact) → d ∈ contacts ts → class (now d) ≡ class (now c) → label d ≡ []
            by_class cut d k same = none_of_group shared with_emails with_emails ts class label d c k same (right_false (cut_class shared with_emails with_emails ts class c) _ cut parts.1)

            by : (e : Bool) → cut_email c ≡ e → (n : Bool) → cut_class shared with_emails with_emails ts class c ≡ n → label b ≡ label c
            by true cut n _ = by_email cut b i (one_before b c i j (touched_answers shared with_emails b c touches)) ∙ sym (by_email cut c j refl)
            by false no_email true cut = by_class cut b i (one_class b c i j no_email touches) ∙ sym (by_class cut c j refl)
            by false no_email false no_class = ap (λ k. if p k then k else []) (next_together b c i j (λ k. no_email k || no_class k) touches)

      by_blocks : (b c : Contact) → b ∈ contacts ts → c ∈ contacts ts → next (then_by b) ≢ [] → (now b).email ≡ b.email → (now c).email ≡ c.email → folded (now b).email ≡ folded (now c).email
          → is_shared shared (now b).email ≡ true → is_shared shared (now c).email ≡ true → (s : Bool) → in_block b ≡ s → (t : Bool) → in_block c ≡ t → b.email ≡ c.email
      by_blocks b c i j some first second emails b_shared c_shared true on t is =
          let same : (now b).email ≡ (now c).email = at _ (contacts ts) (at _ (contacts ts) careful.spelled b i) c j b_shared (active_some shared with_emails with_emails ts class (class (now b)) on) emails in
          sym first ∙ same ∙ second
      by_blocks b c i j some first second emails b_shared c_shared false off true on =
          let same : (now c).email ≡ (now b).email = at _ (contacts ts) (at _ (contacts ts) careful.spelled c j) b i c_shared (active_some shared with_emails with_emails ts class (class (now c)) on) (sym emails) in
          sym first ∙ sym same ∙ second
      by_blocks b c i j some first second emails b_shared c_shared false off false out =
          let b_is : then_by b ≡ now b = unchanged b i (shared_uncut b i b_shared) off in
          let c_is : then_by c ≡ now c = unchanged c j (shared_uncut c j c_shared) out in
          let same : (then_by b).email ≡ (then_by c).email = at _ (contacts ts) (at _ (contacts ts) also.spelled b i) c j (ap (λ (a : Contact). is_shared shared a.email) b_is ∙ b_shared) some
          (ap (λ (a : Contact). folded a.email) b_is ∙ emails ∙ ap (λ (a : Contact). folded a.email) (sym c_is)) in
          sym first ∙ ap (λ (a : Contact). a.email) (sym b_is) ∙ same ∙ ap (λ (a : Contact). a.email) c_is ∙ second

      pub next_spell : (b c : Contact) → b ∈ contacts ts → c ∈ contacts ts → next (then_by b) ≢ [] → SpellAlike shared with_emails b c
      next_spell b c i j some none many same =
          let first : (now b).email ≡ b.email = unspelled_email with_emails b (ap (spelling with_emails) same ∙ none) in
          let second : (now c).email ≡ c.email = unspelled_email with_emails c none in
          let emails : folded (now b).email ≡ folded (now c).email = ap folded first ∙ same ∙ sym (ap folded second) in
          let c_shared : is_shared shared (now c).email ≡ true = ap (is_shared shared) second ∙ many in
          let b_shared : is_shared shared (now b).email ≡ true = ap (λ e. list_any (bytes_eq e) shared) emails ∙ c_shared in
          by_blocks b c i j some first second emails b_shared c_shared (in_block b) refl (in_block c) refl

    -- who has no name then had none before, if only answers with a name have a class
    pub next_wants : ((c : Contact) → c ∈ contacts ts → (now c).name ≡ [] → class (now c) ≡ []) → (next : Contact → Text) (t : Text)
        → AllByRecursion (IsWanting with_emails (wanted shared with_emails with_names ts next t)) (group shared with_emails with_names ts next t)
    next_wants unnamed next t = each _ (group shared with_emails with_names ts next t) (λ c i e.
        unnamed_before with_emails (all_entries shared class (alike with_emails) (alike with_emails) ts) c (names_given shared with_emails ts class unnamed)
        (at _ (group shared with_emails with_names ts next t) (proper_wanting shared with_names (these shared with_emails with_names ts next t)) c i e))
