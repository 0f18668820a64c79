-- Each suggested entry is needed: without it, some contact of a group doesn't get the proper answer of the group.
use Rattle.std.proofs.Common.{◌≡◌, ◌≢◌, ◌⊎◌, ◌∙◌, ◌&&◌, ◌||◌, Bool, true, false, true≢false, not, List, [], ◌∷◌, ◌++◌, Option, None, Some, ap, append-nil, append_assoc, bytes_eq, cond, filter, if◌then◌else◌, inl, inr, is_some, map, option_map, refl, subst, sym, unwrap_or, ⊎_elim}
use Rattle.std.specs.Prelude.{⊤}
use Rattle.std.specs.List.{AllByRecursion, Contains, flat_map, list_any}
use Rattle.std.specs.Option.{option_or}
use Rattle.std.specs.Ordering.{eq_by_cmp}
use Rattle.std.proofs.lemmas.Bool.{false_from_ne_true, not-true, or_right}
use Rattle.std.proofs.lemmas.List.Elements.{All-contains_itself, filter-append, recursion_from_All}
use Rattle.mailmap_entries.specs.Entries.{Mapping}
use Rattle.mailmap_entries.specs.Folding.{Text, folded}
use Rattle.mailmap_entries.specs.Semantics.{Key, is_accepted, key, key_cmp, last, last_fields, new_fields, spelling, given_fields}
use Rattle.mailmap_entries.proofs.Building.{same_key}
use Rattle.mailmap_entries.proofs.Joined.{filter_none}
use Rattle.mailmap_entries.proofs.Parts.{all_append, all_head, all_tail, all_weaker}
use Rattle.mailmap_contacts.specs.Contacts.{Contact, Tally, answer_to}
use Rattle.mailmap_contacts.proofs.Steps.{all_filtered}
use Rattle.mailmap_suggestions.specs.Forms.{IsAnswered, alike, are_answered, distinct, entries_for_email, entries_to, git_answer_to, is_answered, is_short_enough, long_form, name_unless_empty, named_entries, named_form, needs_own_entry, of_old_email, own_key, plain_entries, short_form}
use Rattle.mailmap_suggestions.specs.GroupEntries.{HasNoEmptyName, contacts, email_class, only, with_classes, with_emails}
use Rattle.mailmap_suggestions.specs.Selections.{EachNeeded, GetProperWith}
use Rattle.mailmap_suggestions.proofs.Appended.{Fits, IsCareful, IsWanting, OfForms, SpellAlike, SpellsAs, Touches, affects, answer_is, answered_decides, both_forms, each_for_email, each_named, email_all, fields, forms_linked, forms_spelled, git_is, last_joined, made, none_of_key, of_email_all, one_of_key, only_affecting, only_keys, other_unreached, parts_answer, reaches, spelled, spelling_joined, touched_email, unnamed_contact, with_email}
use Rattle.mailmap_suggestions.proofs.Distinct.{◌∈◌, all_joined, all_of, at, each, equal_bytes, filter_joined, from_filter, no_part, same_bytes}
use Rattle.mailmap_suggestions.proofs.United.{active_some, added_are, all_texts, alone, cut_before, cut_for_names, cut_for_next, email_spell, email_together, emails_named, from_group, group, has_entries_is, is_active, lines, never, next_for, next_spell, next_wants, only_some, part, part_off, part_on, proper_wanting, spell, text, these, together_for, touched_answers, wanted}

-- ==== lists that are split

pub none_split : {X : Type 0} (a b : List X) (x : X) → [] ≡ a ++ x ∷ b → ⊥
none_split [] b x e = cc
none_split (z ∷ a) b x e = cc

one_split : {X : Type 0} (y : X) (a b : List X) (x : X) → y ∷ [] ≡ a ++ x ∷ b → (a ≡ []) × (b ≡ [])
one_split y [] b x e = (refl, let rest : [] ≡ b = cc in sym rest)
one_split y (z ∷ a) b x e = let rest : [] ≡ a ++ x ∷ b = cc in absurd (none_split a b x rest)

split_joined : {X : Type 0} (xs ys a b : List X) (x : X) → xs ++ ys ≡ a ++ x ∷ b
    → ((r : List X) × (xs ≡ a ++ x ∷ r) × (b ≡ r ++ ys)) ⊎ ((l : List X) × (ys ≡ l ++ x ∷ b) × (a ≡ xs ++ l))
split_joined [] ys a b x is = inr (a, is, refl)
split_joined (z ∷ xs) ys [] b x is =
    let head : z ≡ x = cc in
    let tail : xs ++ ys ≡ b = cc in
    inl (xs, ap (λ y. y ∷ xs) head, sym tail)
split_joined (z ∷ xs) ys (w ∷ a) b x is =
    let head : z ≡ w = cc in
    let tail : xs ++ ys ≡ a ++ x ∷ b = cc in
    ⊎_elim (λ (r, whole, left). inl (r, (λ i. head i ∷ whole i), left)) (λ (l, whole, left). inr (l, whole, (λ i. sym head i ∷ left i))) (split_joined xs ys a b x tail)

in_middle : {X : Type 0} (a b : List X) (x : X) → Contains (a ++ x ∷ b) x
in_middle a b x = let xs = a ++ x ∷ b in (all_tail (Contains xs) a (x ∷ b) (recursion_from_All (Contains xs) xs (All-contains_itself xs))).0

-- the part that an element of joined parts comes from
record FromPart {X Y : Type 0} (part : X → List Y) (xs : List X) (a b : List Y) (y : Y) : Type 0 where
  before : List X
  x : X
  after : List X
  are : xs ≡ before ++ x ∷ after
  front : List Y
  rest : List Y
  whole : part x ≡ front ++ y ∷ rest
  first : a ≡ flat_map part before ++ front
  last : b ≡ rest ++ flat_map part after

from_part : {X Y : Type 0} (part : X → List Y) (xs : List X) (a b : List Y) (y : Y) → flat_map part xs ≡ a ++ y ∷ b → FromPart part xs a b y
from_part part [] a b y is = absurd (none_split a b y is)
from_part part (x ∷ xs) a b y is = ⊎_elim
    (λ (r, whole, left). record { before = []; x = x; after = xs; are = refl; front = a; rest = r; whole = whole; first = refl; last = left })
    (λ (l, whole, left).
    let p = from_part part xs l b y whole in record {
      before = x ∷ p.before;
      x = p.x;
      after = p.after;
      are = ap (λ zs. x ∷ zs) p.are;
      front = p.front;
      rest = p.rest;
      whole = p.whole;
      first = left ∙ ap (λ zs. part x ++ zs) p.first ∙ sym (append_assoc (part x) (flat_map part p.before) p.front);
      last = p.last;
    })
    (split_joined (part x) (flat_map part xs) a b y is)

-- ---- distinct texts

abbrev AreOnce : List Text → Type 0
AreOnce [] = ⊤
AreOnce (x ∷ xs) = AllByRecursion (λ y. y ≢ x) xs × AreOnce xs

filter_once : (p : Text → Bool) (xs : List Text) → AreOnce xs → AreOnce (filter p xs)
filter_once p [] once = tt
filter_once p (x ∷ xs) once = elim (p x) as (λ b. AreOnce (cond b (x ∷ filter p xs) (filter p xs))) [
  | true ↦ (all_filtered p (λ y. y ≢ x) (λ y. y ≢ x) (λ y other _. other) xs once.0, filter_once p xs once.1)
  | false ↦ filter_once p xs once.1
]

distinct_once : (xs : List Text) → AreOnce (distinct xs)
distinct_once [] = tt
distinct_once (x ∷ xs) = (
  all_filtered (λ y. not (bytes_eq x y)) (λ _. Unit {0}) (λ y. y ≢ x) (λ y _ passes e. true≢false (sym passes ∙ ap not (equal_bytes x y (sym e)))) (distinct xs) (all_of (λ _. Unit {0}) (λ _. tt) (distinct xs)),
  filter_once (λ y. not (bytes_eq x y)) (distinct xs) (distinct_once xs),
)

others_once : (l r : List Text) (t : Text) → AreOnce (l ++ t ∷ r) → AllByRecursion (λ s. s ≢ t) l × AllByRecursion (λ s. s ≢ t) r
others_once [] r t once = (tt, once.0)
others_once (z ∷ l) r t once =
    let rest = others_once l r t once.1 in (((λ e. (all_tail (λ y. y ≢ z) l (t ∷ r) once.0).0 (sym e)), rest.0), rest.1)

-- ==== entries that don't reach a contact

-- if the contact is answered with them, it is without them
pub answered_without : (h xs : List Mapping) (to c : Contact) → filter (reaches h c) xs ≡ [] → IsAnswered (h ++ xs) to c → IsAnswered h to c
answered_without h xs to c none is = by (spelled h c) refl
  where
    same : fields (h ++ xs) c ≡ fields h c
    same = only_keys h c xs ∙ ap (λ l. fields (h ++ l) c) none ∙ ap (λ l. fields l c) (append-nil h)

    gits : git_answer_to h c ≡ to
    gits = git_is h c ∙ ap (λ f. made c f None) (sym same) ∙ sym (git_is (h ++ xs) c) ∙ is.1

    by : (o : Option Text) → spelled h c ≡ o → IsAnswered h to c
    by None unspelled = (answer_is h c ∙ ap (λ o. made c (fields h c) o) unspelled ∙ sym (git_is h c) ∙ gits, gits)
    by (Some s) some =
        let kept : spelled h c ≡ spelled (h ++ xs) c = some ∙ sym (spelling_joined h xs (folded c.email) ∙ ap (λ o. option_or o (spelling xs (folded c.email))) some) in
        (answer_is h c ∙ (λ i. made c (sym same i) (kept i)) ∙ sym (answer_is (h ++ xs) c) ∙ is.0, gits)

-- an entry with an old name for another key
abbrev pub Other : Key → Mapping → Type 0
Other k x = (is_some x.old_name ≡ true) × (key x ≡ k → ⊥)

some_none : {X : Type 0} (x : X) → x ∷ [] ≡ [] → ⊥
some_none x e = cc

pub unreached : (h : List Mapping) (c : Contact) (x : Mapping) → Other (own_key c) x → reaches h c x ≡ false
unreached h c x other = false_from_ne_true (reaches h c x) (λ yes.
    some_none x (sym (ap (λ b. cond b (x ∷ []) []) yes) ∙ other_unreached h c x other.0 other.1))

pub none_reached : (h : List Mapping) (c : Contact) (xs : List Mapping) → AllByRecursion (Other (own_key c)) xs → filter (reaches h c) xs ≡ []
none_reached h c xs all = filter_none (reaches h c) xs (all_weaker xs (unreached h c) all)

-- ==== the entries with old names

module _ (to : Contact) where
  -- the contacts with a key have an entry of their own that says `to`
  abbrev pub HasOwn : Key → List Mapping → Type 0
  HasOwn k g = last_fields g k ≡ Some (record { name = name_unless_empty to; email = Some to.email })

  kept_name : (c : Contact) → Fits to c → unwrap_or (name_unless_empty to) c.name ≡ to.name
  kept_name c fits = elim (bytes_eq to.name []) as (λ b. bytes_eq to.name [] ≡ b → unwrap_or (if b then None else Some to.name) c.name ≡ to.name) [
    | true ↦ λ none. let empty = same_bytes to.name [] none in fits empty ∙ sym empty
    | false ↦ λ _. refl
  ] refl

  pub by_own : (g : List Mapping) (k : Key) (c : Contact) → HasOwn k g → own_key c ≡ k → Fits to c → IsAnswered g to c
  by_own g k c has same fits = with_email g c to (name_unless_empty to) (ap (λ o. unwrap_or o (given_fields g (folded c.email))) (ap (last_fields g) same ∙ has)) (kept_name c fits)

  pub good : (c : Contact) → is_accepted (named_form to c) ≡ true
  good c = or_right (is_some (name_unless_empty to)) true refl

  pub own_after : (g : List Mapping) (c : Contact) → HasOwn (own_key c) (g ++ named_form to c ∷ [])
  own_after g c = last_joined g (named_form to c ∷ []) (own_key c)
      ∙ ap (λ l. option_or (option_map new_fields (last l)) (last_fields g (own_key c))) (one_of_key (named_form to c) (own_key c) (good c) refl)

  own_stays : (g : List Mapping) (k : Key) (c : Contact) → HasOwn k g → (own_key c ≡ k → ⊥) → HasOwn k (g ++ named_form to c ∷ [])
  own_stays g k c has other = last_joined g (named_form to c ∷ []) k
      ∙ ap (λ l. option_or (option_map new_fields (last l)) (last_fields g k)) (none_of_key (named_form to c) k (good c)
      (false_from_ne_true (eq_by_cmp key_cmp k (own_key c)) (λ e. other (sym ((same_key k (own_key c)).0 e))))) ∙ has

  -- they get no further one
  none_with : (k : Key) (cs : List Contact) (g : List Mapping) → HasOwn k g → AllByRecursion (Fits to) cs → AllByRecursion (Other k) (named_entries (alike g) to cs)
  none_with k [] g has fits = tt
  none_with k (c ∷ cs) g has fits = elim (is_answered (alike g) to c) as (λ b. is_answered (alike g) to c ≡ b
      → AllByRecursion (Other k) (if b then named_entries (alike g) to cs else named_form to c ∷ named_entries (alike (g ++ named_form to c ∷ [])) to cs)) [
        | true ↦ λ _. none_with k cs g has fits.1
        | false ↦ λ out.
            let other : own_key c ≡ k → ⊥ = λ same. true≢false (sym ((answered_decides g to c).1 (by_own g k c has same fits.0)) ∙ out) in
            ((refl, other), none_with k cs (g ++ named_form to c ∷ []) (own_stays g k c has other) fits.1)
      ] refl

  -- the contact that one of them is for has another answer before it, and no later one is for its key
  record Missed (g : List Mapping) (cs : List Contact) (front rest : List Mapping) : Type 0 where
    c : Contact
    among : c ∈ cs
    missed : IsAnswered (g ++ front) to c → ⊥
    others : AllByRecursion (Other (own_key c)) rest

  at_first : (c : Contact) (cs : List Contact) (g rest : List Mapping) (x : Mapping) → AllByRecursion (Fits to) cs → is_answered (alike g) to c ≡ false
      → ((front : List Mapping) → named_entries (alike (g ++ named_form to c ∷ [])) to cs ≡ front ++ x ∷ rest → Missed (g ++ named_form to c ∷ []) cs front rest)
      → (front : List Mapping) → named_form to c ∷ named_entries (alike (g ++ named_form to c ∷ [])) to cs ≡ front ++ x ∷ rest → Missed g (c ∷ cs) front rest
  at_first c cs g rest x fits out later [] is =
      let tail : named_entries (alike (g ++ named_form to c ∷ [])) to cs ≡ rest = cc in record {
        c = c;
        among = inl refl;
        missed = λ answered. true≢false (sym ((answered_decides g to c).1 (subst (λ l. IsAnswered l to c) (append-nil g) answered)) ∙ out);
        others = subst (AllByRecursion (Other (own_key c))) tail (none_with (own_key c) cs (g ++ named_form to c ∷ []) (own_after g c) fits);
      }
  at_first c cs g rest x fits out later (y ∷ front) is =
      let head : named_form to c ≡ y = cc in
      let tail : named_entries (alike (g ++ named_form to c ∷ [])) to cs ≡ front ++ x ∷ rest = cc in
      let m = later front tail in record {
        c = m.c;
        among = inr m.among;
        missed = λ answered. m.missed (subst (λ l. IsAnswered l to m.c) (ap (λ z. g ++ z ∷ front) (sym head) ∙ sym (append_assoc g (named_form to c ∷ []) front)) answered);
        others = m.others;
      }

  from_named : (cs : List Contact) (g front rest : List Mapping) (x : Mapping) → AllByRecursion (Fits to) cs → named_entries (alike g) to cs ≡ front ++ x ∷ rest → Missed g cs front rest
  from_named [] g front rest x fits is = absurd (none_split front rest x is)
  from_named (c ∷ cs) g front rest x fits is = elim (is_answered (alike g) to c) as (λ b. is_answered (alike g) to c ≡ b
      → (if b then named_entries (alike g) to cs else named_form to c ∷ named_entries (alike (g ++ named_form to c ∷ [])) to cs) ≡ front ++ x ∷ rest → Missed g (c ∷ cs) front rest) [
        | true ↦ λ _ are.
            let m = from_named cs g front rest x fits.1 are in
            record { c = m.c; among = inr m.among; missed = m.missed; others = m.others }
        | false ↦ λ out are. at_first c cs g rest x fits.1 out (λ front are. from_named cs (g ++ named_form to c ∷ []) front rest x fits.1 are) front are
      ] refl is

  -- ==== the entry without an old name

  not_all : (h : List Mapping) (cs : List Contact) → are_answered (alike h) to cs ≡ false → (c : Contact) × (c ∈ cs) × (IsAnswered h to c → ⊥)
  not_all h [] out = absurd (true≢false out)
  not_all h (c ∷ cs) out = elim (is_answered (alike h) to c) as (λ b. is_answered (alike h) to c ≡ b → (b && are_answered (alike h) to cs) ≡ false → (d : Contact) × (d ∈ (c ∷ cs)) × (IsAnswered h to d → ⊥)) [
    | true ↦ λ _ out. let m = not_all h cs out in (m.0, inr m.1, m.2)
    | false ↦ λ no _. (c, inl refl, λ answered. true≢false (sym ((answered_decides h to c).1 answered) ∙ no))
  ] refl out

  from_plain : (h : List Mapping) (ps : List Contact) (front rest : List Mapping) (x : Mapping) → plain_entries (alike h) to ps ≡ front ++ x ∷ rest
      → (c : Contact) × (c ∈ ps) × (IsAnswered h to c → ⊥) × (front ≡ []) × (rest ≡ [])
  from_plain h [] front rest x is = absurd (none_split front rest x is)
  from_plain h (c ∷ cs) front rest x is = elim (are_answered (alike h) to (c ∷ cs)) as (λ b. are_answered (alike h) to (c ∷ cs) ≡ b
      → (if b then [] else (if is_short_enough (alike h) to c cs then short_form to else long_form to c) ∷ []) ≡ front ++ x ∷ rest
      → (d : Contact) × (d ∈ (c ∷ cs)) × (IsAnswered h to d → ⊥) × (front ≡ []) × (rest ≡ [])) [
        | true ↦ λ _ are. absurd (none_split front rest x are)
        | false ↦ λ out are.
            let m = not_all h (c ∷ cs) out in
            let none = one_split (if is_short_enough (alike h) to c cs then short_form to else long_form to c) front rest x are in
            (m.0, m.1, m.2, none.0, none.1)
      ] refl is

-- ==== the entries for one old email

module _ (shared : List Text) (h : List Mapping) where
  -- contacts with one key need entries of their own alike
  pub needs_same : (b c : Contact) → own_key b ≡ own_key c → needs_own_entry shared (alike h) b ≡ needs_own_entry shared (alike h) c
  needs_same b c same =
      let emails = touched_answers shared h b c (inl same) in
      λ i. (is_some (last_fields h (same i)) || is_some (last_fields h (same i))) || list_any (bytes_eq (emails i)) shared

  module _ (named : AllByRecursion HasNoEmptyName h) (to : Contact) where
    abbrev pub Given : Text → Contact → Type 0
    Given email c = (folded c.email ≡ email) × IsWanting h to c

    module _ (email : Text) (cs : List Contact) (given : AllByRecursion (Given email) cs) (alike_spelled : (b c : Contact) → b ∈ cs → c ∈ cs → SpellAlike shared h b c) where
      abbrev single : Contact → Bool
      single c = not (needs_own_entry shared (alike h) c)

      abbrev plain : List Mapping
      plain = plain_entries (alike h) to (filter single cs)

      abbrev own : List Mapping
      own = named_entries (alike (h ++ plain)) to cs

      -- the entries with old names are for no contact that needs none of its own
      pub for_others : (c : Contact) → single c ≡ true → AllByRecursion (Other (own_key c)) own
      for_others c out =
          let P : Mapping → Type 0 = λ x. is_some x.old_name ≡ true → key x ≡ own_key c → ⊥ in
          let all : AllByRecursion P (plain ++ own) = (email_all shared h named to P email cs (all_weaker cs (λ d w. (w.0, w.1, (((λ _ _ some _. true≢false (sym some)), λ some _. true≢false (sym some)), λ needs _ same. true≢false (sym needs ∙ needs_same d c same ∙ not-true (needs_own_entry shared (alike h) c) out)))) given) alike_spelled).1 in
          both own (each_named (λ x. is_some x.old_name ≡ true) to (alike (h ++ plain)) cs (all_of (λ _. true ≡ true) (λ _. refl) cs)) (all_tail P plain own all)
        where
          both : (xs : List Mapping) → AllByRecursion (λ x. is_some x.old_name ≡ true) xs → AllByRecursion (λ x. is_some x.old_name ≡ true → key x ≡ own_key c → ⊥) xs → AllByRecursion (Other (own_key c)) xs
          both [] some other = tt
          both (x ∷ xs) some other = ((some.0, other.0 some.0), both xs some.1 other.1)

      fits : AllByRecursion (Fits to) cs
      fits = all_weaker cs (λ c g empty. unnamed_contact h c named (g.1 empty)) given

      from_email : (front rest : List Mapping) (x : Mapping) → entries_for_email shared (alike h) to cs ≡ front ++ x ∷ rest → (c : Contact) × (c ∈ cs) × (IsAnswered (h ++ (front ++ rest)) to c → ⊥)
      from_email front rest x is = ⊎_elim
          (λ (r, whole, left).
          let m = from_plain to h (filter single cs) front r x whole in
          let found = from_filter single cs m.0 m.1 in
          let others : front ++ rest ≡ own = (λ i. m.3 i ++ left i) ∙ ap (λ l. l ++ own) m.4 in
          (m.0, found.0, λ answered. m.2 (answered_without h own to m.0 (none_reached h m.0 own (for_others m.0 found.1)) (subst (λ l. IsAnswered (h ++ l) to m.0) others answered))))
          (λ (l, whole, left).
          let m = from_named to cs (h ++ plain) l rest x fits whole in
          let g = (h ++ plain) ++ l in
          let whole : h ++ (front ++ rest) ≡ g ++ rest =
          ap (λ f. h ++ (f ++ rest)) left ∙ ap (λ l. h ++ l) (append_assoc plain l rest) ∙ sym (append_assoc h plain (l ++ rest)) ∙ sym (append_assoc (h ++ plain) l rest) in
          (m.c, m.among, λ answered. m.missed (answered_without g rest to m.c (none_reached g m.c rest m.others) (subst (λ l. IsAnswered l to m.c) whole answered))))
          (split_joined plain own front rest x is)

-- ==== joined parts, of which only one can affect a contact

module _ (shared : List Text) (h : List Mapping) where
  -- entries around others that don't affect the contact
  inner : (c to : Contact) (l m r : List Mapping) → AllByRecursion (SpellsAs shared h c) (l ++ (m ++ r)) → AllByRecursion (SpellsAs shared h c) m
      → filter (affects shared h c) l ≡ [] → filter (affects shared h c) r ≡ [] → IsAnswered (h ++ (l ++ (m ++ r))) to c → IsAnswered (h ++ m) to c
  inner c to l m r spells inner_spells none_l none_r is =
      let p = affects shared h c in
      let same : filter p (l ++ (m ++ r)) ≡ filter p m = filter-append p l (m ++ r) ∙ (λ i. none_l i ++ filter p (m ++ r)) ∙ filter-append p m r ∙ ap (λ z. filter p m ++ z) none_r ∙ append-nil (filter p m) in
      let whole = parts_answer c (h ++ (l ++ (m ++ r))) (h ++ filter p (l ++ (m ++ r))) (only_affecting shared h c (l ++ (m ++ r)) spells) in
      let alone = parts_answer c (h ++ m) (h ++ filter p m) (only_affecting shared h c m inner_spells) in
      (alone.0 ∙ ap (λ z. answer_to (h ++ z) c) (sym same) ∙ sym whole.0 ∙ is.0, alone.1 ∙ ap (λ z. git_answer_to (h ++ z) c) (sym same) ∙ sym whole.1 ∙ is.1)

  module _ (part : Text → List Mapping) (to : Text → Contact) (P : Text → Contact → Type 0)
      (alone : (t : Text) (c : Contact) → P t c → (s : Text) → AllByRecursion (λ x. SpellsAs shared h c x × (affects shared h c x ≡ true → s ≡ t)) (part s))
      (x : Mapping) (each_part : (t : Text) (front rest : List Mapping) → part t ≡ front ++ x ∷ rest → (c : Contact) × P t c × (IsAnswered (h ++ (front ++ rest)) (to t) c → ⊥)) where
    spells : (t : Text) (c : Contact) → P t c → (ts : List Text) → AllByRecursion (SpellsAs shared h c) (flat_map part ts)
    spells t c p ts = all_joined (SpellsAs shared h c) part ts (all_of (λ s. AllByRecursion (SpellsAs shared h c) (part s)) (λ s. all_weaker (part s) (λ x a. a.0) (alone t c p s)) ts)

    unaffected : (t : Text) (c : Contact) → P t c → (ts : List Text) → AllByRecursion (λ s. s ≢ t) ts → filter (affects shared h c) (flat_map part ts) ≡ []
    unaffected t c p ts others = filter_joined (affects shared h c) part ts ∙ no_part (λ s. filter (affects shared h c) (part s)) ts
        (all_weaker ts (λ s other. filter_none (affects shared h c) (part s) (all_weaker (part s) (λ x a. false_from_ne_true (affects shared h c x) (λ yes. other (a.1 yes))) (alone t c p s))) others)

    from_parts : (xs : List Text) (front rest : List Mapping) → flat_map part (distinct xs) ≡ front ++ x ∷ rest
        → (t : Text) × (c : Contact) × P t c × (IsAnswered (h ++ (front ++ rest)) (to t) c → ⊥) × (l : List Mapping) × (r : List Mapping) × (part t ≡ l ++ x ∷ r)
    from_parts xs front rest is =
        let f = from_part part (distinct xs) front rest x is in
        let t = f.x in
        let once = others_once f.before f.after t (subst AreOnce f.are (distinct_once xs)) in
        let m = each_part t f.front f.rest f.whole in
        let l = flat_map part f.before in
        let r = flat_map part f.after in
        let mid = f.front ++ f.rest in
        let S = SpellsAs shared h m.0 in
        let own = subst (AllByRecursion S) f.whole (all_weaker (part t) (λ x a. a.0) (alone t m.0 m.1 t)) in
        let mid_spells = all_append S f.front f.rest (all_head S f.front (x ∷ f.rest) own) (all_tail S f.front (x ∷ f.rest) own).1 in
        let whole : front ++ rest ≡ l ++ (mid ++ r) = (λ i. f.first i ++ f.last i) ∙ append_assoc l f.front (f.rest ++ r) ∙ ap (λ z. l ++ z) (sym (append_assoc f.front f.rest r)) in (
          t,
          m.0,
          m.1,
          (λ answered. m.2 (inner m.0 (to t) l mid r (all_append S l (mid ++ r) (spells t m.0 m.1 f.before) (all_append S mid r mid_spells (spells t m.0 m.1 f.after))) mid_spells
              (unaffected t m.0 m.1 f.before once.0) (unaffected t m.0 m.1 f.after once.1) (subst (λ z. IsAnswered (h ++ z) (to t) m.0) whole answered))),
          f.front,
          f.rest,
          f.whole,
        )

-- ==== the entries for any contacts

-- those for one old email have it
pub old_email_is : (shared : List Text) (h : List Mapping) (to : Contact) (t : Text) (cs : List Contact) → AllByRecursion (λ x. folded x.old_email ≡ t) (entries_for_email shared (alike h) to (of_old_email t cs))
old_email_is shared h to t cs = each_for_email (λ x. folded x.old_email ≡ t) to shared (alike h) (of_old_email t cs) (each (OfForms (λ x. folded x.old_email ≡ t) to shared (alike h)) (of_old_email t cs)
    (λ b j. let same = sym (same_bytes t (folded b.email) (from_filter (λ d. bytes_eq t (folded d.email)) cs b j).1) in ((λ _. ((λ _ fits. fits ∙ same), same)), same)))

from_contacts : (shared : List Text) (h : List Mapping) → AllByRecursion HasNoEmptyName h → (to : Contact) (cs : List Contact) → AllByRecursion (IsWanting h to) cs
    → ((b c : Contact) → b ∈ cs → c ∈ cs → SpellAlike shared h b c) → (front rest : List Mapping) (x : Mapping) → entries_to shared (alike h) to cs ≡ front ++ x ∷ rest
    → (c : Contact) × (c ∈ cs) × (folded c.email ≡ folded x.old_email) × (IsAnswered (h ++ (front ++ rest)) to c → ⊥)
from_contacts shared h named to cs wants alike_spelled front rest x is =
    let m = from_parts shared h each_email (λ _. to) (λ t c. c ∈ of_old_email t cs) apart x each_missed (map (λ c. folded c.email) cs) front rest is in
    let found = of_cs m.0 m.1 m.2 in
    let email = (all_tail (λ x. folded x.old_email ≡ m.0) m.4 (x ∷ m.5) (subst (AllByRecursion (λ x. folded x.old_email ≡ m.0)) m.6 (old_email_is shared h to m.0 cs))).0 in
    (m.1, found.0, sym found.1 ∙ sym email, m.3)
  where
    each_email : Text → List Mapping
    each_email t = entries_for_email shared (alike h) to (of_old_email t cs)

    of_cs : (t : Text) (c : Contact) → c ∈ of_old_email t cs → (c ∈ cs) × (t ≡ folded c.email)
    of_cs t c i = let found = from_filter (λ d. bytes_eq t (folded d.email)) cs c i in (found.0, same_bytes t (folded c.email) found.1)

    apart : (t : Text) (c : Contact) → c ∈ of_old_email t cs → (s : Text) → AllByRecursion (λ x. SpellsAs shared h c x × (affects shared h c x ≡ true → s ≡ t)) (each_email s)
    apart t c i s = each_for_email (λ x. SpellsAs shared h c x × (affects shared h c x ≡ true → s ≡ t)) to shared (alike h) (of_old_email s cs)
        (each _ (of_old_email s cs) (λ b j.
        let this = of_cs t c i in
        let that = of_cs s b j in
        both_forms (SpellsAs shared h c) (λ x. affects shared h c x ≡ true → s ≡ t) to shared (alike h) b (forms_spelled shared h to b c (alike_spelled b c that.0 this.0))
        (forms_linked shared h to b c (s ≡ t) (λ touches. that.1 ∙ touched_email shared h b c touches ∙ sym this.1))))

    each_missed : (t : Text) (front rest : List Mapping) → each_email t ≡ front ++ x ∷ rest → (c : Contact) × (c ∈ of_old_email t cs) × (IsAnswered (h ++ (front ++ rest)) to c → ⊥)
    each_missed t front rest = from_email shared h named to t (of_old_email t cs) (of_email_all (IsWanting h to) cs t wants) (λ b c i j. alike_spelled b c (of_cs t b i).0 (of_cs t c j).0) front rest x

-- ==== the entries of all groups

module _ (shared : List Text) (base h : List Mapping) (ts : List Tally) (class : Contact → Text) (out : Contact → Bool) (named : AllByRecursion HasNoEmptyName base)
    (wants : (t : Text) → AllByRecursion (IsWanting base (wanted shared base h ts class t)) (group shared base h ts class t))
    (together : (b c : Contact) → b ∈ contacts ts → c ∈ contacts ts → out c ≡ false → Touches shared base b c → text shared base h ts class b ≡ text shared base h ts class c)
    (alike_spelled : (b c : Contact) → b ∈ contacts ts → c ∈ contacts ts → text shared base h ts class b ≢ [] → SpellAlike shared base b c) where
  abbrev on : Text → Bool
  on = is_active shared base h ts class

  abbrev to : Text → Contact
  to = wanted shared base h ts class

  abbrev those : Text → List Contact
  those = group shared base h ts class

  abbrev InBlock : Text → Contact → Type 0
  InBlock t c = (c ∈ those t) × (on t ≡ true) × (out c ≡ false)

  of_block : (t : Text) (c : Contact) → c ∈ those t → (c ∈ contacts ts) × (text shared base h ts class c ≡ t)
  of_block t c i = from_group shared base h ts class t c i

  apart_blocks : (t : Text) (c : Contact) → InBlock t c → (s : Text) → AllByRecursion (λ x. SpellsAs shared base c x × (affects shared base c x ≡ true → s ≡ t)) (part shared base h ts class s)
  apart_blocks t c b s =
      let found = of_block t c b.0 in
      all_weaker (part shared base h ts class s) (λ x a. (a.0, λ yes. a.1 yes ∙ found.1)) (alone shared base h ts class out named wants together alike_spelled c found.0 b.2 s)

  -- an entry with the old email of contacts that aren't left out
  module _ (x : Mapping) (counted : (c : Contact) → c ∈ contacts ts → folded c.email ≡ folded x.old_email → out c ≡ false) where
    each_block : (t : Text) (front rest : List Mapping) → part shared base h ts class t ≡ front ++ x ∷ rest → (c : Contact) × InBlock t c × (IsAnswered (base ++ (front ++ rest)) (to t) c → ⊥)
    each_block t front rest is = by (on t) refl
      where
        by : (b : Bool) → on t ≡ b → (c : Contact) × InBlock t c × (IsAnswered (base ++ (front ++ rest)) (to t) c → ⊥)
        by false off = absurd (none_split front rest x (sym (part_off shared base h ts class t off) ∙ is))
        by true is_on =
            let some = active_some shared base h ts class t is_on in
            let m = from_contacts shared base named (to t) (those t) (wants t)
            (λ b c i j. let found = of_block t b i in alike_spelled b c found.0 (of_block t c j).0 (λ none. some (sym found.1 ∙ none)))
            front rest x (sym (part_on shared base h ts class t is_on) ∙ is) in
            (m.0, (m.1, is_on, counted m.0 (of_block t m.0 m.1).0 m.2), m.3)

    needed : (front rest : List Mapping) → flat_map (part shared base h ts class) (distinct (all_texts shared base h ts class)) ≡ front ++ x ∷ rest
        → GetProperWith (record { shared = shared; tallies = ts; class = class; base = alike base; grouped = alike h }) x (base ++ (front ++ rest)) → ⊥
    needed front rest is all =
        let m = from_parts shared base (part shared base h ts class) to InBlock apart_blocks x each_block (all_texts shared base h ts class) front rest is in
        let t = m.0 in
        let c = m.1 in
        let found = of_block t c m.2.0 in
        let active : on (text shared base h ts class c) ≡ true = ap on found.1 ∙ m.2.1 in
        let has : Contains (lines shared base h ts class t) x = subst (λ xs. Contains xs x) (sym m.6 ∙ part_on shared base h ts class t m.2.1) (in_middle m.4 m.5 x) in
        let among : Contains (lines shared base h ts class (text shared base h ts class c)) x = subst (λ k. Contains (lines shared base h ts class k) x) (sym found.1) has in
        let answered = at _ (contacts ts) all c found.0 (has_entries_is shared base h ts class c ∙ active) among in
        m.3 (subst (λ k. IsAnswered (base ++ (front ++ rest)) (to k) c) found.1 answered)

  pub each_needed : EachNeeded out (record { shared = shared; tallies = ts; class = class; base = alike base; grouped = alike h })
  each_needed front rest x is counted all = needed x (at _ (contacts ts) counted) front rest (sym (added_are shared base h ts class) ∙ is) all

-- ==== by email, by names, and by logins

module _ (shared : List Text) (h : List Mapping) (ts : List Tally) (named : AllByRecursion HasNoEmptyName h) where
  pub needed_emails : EachNeeded never (record { shared = shared; tallies = ts; class = email_class shared; base = alike h; grouped = alike h })
  needed_emails = each_needed shared h h ts (email_class shared) never named (λ t. proper_wanting shared h (these shared h h ts (email_class shared) t)) (email_together shared h ts named) (email_spell shared h ts named)

  abbrev g : List Mapping
  g = with_emails shared h ts

  module _ (class : Contact → Text) (careful : IsCareful shared class never g ts) where
    pub needed_names : (p : Text → Bool) → EachNeeded (cut_for_names shared h ts named class careful p) (record { shared = shared; tallies = ts; class = only p class; base = alike g; grouped = alike g })
    needed_names p = each_needed shared g g ts (only p class) (cut_for_names shared h ts named class careful p) (emails_named shared h ts named) (λ t. proper_wanting shared g (these shared g g ts (only p class) t))
        (together_for shared h ts named class careful p) (spell shared h ts named class careful p)

    abbrev f : List Mapping
    f = with_classes shared class g ts

    pub needed_logins : ((c : Contact) → c ∈ contacts ts → (answer_to g c).name ≡ [] → class (answer_to g c) ≡ []) → (next : Contact → Text) (also : IsCareful shared next (cut_before shared h ts named class careful) f ts) (p : Text → Bool)
        → EachNeeded (cut_for_next shared h ts named class careful next also p) (record { shared = shared; tallies = ts; class = only p next; base = alike g; grouped = alike f })
    needed_logins unnamed next also p = each_needed shared g f ts (only p next) (cut_for_next shared h ts named class careful next also p) (emails_named shared h ts named) (next_wants shared h ts named class careful unnamed (only p next))
        (next_for shared h ts named class careful next also p)
        (λ b c i j some. next_spell shared h ts named class careful next also b c i j (only_some p (next (answer_to f b)) some).1)
