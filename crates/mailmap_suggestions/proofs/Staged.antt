-- The entries of suggestions, stage by stage.
use Rattle.std.proofs.Common.{◌≡◌, ◌≢◌, ◌∙◌, ◌&&◌, ◌++◌, Bool, true, false, not, List, [], ◌∷◌, ap, bytes_eq, filter, flat_map, if◌then◌else◌, map, refl, subst, sym, true≢false}
use Rattle.std.specs.List.{AllByRecursion, list_any}
use Rattle.std.proofs.lemmas.List.Elements.{filter_agree}
use Rattle.std.proofs.lemmas.List.Folds.{flat_map-map}
use Rattle.std.proofs.lemmas.Simd.{map-map}
use Rattle.mailmap_entries.specs.Entries.{Mapping}
use Rattle.mailmap_entries.specs.Folding.{Text, folded}
use Rattle.mailmap_entries.specs.Semantics.{accepted}
use Rattle.mailmap_entries.proofs.Parts.{all_weaker, filter-filter}
use Rattle.mailmap_contacts.specs.Contacts.{Contact, Tally, answer_to}
use Rattle.mailmap_contacts.proofs.Steps.{all_filtered}
use Rattle.std.proofs.lemmas.Grind.{flat_map-append}
use Rattle.mailmap_suggestions.specs.Forms.{Histories, distinct, is_shared, plus}
use Rattle.mailmap_suggestions.specs.GroupEntries.{are_alike, are_cut, classes, contacts, email_class, email_entries, group_entries, groups, members, wanted_entries}
use Rattle.mailmap_suggestions.specs.Suggestions.{AreGroupClasses, GroupClasses, Kind, Suggestion, after_emails, after_all_names, by_alike_names, by_email, by_name, by_shared_email, email_key, email_kind, email_suggestions, first_answer, have_one_name, is_of_several, login_suggestions, name_kind, name_suggestions, still_suggested, suggestion, suggestions}
use Rattle.mailmap_suggestions.specs.Stages.{AreByLogin, AreByName, added}
use Rattle.mailmap_suggestions.proofs.Distinct.{all_of, same_bytes, somes}
use Rattle.mailmap_suggestions.proofs.Forms.{groups_accepted}

-- ---- lists

flat_filtered : {X Y : Type 0} (f : X → List Y) (p : X → Bool) (xs : List X) → flat_map f (filter p xs) ≡ flat_map (λ x. if p x then f x else []) xs
flat_filtered f p [] = refl
flat_filtered f p (x ∷ xs) = elim (p x) as (λ b. flat_map f (if b then x ∷ filter p xs else filter p xs) ≡ (if b then f x else []) ++ flat_map (λ y. if p y then f y else []) xs)
    [ true ↦ ap (λ l. f x ++ l) (flat_filtered f p xs) | false ↦ flat_filtered f p xs ]

flat_agree : {X Y : Type 0} (f g : X → List Y) (xs : List X) → AllByRecursion (λ x. f x ≡ g x) xs → flat_map f xs ≡ flat_map g xs
flat_agree f g [] all = refl
flat_agree f g (x ∷ xs) all = λ i. all.0 i ++ flat_agree f g xs all.1 i

and_swap : (a b : Bool) → (a && b) ≡ (b && a)
and_swap true true = refl
and_swap true false = refl
and_swap false true = refl
and_swap false false = refl

filter_swap : (p q : Text → Bool) (xs : List Text) → filter p (filter q xs) ≡ filter q (filter p xs)
filter_swap p q xs = filter-filter p q xs ∙ filter_agree (λ x. q x && p x) (λ x. p x && q x) (λ x. and_swap (q x) (p x)) xs ∙ sym (filter-filter q p xs)

filter_distinct : (p : Text → Bool) (xs : List Text) → distinct (filter p xs) ≡ filter p (distinct xs)
filter_distinct p [] = refl
filter_distinct p (x ∷ xs) = elim (p x) as (λ b. p x ≡ b → distinct (if b then x ∷ filter p xs else filter p xs) ≡ (if b then x ∷ filter p others else filter p others)) [
  | true ↦ λ _. ap (λ l. x ∷ filter (λ y. not (bytes_eq x y)) l) (filter_distinct p xs) ∙ ap (λ l. x ∷ l) (filter_swap (λ y. not (bytes_eq x y)) p (distinct xs))
  | false ↦ λ missed. filter_distinct p xs ∙ sym (filter-filter p (λ y. not (bytes_eq x y)) (distinct xs) ∙ filter_agree (λ y. not (bytes_eq x y) && p y) p (kept missed) (distinct xs))
] refl
  where
    others : List Text
    others = filter (λ y. not (bytes_eq x y)) (distinct xs)

    kept : p x ≡ false → (y : Text) → (not (bytes_eq x y) && p y) ≡ p y
    kept missed y = elim (bytes_eq x y) as (λ b. bytes_eq x y ≡ b → (not b && p y) ≡ p y) [ true ↦ λ same. sym (ap p (sym (same_bytes x y same)) ∙ missed) | false ↦ λ _. refl ] refl

-- ---- emails that one person has

-- a folded email that several people don't share
abbrev single : List Text → Text → Bool
single shared k = not (list_any (bytes_eq k) shared)

abbrev unless_shared : List Text → Text → Text
unless_shared shared t = if list_any (bytes_eq t) shared then [] else t

abbrev has : Text → Bool
has t = not (bytes_eq t [])

class_texts : (shared texts : List Text) → filter has (map (unless_shared shared) texts) ≡ filter (single shared) (filter has texts)
class_texts shared [] = refl
class_texts shared (t ∷ ts) = by (class_texts shared ts) (list_any (bytes_eq t) shared) refl
  where
    with_first : Bool → List Text
    with_first b = if not b then t ∷ filter (single shared) (filter has ts) else filter (single shared) (filter has ts)

    by : filter has (map (unless_shared shared) ts) ≡ filter (single shared) (filter has ts) → (b : Bool) → list_any (bytes_eq t) shared ≡ b
        → filter has ((if b then [] else t) ∷ map (unless_shared shared) ts) ≡ filter (single shared) (filter has (t ∷ ts))
    by rest true is = elim (has t) as (λ c. filter has (map (unless_shared shared) ts) ≡ filter (single shared) (if c then t ∷ filter has ts else filter has ts))
        [ true ↦ rest ∙ ap with_first (sym is) | false ↦ rest ]
    by rest false is = elim (has t) as (λ c. (if c then t ∷ filter has (map (unless_shared shared) ts) else filter has (map (unless_shared shared) ts)) ≡ filter (single shared) (if c then t ∷ filter has ts else filter has ts))
        [ true ↦ ap (λ l. t ∷ l) rest ∙ ap with_first (sym is) | false ↦ rest ]

not_empty : (k : Text) → k ≢ [] → bytes_eq k [] ≡ false
not_empty [] some = absurd (some refl)
not_empty (b ∷ k) some = refl

member_same : (shared : List Text) (k t : Text) → k ≢ [] → single shared k ≡ true → bytes_eq k (unless_shared shared t) ≡ bytes_eq k t
member_same shared k t some passes = by (list_any (bytes_eq t) shared) refl
  where
    by : (b : Bool) → list_any (bytes_eq t) shared ≡ b → bytes_eq k (if b then [] else t) ≡ bytes_eq k t
    by true is = elim (bytes_eq k t) as (λ c. bytes_eq k t ≡ c → bytes_eq k [] ≡ c) [
      | true ↦ λ same. absurd (true≢false (sym passes ∙ ap (λ e. not (list_any (bytes_eq e) shared)) (same_bytes k t same) ∙ ap not is))
      | false ↦ λ _. not_empty k some
    ] refl
    by false is = refl

-- ---- the entries for emails

module _ (shared : List Text) (h : Histories) (ts : List Tally) where
  abbrev email_of : Tally → Text
  email_of t = folded (answer_to h.ours t.contact).email

  abbrev unlike : List Tally → Bool
  unlike g = not (are_alike h (contacts g))

  -- of a suggestion of this kind
  abbrev of_kind : List Tally → Kind → List Mapping
  of_kind g kind = (suggestion shared h h kind g).entries

  abbrev suggested : List Tally → List Mapping
  suggested g = if unlike g then of_kind g (email_kind shared h g) else []

  abbrev wanted : List Tally → List Mapping
  wanted g = if unlike g then group_entries shared h h g else []

  email_classes : classes (email_class shared) h (contacts ts) ≡ filter (single shared) (classes email_key h (contacts ts))
  email_classes =
      let of_contact : Contact → Text = λ c. folded (answer_to h.ours c).email in
      ap (λ l. distinct (filter has l)) (sym (map-map (unless_shared shared) of_contact (contacts ts)))
      ∙ ap distinct (class_texts shared (map of_contact (contacts ts))) ∙ filter_distinct (single shared) (filter has (map of_contact (contacts ts)))

  of_group : (k : Text) (g : List Tally) → AllByRecursion (λ t. bytes_eq k (email_of t) ≡ true) g → suggested g ≡ (if single shared k then wanted g else [])
  of_group k [] all = elim (single shared k) as (λ b. [] ≡ (if b then wanted [] else [])) [ true ↦ refl | false ↦ refl ]
  of_group k (t ∷ us) all =
      let g = t ∷ us in
      let email = (answer_to h.ours t.contact).email in
      (elim (list_any (bytes_eq (email_of t)) shared) as (λ b. (if unlike g then of_kind g (if b then by_shared_email email else by_email) else []) ≡ (if not b then wanted g else [])) [
        | true ↦ let none : List Mapping = [] in elim (unlike g) as (λ u. (if u then none else none) ≡ none) [ true ↦ refl | false ↦ refl ]
        | false ↦ refl
      ]) ∙ ap (λ e. if single shared e then wanted g else []) (sym (same_bytes k (email_of t) all.0))

  have_key : (k : Text) → AllByRecursion (λ t. bytes_eq k (email_of t) ≡ true) (members email_key h ts k)
  have_key k = all_filtered (λ t. bytes_eq k (email_of t)) (λ t. Unit {0}) (λ t. bytes_eq k (email_of t) ≡ true) (λ t _ passes. passes) ts (all_of (λ t. Unit {0}) (λ t. tt) ts)

  for_key : (k : Text) → k ≢ [] → suggested (members email_key h ts k) ≡ (if single shared k then wanted (members (email_class shared) h ts k) else [])
  for_key k some = of_group k (members email_key h ts k) (have_key k) ∙ by (single shared k) refl
    where
      by : (b : Bool) → single shared k ≡ b → (if b then wanted (members email_key h ts k) else []) ≡ (if b then wanted (members (email_class shared) h ts k) else [])
      by true passes = ap wanted (sym (filter_agree (λ t. bytes_eq k (unless_shared shared (email_of t))) (λ t. bytes_eq k (email_of t)) (λ t. member_same shared k (email_of t) some passes) ts))
      by false _ = refl

  pub emails_suggested : flat_map (λ s. s.entries) (email_suggestions shared h ts) ≡ email_entries shared h ts
  emails_suggested =
      let keys = classes email_key h (contacts ts) in
      flat_map-map (λ (s : Suggestion). s.entries) (λ g. suggestion shared h h (email_kind shared h g) g) (groups email_key h ts)
      ∙ flat_filtered (λ g. of_kind g (email_kind shared h g)) unlike (map (members email_key h ts) keys)
      ∙ flat_map-map suggested (members email_key h ts) keys
      ∙ flat_agree (λ k. suggested (members email_key h ts k)) (λ k. if single shared k then wanted (members (email_class shared) h ts k) else []) keys
      (all_weaker keys for_key (somes (map (λ (c : Contact). folded (answer_to h.ours c).email) (contacts ts))))
      ∙ sym (flat_filtered (λ k. wanted (members (email_class shared) h ts k)) (single shared) keys)
      ∙ ap (flat_map (λ k. wanted (members (email_class shared) h ts k))) (sym email_classes)
      ∙ sym (flat_map-map wanted (members (email_class shared) h ts) (classes (email_class shared) h (contacts ts)))
      ∙ sym (flat_filtered (group_entries shared h h) unlike (map (members (email_class shared) h ts) (classes (email_class shared) h (contacts ts))))

  -- when these are added
  pub emails_added : plus h (accepted (flat_map (λ s. s.entries) (email_suggestions shared h ts))) ≡ after_emails shared h ts
  emails_added = ap (λ l. plus h (accepted l)) emails_suggested ∙ ap (plus h) (groups_accepted shared h h (groups (email_class shared) h ts))

-- ---- the entries for names

one_person : (h : Histories) (g : List Tally) → is_of_several (name_kind h g) ≡ false
one_person h g = elim (have_one_name h g) as (λ b. is_of_several (if b then by_name else by_alike_names) ≡ false) [ true ↦ refl | false ↦ refl ]

pub names_suggested : (shared : List Text) (h : Histories) (gs : List (List Tally)) → flat_map (λ s. s.entries) (map (λ g. suggestion shared h h (name_kind h g) g) gs) ≡ flat_map (group_entries shared h h) gs
names_suggested shared h gs =
    flat_map-map (λ (s : Suggestion). s.entries) (λ g. suggestion shared h h (name_kind h g) g) gs
    ∙ flat_agree (λ g. (suggestion shared h h (name_kind h g) g).entries) (group_entries shared h h) gs (all_of _ one gs)
  where
    one : (g : List Tally) → (suggestion shared h h (name_kind h g) g).entries ≡ group_entries shared h h g
    one g = ap (λ b. let es = if b then [] else wanted_entries shared h h g in if are_cut es then [] else es) (one_person h g)

pub names_added : (shared : List Text) (c : GroupClasses) (h : Histories) (ts : List Tally) → let more = after_emails shared h ts in
    plus more (accepted (flat_map (λ s. s.entries) (name_suggestions shared c h ts))) ≡ after_all_names shared c h ts
names_added shared c h ts =
    let more = after_emails shared h ts in
    ap (λ l. plus more (accepted l)) (names_suggested shared more (groups c.by_name more ts)) ∙ ap (plus more) (groups_accepted shared more more (groups c.by_name more ts))

-- ---- all stages

emails_still : (shared lines : List Text) (h : Histories) (gs : List (List Tally)) → flat_map (still_suggested lines) (map (λ g. suggestion shared h h (email_kind shared h g) g) gs)
    ≡ map (λ g. suggestion shared h h (email_kind shared h g) g) gs
emails_still shared lines h [] = refl
emails_still shared lines h (g ∷ gs) =
    let email = (first_answer h g).email in
    let one : still_suggested lines (suggestion shared h h (email_kind shared h g) g) ≡ suggestion shared h h (email_kind shared h g) g ∷ [] =
    elim (is_shared shared email) as (λ b. still_suggested lines (suggestion shared h h (if b then by_shared_email email else by_email) g) ≡ suggestion shared h h (if b then by_shared_email email else by_email) g ∷ []) [ true ↦ refl | false ↦ refl ] in
    λ i. one i ++ emails_still shared lines h gs i

pub staged : (shared lines : List Text) (h more : Histories) (ts : List Tally) (emails names logins found : List Suggestion)
    → emails ≡ email_suggestions shared h ts → more ≡ added h emails → AreByName shared ts more names → AreByLogin shared ts more (added more names) logins
    → found ≡ (emails ++ flat_map (still_suggested lines) names) ++ flat_map (still_suggested lines) logins
    → (c : GroupClasses) × AreGroupClasses shared h ts c × (found ≡ suggestions shared c lines h ts)
staged shared lines h more ts emails names logins found emails_are more_is by_names by_logins is =
    let still : List Suggestion → List Suggestion = flat_map (still_suggested lines) in
    let after : more ≡ after_emails shared h ts = more_is ∙ ap (added h) emails_are ∙ emails_added shared h ts in
    let n = subst (λ m. AreByName shared ts m names) after by_names in
    let some : GroupClasses = record { by_name = n.0; by_login = n.0 } in
    let both : added (after_emails shared h ts) names ≡ after_all_names shared some h ts = ap (added (after_emails shared h ts)) n.2 ∙ names_added shared some h ts in
    let l = subst (λ a. AreByLogin shared ts (after_emails shared h ts) a logins) both (subst (λ m. AreByLogin shared ts m (added m names) logins) after by_logins) in
    let c : GroupClasses = record { by_name = n.0; by_login = l.0 } in
    let e = email_suggestions shared h ts in
    let ns = name_suggestions shared c h ts in
    let ls = login_suggestions shared c h ts in (
      c,
      record { by_name = n.1; by_login = l.1 },
      is ∙ (λ i. (emails_are i ++ still (n.2 i)) ++ still (l.2 i))
          ∙ ap (λ x. (x ++ still ns) ++ still ls) (sym (emails_still shared lines h (groups email_key h ts)))
          ∙ ap (λ x. x ++ still ls) (sym (flat_map-append (still_suggested lines) e ns)) ∙ sym (flat_map-append (still_suggested lines) (e ++ ns) ls),
    )
