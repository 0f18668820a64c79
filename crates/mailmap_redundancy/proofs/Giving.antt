-- The origins of an answer determine it, it needs no other entry, and they move with their entries.
use Rattle.std.proofs.Common.{rules, ◌≡◌, Bool, true, false, true≢false, cond, List, [], ◌∷◌, ◌++◌, map, filter, Option, Some, None, IfSome, is_some, unwrap_or, option_to_list, refl, sym, ap, ◌∙◌, if◌then◌else◌, option_map, arith}
use Rattle.std.specs.List.{AllByRecursion}
use Rattle.std.proofs.lemmas.Map.Text.{is_eq-slice_cmp}
use Rattle.mailmap_entries.proofs.Parts.{filter-map, option_map-or, is_some-option_map, last_of_one}
use Rattle.std.specs.Option.{option_and_then, option_map, option_or}
use Rattle.std.specs.Ordering.{eq_by_cmp}
use Rattle.std.proofs.lemmas.List.Elements.{All-filter, All-from_recursion, recursion_from_All}
use Rattle.mailmap_entries.specs.Entries.{Mapping}
use Rattle.mailmap_entries.specs.Folding.{Text, folded, text_cmp}
use Rattle.mailmap_entries.specs.Semantics.{Fields, Key, fields_with_spelling, first, is_accepted, key, key_cmp, given_fields, last, last_fields, last_given, new_fields, of_email, respelled, answer_of, spelling, unless_empty}
use Rattle.mailmap_entries.specs.Alike.{Alike}
use Rattle.mailmap_redundancy.specs.Origins.{entries_of_email, git_answer_from, git_given, given, origins, last_or_all, last_with, needed, those_that_count, with_spelling, Origins}
use Rattle.mailmap_redundancy.specs.Redundancy.{AreEffective, LocatedMapping, entries, entries_of_key}
use Rattle.mailmap_redundancy.proofs.Kept.{located_email, located_key, effective_accepted, effective_alike, effective_answer}
use Rattle.mailmap_redundancy.proofs.Numbered.{by_cases}
use Rattle.mailmap_redundancy.proofs.Redundant.{given_last, last_is, last_passes, none_of_key}
use Rattle.mailmap_redundancy.specs.declared.located.Position.{Position}
use Rattle.mailmap_entries.proofs.Joined.{last-map, first-map}

-- ---- the first and the last of a list

first_is : {X : Type 0} (P : X → Type 0) (xs : List X) → AllByRecursion P xs → IfSome (first xs) P
first_is P [] all = tt
first_is P (x ∷ xs) all = all.0

gives : (f : Mapping → Option Text) (xs : List LocatedMapping)
    → is_some (last_with f xs) ≡ is_some (option_and_then (λ x. f x.entry) (last_with f xs))
gives f xs = let does = last_passes (λ x. is_some (f x.entry)) xs in grind (arith, does)

-- ---- the fields of the origins are the answer

-- the fields that the counting entries set
abbrev fields_that_count : List LocatedMapping → Fields
fields_that_count xs = record {
  name = option_and_then (λ x. x.entry.new_name) (last_with (λ e. e.new_name) xs);
  email = option_and_then (λ x. x.entry.new_email) (last_with (λ e. e.new_email) xs);
}

count : (o : Option LocatedMapping) (others : List LocatedMapping)
    → unwrap_or (option_map new_fields (option_map (λ x. x.entry) o)) (record { name = last_given (λ e. e.new_name) (entries others); email = last_given (λ e. e.new_email) (entries others) }) ≡ fields_that_count (last_or_all o others)
count None others = search (rules, given_last)
count (Some x) others = grind (arith, last_of_one, given_last)

first_of_two : {X : Type 0} (o p q : Option X) → true ≡ is_some o → option_or o p ≡ option_or o q
first_of_two None p q some = absurd (true≢false some)
first_of_two (Some x) p q _ = refl

-- the first entry's spelling counts if no entry sets an email
spelled : (email : Text) (name : Option Text) (origin head : Option LocatedMapping)
    → is_some origin ≡ is_some (option_and_then (λ x. x.entry.new_email) origin) → (head ≡ None
    → (name ≡ None) × (origin ≡ None))
    → fields_with_spelling email (record { name = name; email = option_and_then (λ x. x.entry.new_email) origin }) (option_map (λ e. e.old_email) (option_map (λ x. x.entry) head))
    ≡ unless_empty (record {
      name = name;
      email = option_or (option_and_then (λ x. x.entry.new_email) origin) (option_and_then (λ x. respelled x.entry.old_email email) (cond (is_some origin) None head));
    })
spelled email name origin None _ nobody = grind (arith, nobody)
spelled email name None (Some x) _ _ = refl
spelled email name (Some y) (Some x) does _ = grind (arith, first_of_two)

-- the entries that count say which these are
fields_count : (kept : List LocatedMapping) (name email : Text) → AllByRecursion (λ x. is_accepted x.entry ≡ true) kept
    → unwrap_or (last_fields (entries kept) (folded email, Some (folded name))) (given_fields (entries kept) (folded email)) ≡ fields_that_count (those_that_count kept name email)
fields_count kept name email all = grind (arith, located_key, last-map, count)

head_is : (kept : List LocatedMapping) (email : Text) → AllByRecursion (λ x. is_accepted x.entry ≡ true) kept
    → first (of_email (entries kept) email) ≡ option_map (λ x. x.entry) (first (entries_of_email kept email))
head_is kept email all = search (rules, first-map, located_email, all)

pub origins_answer : (kept : List LocatedMapping) (name email : Text)
    → AllByRecursion (λ x. is_accepted x.entry ≡ true) kept
    → answer_of (entries kept) name email ≡ given (origins kept name email) email
origins_answer kept name email all = search (rules, fields_count, gives, head_is, none_of_key, spelled)

pub effective_origins : (xs kept : List LocatedMapping) (name email : Text) → AreEffective xs kept
    → given (origins kept name email) email ≡ answer_of (entries xs) name email
effective_origins xs kept name email s = sym (origins_answer kept name email (effective_accepted xs kept s)) ∙ effective_answer xs kept name email s

-- ---- git's answer, and which entries there are

-- alike entries have the same answers by git
pub same_git_answer : (h g : List Mapping) (name email : Text) → Alike h g
    → git_answer_from h name email ≡ git_answer_from g name email
same_git_answer h g name email a = search (rules)

module _ (xs kept : List LocatedMapping) (s : AreEffective xs kept) where
  pub effective_git : (name email : Text)
      → git_given (origins kept name email) ≡ git_answer_from (entries xs) name email
  effective_git name email = sym (ap unless_empty (fields_count kept name email (effective_accepted xs kept s)))
      ∙ same_git_answer (entries kept) (entries xs) name email (effective_alike xs kept s)

  pub effective_last : (email name : Text)
      → is_some (last (entries_of_key kept (email, Some name))) ≡ is_some (last_fields (entries xs) (email, Some name))
  effective_last email name = grind (arith, located_key, effective_accepted, last-map, is_some-option_map, effective_alike)

  pub effective_first : (email : Text)
      → is_some (first (entries_of_email kept email)) ≡ is_some (spelling (entries xs) email)
  effective_first email = grind (arith, is_some-option_map, head_is, effective_accepted, effective_alike)

-- ---- the answer needs no other entry

module _ {X : Type 0} (p : X → Bool) where
  last_left : (xs : List X) → IfSome (last xs) (λ x. p x ≡ true) → last (filter p xs) ≡ last xs
  last_left [] _ = refl
  last_left (x ∷ xs) left = search (rules, (last_left xs))

  first_left : (xs : List X) → IfSome (first xs) (λ x. p x ≡ true) → first (filter p xs) ≡ first xs
  first_left [] _ = refl
  first_left (x ∷ xs) left = ap (λ b. first (cond b (x ∷ filter p xs) (filter p xs))) left

  filter_swapped : (q : X → Bool) (xs : List X) → filter q (filter p xs) ≡ filter p (filter q xs)
  filter_swapped q [] = refl
  filter_swapped q (x ∷ xs) = grind (arith, filter_swapped q xs)

pub all_filter : {X : Type 0} (P : X → Type 0) (q : X → Bool) (xs : List X) → AllByRecursion P xs
    → AllByRecursion P (filter q xs)
all_filter P q xs a = recursion_from_All P (filter q xs) (All-filter q P xs (All-from_recursion P xs a))

needed_are : {X : Type 0} (P : X → Type 0) (a b c : Option X)
    → AllByRecursion P ((option_to_list a ++ option_to_list b) ++ option_to_list c)
    → IfSome a P × IfSome b P × IfSome c P
needed_are P a b c all = search rules

module _ (p : LocatedMapping → Bool) (kept : List LocatedMapping) (name email : Text) where
  abbrev Passes : LocatedMapping → Type 0
  Passes x = p x ≡ true

  -- dropping entries that aren't needed keeps the last one that sets a field
  with_left : (f : Mapping → Option Text) (o : Option LocatedMapping) (others : List LocatedMapping)
      → IfSome (last_with f (last_or_all o others)) Passes
      → last_with f (last_or_all o (filter p others)) ≡ last_with f (last_or_all o others)
  with_left f None others left = search (rules, filter_swapped, last_left)
  with_left f (Some x) others _ = refl

  -- an accepted entry that alone counts sets a field, so it is needed
  alone : (x : LocatedMapping) → is_accepted x.entry ≡ true → IfSome (last_with (λ e. e.new_name) (x ∷ [])) Passes
      → IfSome (last_with (λ e. e.new_email) (x ∷ [])) Passes → p x ≡ true
  alone x good by_name by_email = grind (arith, by_cases)

  named_left : (o : Option LocatedMapping) (others : List LocatedMapping) → IfSome o (λ x. is_accepted x.entry ≡ true)
      → IfSome (last_with (λ e. e.new_name) (last_or_all o others)) Passes
      → IfSome (last_with (λ e. e.new_email) (last_or_all o others)) Passes → IfSome o Passes
  named_left None others _ _ _ = tt
  named_left (Some x) others good by_name by_email = alone x good by_name by_email

  with_spelling_left : (n g : Option LocatedMapping) (l : List LocatedMapping)
      → IfSome (with_spelling n g (first l)).spelling Passes
      → with_spelling n g (first (filter p l)) ≡ with_spelling n g (first l)
  with_spelling_left n None l left = ap (with_spelling n None) (first_left p l left)
  with_spelling_left n (Some x) l _ = refl

  pub origins_left : AllByRecursion (λ x. is_accepted x.entry ≡ true) kept
      → AllByRecursion Passes (needed (origins kept name email))
      → origins (filter p kept) name email ≡ origins kept name email
  origins_left all left =
      let g = origins kept name email in
      let named : List LocatedMapping = entries_of_key kept (folded email, Some (folded name)) in
      let o = last named in
      let others = entries_of_key kept (folded email, None) in
      let parts = needed_are Passes g.name g.email g.spelling left in
      let accepted_last = last_is (λ x. is_accepted x.entry ≡ true) named (all_filter (λ x. is_accepted x.entry ≡ true)
      (λ x. eq_by_cmp key_cmp (folded email, Some (folded name)) (key x.entry)) kept all) in
      let last_named = last_left p named (named_left o others accepted_last parts.0 parts.1) in
      let by_name = with_left (λ e. e.new_name) o others parts.0 in
      let by_email = with_left (λ e. e.new_email) o others parts.1 in
      let spelled = with_spelling_left g.name g.email (entries_of_email kept (folded email)) parts.2 in
      search (rules, filter_swapped)

-- the answer from the needed entries alone
pub needed_answer : (p : LocatedMapping → Bool) (xs kept : List LocatedMapping) (name email : Text)
    → AreEffective xs kept → AllByRecursion (λ x. p x ≡ true) (needed (origins kept name email))
    → answer_of (entries (filter p kept)) name email ≡ answer_of (entries xs) name email
needed_answer p xs kept name email s left = search (rules, all_filter, origins_answer, origins_left, effective_accepted, effective_origins)

-- ---- entries at other positions

abbrev pub moved_entry : (Position → Position) → LocatedMapping → LocatedMapping
moved_entry move x = record { position = move x.position; entry = x.entry }

module _ (move : Position → Position) where
  abbrev mv : LocatedMapping → LocatedMapping
  mv = moved_entry move

  key-moved : (xs : List LocatedMapping) (k : Key) → entries_of_key (map mv xs) k ≡ map mv (entries_of_key xs k)
  key-moved xs k = filter-map (λ x. eq_by_cmp key_cmp k (key x.entry)) mv xs

  email-moved : (xs : List LocatedMapping) (email : Text)
      → entries_of_email (map mv xs) email ≡ map mv (entries_of_email xs email)
  email-moved xs email = filter-map (λ x. eq_by_cmp text_cmp email (folded x.entry.old_email)) mv xs

  with-moved : (field : Mapping → Option Text) (xs : List LocatedMapping)
      → last_with field (map mv xs) ≡ option_map mv (last_with field xs)
  with-moved field xs = search (rules, filter-map, last-map)

  all-moved : (o : Option LocatedMapping) (xs : List LocatedMapping)
      → last_or_all (option_map mv o) (map mv xs) ≡ map mv (last_or_all o xs)
  all-moved None xs = refl
  all-moved (Some x) xs = refl

  those-moved : (xs : List LocatedMapping) (name email : Text)
      → those_that_count (map mv xs) name email ≡ map mv (those_that_count xs name email)
  those-moved xs name email = grind (arith, key-moved, last-map, all-moved)

  abbrev pub moved_origins : Origins → Origins
  moved_origins g = record { name = option_map mv g.name; email = option_map mv g.email; spelling = option_map mv g.spelling }

  spelling-moved : (name email first : Option LocatedMapping)
      → with_spelling (option_map mv name) (option_map mv email) (option_map mv first) ≡ moved_origins (with_spelling name email first)
  spelling-moved name None first = refl
  spelling-moved name (Some x) first = refl

  pub origins-moved : (xs : List LocatedMapping) (name email : Text)
      → origins (map mv xs) name email ≡ moved_origins (origins xs name email)
  origins-moved xs name email = grind (arith, email-moved, first-map, those-moved, with-moved, spelling-moved)

-- ---- the entries behind an answer are among those that it is made of

module _ (P : LocatedMapping → Type 0) where
  either : (o : Option LocatedMapping) (xs : List LocatedMapping) → IfSome o P → AllByRecursion P xs
      → AllByRecursion P (last_or_all o xs)
  either None xs is all = all
  either (Some x) xs is all = (is, tt)

  those_are : (xs : List LocatedMapping) (name email : Text) → AllByRecursion P xs
      → AllByRecursion P (those_that_count xs name email)
  those_are xs name email all = grind (arith, either, last_is, all_filter)

  abbrev pub AreOf : Origins → Type 0
  AreOf g = IfSome g.name P × IfSome g.email P × IfSome g.spelling P

  spelling_is : (email first : Option LocatedMapping) → IfSome first P
      → IfSome (if is_some email then None else first) P
  spelling_is None first is = is
  spelling_is (Some x) first is = tt

  pub origins_are : (xs : List LocatedMapping) (name email : Text) → AllByRecursion P xs → AreOf (origins xs name email)
  origins_are xs name email all = grind (arith, those_are, last_is, all_filter, spelling_is, first_is)

pub ruleset equal_texts = (is_eq-slice_cmp, refl)

pub ruleset joined_options = (option_map-or, refl)
