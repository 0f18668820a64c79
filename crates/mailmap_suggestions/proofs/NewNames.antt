-- Entries that give names: who has no name with them had none without them.
use Rattle.std.proofs.Common.{◌≡◌, ◌≢◌, ◌∙◌, Bool, true, true≢false, List, [], ◌∷◌, ◌++◌, Option, None, Some, ap, bytes_eq, filter, is_some, option_map, refl, sym, unwrap_or, if◌then◌else◌}
use Rattle.std.specs.Prelude.{IfSome}
use Rattle.std.specs.List.{AllByRecursion}
use Rattle.std.specs.Option.{option_or}
use Rattle.std.proofs.lemmas.Bool.{false_from_ne_true}
use Rattle.mailmap_entries.specs.Entries.{Mapping}
use Rattle.mailmap_entries.specs.Folding.{Text, folded}
use Rattle.mailmap_entries.specs.Semantics.{Fields, accepted, given_fields, last, new_fields, of_key}
use Rattle.mailmap_entries.proofs.Parts.{all_last, all_weaker}
use Rattle.mailmap_contacts.specs.Contacts.{Contact, answer_to}
use Rattle.mailmap_contacts.proofs.Steps.{all_filtered}
use Rattle.mailmap_suggestions.specs.Forms.{Histories, name_unless_empty, own_key}
use Rattle.mailmap_suggestions.specs.GroupEntries.{HasNoEmptyName}
use Rattle.mailmap_suggestions.proofs.Appended.{OfForms, accepted_all, answer_is, given_all, given_joined, last_joined, own_fields}
use Rattle.mailmap_suggestions.proofs.Distinct.{same_bytes}

abbrev pub GivesName : Mapping → Type 0
GivesName x = (is_some x.new_name ≡ true) × HasNoEmptyName x

-- ---- the forms for an answer with a name

pub named_some : (to : Contact) → to.name ≢ [] → name_unless_empty to ≡ Some to.name
named_some to some = ap (λ b. if b then None else Some to.name) (false_from_ne_true (bytes_eq to.name []) (λ e. some (same_bytes to.name [] e)))

gives : (o : Option Text) (name : Text) → o ≡ Some name → name ≢ [] → (is_some o ≡ true) × (o ≢ Some [])
gives None name is some = absurd (none_some is)
  where
    none_some : {y : Text} → None ≡ Some y → ⊥
    none_some e = cc
gives (Some n) name is some = (refl, λ empty. some (one_name (sym is ∙ empty)))
  where
    one_name : {a b : Text} → Some a ≡ Some b → a ≡ b
    one_name e = cc

pub name_forms : (shared : List Text) (h : Histories) (to c : Contact) → to.name ≢ [] → OfForms GivesName to shared h c
name_forms shared h to c some =
    let long = gives (name_unless_empty to) to.name (named_some to some) some in
    ((λ _. ((λ _ _. gives (Some to.name) to.name refl some), long)), long)

-- ---- the name of an answer

abbrev picked : Option Fields → Option Text → Option Text
picked None name = name
picked (Some f) name = f.name

picked_is : (o : Option Fields) (r : Fields) → (unwrap_or o r).name ≡ picked o r.name
picked_is None r = refl
picked_is (Some f) r = refl

answer_name : (h : List Mapping) (c : Contact) → (answer_to h c).name ≡ unwrap_or (picked (own_fields h c) (given_fields h (folded c.email)).name) c.name
answer_name h c = ap (λ (a : Contact). a.name) (answer_is h c) ∙ ap (λ n. unwrap_or n c.name) (picked_is (own_fields h c) (given_fields h (folded c.email)))

joined_name : (h xs : List Mapping) (c : Contact) → (answer_to (h ++ xs) c).name
    ≡ unwrap_or (picked (option_or (own_fields xs c) (own_fields h c)) (option_or (given_fields xs (folded c.email)).name (given_fields h (folded c.email)).name)) c.name
joined_name h xs c = answer_name (h ++ xs) c ∙ (λ i. unwrap_or (picked (last_joined h xs (own_key c) i) (given_joined h xs (folded c.email) i).name) c.name)

lost : (o : Option Text) (n : Text) → is_some o ≡ true → o ≢ Some [] → unwrap_or o n ≡ [] → ⊥
lost None n is some e = true≢false (sym is)
lost (Some m) n is some e = some (ap Some e)

abbrev HasName : Fields → Type 0
HasName f = (is_some f.name ≡ true) × (f.name ≢ Some [])

decide : (new old : Option Fields) (given before : Option Text) (n : Text) → IfSome new HasName → IfSome given (λ m. m ≢ []) → unwrap_or (picked (option_or new old) (option_or given before)) n ≡ [] → unwrap_or (picked old before) n ≡ []
decide (Some f) old given before n has some empty = absurd (lost f.name n has.0 has.1 empty)
decide None (Some f) given before n has some empty = empty
decide None None (Some m) before n has some empty = absurd (some empty)
decide None None None before n has some empty = empty

last_gives : (l : List Mapping) → AllByRecursion GivesName l → IfSome (option_map new_fields (last l)) HasName
last_gives [] all = tt
last_gives (x ∷ xs) all = all_last GivesName x xs all.0 all.1

some_if : (o : Option Text) → o ≢ Some [] → IfSome o (λ m. m ≢ [])
some_if None some = tt
some_if (Some m) some = λ e. some (ap Some e)

pub unnamed_before : (h xs : List Mapping) (c : Contact) → AllByRecursion GivesName xs → (answer_to (h ++ xs) c).name ≡ [] → (answer_to h c).name ≡ []
unnamed_before h xs c all empty =
    let kept : (p : Mapping → Bool) → AllByRecursion GivesName (filter p (accepted xs)) = λ p. all_filtered p GivesName GivesName (λ x g _. g) (accepted xs) (accepted_all GivesName xs all) in
    answer_name h c ∙ decide (own_fields xs c) (own_fields h c) (given_fields xs (folded c.email)).name (given_fields h (folded c.email)).name c.name
    (last_gives (of_key xs (own_key c)) (kept _))
    (given_all (λ _. Unit {0}) (λ _. Unit {0}) (λ m. m ≢ []) (λ x. x.new_name) (of_key xs (folded c.email, None)) (all_weaker (of_key xs (folded c.email, None)) (λ x g. some_if x.new_name g.1) (kept _)))
    (sym (joined_name h xs c) ∙ empty)
