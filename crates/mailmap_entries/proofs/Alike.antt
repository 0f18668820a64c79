-- Alike lists of mappings have the same normal list and the same answers, and alike parts make alike wholes.
use Rattle.std.proofs.Common.{◌≡◌, Bool, ◌||◌, List, ◌++◌, map, filter, Option, option_map, ap, ◌∙◌, rules, arith}
use Rattle.std.specs.Prelude.{◌↔◌}
use Rattle.std.specs.Option.{option_or}
use Rattle.std.proofs.lemmas.List.{map-append}
use Rattle.std.proofs.lemmas.List.Elements.{filter-append, filter_map-append, All-weaker}
use Rattle.std.specs.List.{list_any}
use Rattle.mailmap_entries.specs.Entries.{Mapping}
use Rattle.mailmap_entries.specs.Folding.{Text}
use Rattle.mailmap_entries.specs.Semantics.{Key, key, first, last, accepted, has_key, last_given, value, answer_of, IsNormal, is_accepted}
use Rattle.mailmap_entries.proofs.Parts.{first-append, last-append, option_map-or, list_any-append, and_then-flatten}
pub use Rattle.mailmap_entries.specs.Alike.{Alike, first_name}

-- ---- alike lists have the same normal list and the same answers

pub same_value : (h g : List Mapping) → Alike h g → (k : Key) → value h k ≡ value g k
same_value h g a k = grind (arith, a.given, a.spellings, a.lasts, a.names, and_then-flatten)

pub same_normal : (h g n : List Mapping) → Alike h g → IsNormal h n → IsNormal g n
same_normal h g n a d = grind (arith, d.keys, a.keys, All-weaker, same_value)

pub alike_answer : (h g : List Mapping) (name email : Text) → Alike h g → answer_of h name email ≡ answer_of g name email
alike_answer h g name email a = grind (arith, a.lasts, a.given, a.spellings)

pub alike_itself : (h : List Mapping) → Alike h h
alike_itself h = search rules

pub alike_back : (h g : List Mapping) → Alike h g → Alike g h
alike_back h g a = grind (arith, a.keys, a.spellings, a.given, a.lasts, a.names)

pub same_normals : (h g n : List Mapping) → Alike h g → IsNormal h n ↔ IsNormal g n
same_normals h g n alike = (same_normal h g n alike, same_normal g h n (alike_back h g alike))

-- ---- alike parts make alike wholes

-- what a filter selects from the accepted entries of two lists
pub picked-append : (p : Mapping → Bool) (xs ys : List Mapping) → filter p (accepted (xs ++ ys)) ≡ filter p (accepted xs) ++ filter p (accepted ys)
picked-append p xs ys = ap (filter p) (filter-append is_accepted xs ys) ∙ filter-append p (accepted xs) (accepted ys)

pub first_parts : {Y : Type 0} (f : Mapping → Y) (p : Mapping → Bool) (xs ys : List Mapping)
    → option_map f (first (filter p (accepted (xs ++ ys)))) ≡ option_or (option_map f (first (filter p (accepted xs)))) (option_map f (first (filter p (accepted ys))))
first_parts f p xs ys = ap (λ l. option_map f (first l)) (picked-append p xs ys) ∙ ap (option_map f) (first-append _ _) ∙ option_map-or f _ _

pub last_parts : {Y : Type 0} (f : Mapping → Y) (p : Mapping → Bool) (xs ys : List Mapping)
    → option_map f (last (filter p (accepted (xs ++ ys)))) ≡ option_or (option_map f (last (filter p (accepted ys)))) (option_map f (last (filter p (accepted xs))))
last_parts f p xs ys = ap (λ l. option_map f (last l)) (picked-append p xs ys) ∙ ap (option_map f) (last-append _ _) ∙ option_map-or f _ _

pub given_parts : (f : Mapping → Option Text) (p : Mapping → Bool) (xs ys : List Mapping)
    → last_given f (filter p (accepted (xs ++ ys))) ≡ option_or (last_given f (filter p (accepted ys))) (last_given f (filter p (accepted xs)))
given_parts f p xs ys = ap (last_given f) (picked-append p xs ys) ∙ ap last (filter_map-append f _ _) ∙ last-append _ _

pub key_parts : (k : Key) (xs ys : List Mapping) → has_key (accepted (xs ++ ys)) k ≡ (has_key (accepted xs) k || has_key (accepted ys) k)
key_parts k xs ys = ap (λ l. has_key l k) (filter-append is_accepted xs ys) ∙ ap (list_any _) (map-append key (accepted xs) (accepted ys)) ∙ list_any-append _ (map key (accepted xs)) _

pub alike_joined : (a b a' b' : List Mapping) → Alike a a' → Alike b b' → Alike (a ++ b) (a' ++ b')
alike_joined a b a' b' p q = grind (arith, key_parts, first_parts, last_parts, given_parts, p.keys, p.spellings, p.given, p.lasts, p.names, q.keys, q.spellings, q.given, q.lasts, q.names)

-- ---- only the accepted entries count

pub alike_accepted : (h g : List Mapping) → accepted h ≡ accepted g → Alike h g
alike_accepted h g same = grind (arith, same)
