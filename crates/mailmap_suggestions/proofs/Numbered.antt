-- Groups by the places of their keys, with one more contact.
use Rattle.std.proofs.Common.{◌≡◌, ◌∙◌, ◌++◌, ◌<◌, ◌≤◌, ◌||◌, ℕ, zero, suc, Bool, true, false, cond, not, List, [], ◌∷◌, None, Option, Some, ap, append-nil, arith, bytes_eq, filter, if◌then◌else◌, length, map, refl, rules, get_or, set, subst, sym, unwrap_or}
use Rattle.std.specs.Prelude.{option_map}
use Rattle.std.specs.BTreeMap.{BTreeMap, get, is_at}
use Rattle.std.specs.Global.{Vec}
use Rattle.std.specs.List.{list_any}
use Rattle.std.proofs.lemmas.Cmp.{nat_list_eq_equiv}
use Rattle.std.proofs.lemmas.List.{length-map, length_push, map-append}
use Rattle.std.proofs.lemmas.Map.Text.{is_eq-slice_cmp}
use Rattle.mailmap_contacts.specs.declared.answers.Tally.{Tally as TheTally}
use Rattle.mailmap_contacts.specs.Answers.{tally_of}
use Rattle.mailmap_contacts.specs.Contacts.{Tally}
use Rattle.mailmap_entries.specs.Folding.{Text}
use Rattle.mailmap_suggestions.specs.Forms.{distinct}
use Rattle.mailmap_suggestions.specs.Keys.{key_cmp, key_text}
use Rattle.mailmap_suggestions.specs.Private.{ArePlaces, grouped, has_key, keys, members, place_of, tallies_in, with_member}
use Rattle.mailmap_suggestions.specs.declared.keys.Key.{Key}
use Rattle.mailmap_suggestions.proofs.Distinct.{distinct_push, equal_bytes, same_bytes}

-- ---- distinct keys

-- no key comes twice
abbrev IsOnce : List Text → Type 0
IsOnce [] = Unit {0}
IsOnce (x ∷ xs) = (list_any (bytes_eq x) xs ≡ false) × IsOnce xs

any_other : (k x : Text) (xs : List Text) → bytes_eq k x ≡ false → list_any (bytes_eq k) (filter (λ y. not (bytes_eq x y)) xs) ≡ list_any (bytes_eq k) xs
any_other k x [] other = refl
any_other k x (y ∷ ys) other = search (rules, any_other k x ys other, same_bytes)

none_left : (x : Text) (xs : List Text) → list_any (bytes_eq x) (filter (λ y. not (bytes_eq x y)) xs) ≡ false
none_left x [] = refl
none_left x (y ∷ ys) = search (rules, none_left x ys)

fewer : (k : Text) (p : Text → Bool) (xs : List Text) → list_any (bytes_eq k) xs ≡ false → list_any (bytes_eq k) (filter p xs) ≡ false
fewer k p [] none = refl
fewer k p (y ∷ ys) none = search (rules, fewer k p ys)

still_once : (p : Text → Bool) (xs : List Text) → IsOnce xs → IsOnce (filter p xs)
still_once p [] once = tt
still_once p (x ∷ xs) once = elim (p x) as (λ b. IsOnce (if b then x ∷ filter p xs else filter p xs)) [
  | true ↦ (fewer x p xs once.0, still_once p xs once.1)
  | false ↦ still_once p xs once.1
]

distinct_once : (xs : List Text) → IsOnce (distinct xs)
distinct_once [] = tt
distinct_once (x ∷ xs) = (none_left x (distinct xs), still_once (λ y. not (bytes_eq x y)) (distinct xs) (distinct_once xs))

any_distinct : (k : Text) (xs : List Text) → list_any (bytes_eq k) (distinct xs) ≡ list_any (bytes_eq k) xs
any_distinct k [] = refl
any_distinct k (x ∷ xs) = by (any_distinct k xs) (bytes_eq k x) refl
  where
    by : list_any (bytes_eq k) (distinct xs) ≡ list_any (bytes_eq k) xs → (b : Bool) → bytes_eq k x ≡ b → (b || list_any (bytes_eq k) (filter (λ y. not (bytes_eq x y)) (distinct xs))) ≡ (b || list_any (bytes_eq k) xs)
    by rest true is = refl
    by rest false is = any_other k x (distinct xs) is ∙ rest

-- ---- the places of keys

abbrev with_key : List Text → Text → List Text
with_key xs k = xs ++ (if list_any (bytes_eq k) xs then [] else k ∷ [])

-- the place of a key, or that of the next one
abbrev place_or_next : Text → List Text → ℕ
place_or_next k xs = unwrap_or (place_of k xs) (length xs)

next : (o : Option ℕ) (n : ℕ) → unwrap_or (option_map suc o) (suc n) ≡ suc (unwrap_or o n)
next None n = refl
next (Some m) n = refl

place_within : (k : Text) (xs : List Text) → place_or_next k xs ≤ length xs
place_within k [] = omega arith
place_within k (x ∷ xs) = by (place_within k xs) (bytes_eq k x)
  where
    by : place_or_next k xs ≤ length xs → (b : Bool) → unwrap_or (if b then Some 0 else option_map suc (place_of k xs)) (suc (length xs)) ≤ suc (length xs)
    by less true = omega arith
    by less false = omega (arith, less, next (place_of k xs) (length xs))

at_key : (key q : Key) → is_at (key_cmp key) q ≡ bytes_eq (key_text q) (key_text key)
at_key key q = is_eq-slice_cmp (key_text key) (key_text q) ∙ nat_list_eq_equiv.symm (key_text key) (key_text q)

itself : (k : Text) → bytes_eq k k ≡ true
itself k = equal_bytes k k refl

place_more : (k q : Text) (xs : List Text) → place_of q (with_key xs k) ≡ cond (bytes_eq q k) (Some (place_or_next k xs)) (place_of q xs)
place_more k q [] = by (bytes_eq q k)
  where
    by : (b : Bool) → (if b then Some 0 else option_map suc None) ≡ cond b (Some 0) None
    by true = refl
    by false = refl
place_more k q (x ∷ xs) = by (place_more k q xs) (bytes_eq k x) (bytes_eq q x) (bytes_eq q k) refl refl refl
  where
    rest : List Text
    rest = if list_any (bytes_eq k) xs then [] else k ∷ []

    by : place_of q (xs ++ rest) ≡ cond (bytes_eq q k) (Some (place_or_next k xs)) (place_of q xs)
        → (b c d : Bool) → bytes_eq k x ≡ b → bytes_eq q x ≡ c → bytes_eq q k ≡ d
        → place_of q (x ∷ (xs ++ (if b || list_any (bytes_eq k) xs then [] else k ∷ [])))
        ≡ cond d (Some (unwrap_or (if b then Some 0 else option_map suc (place_of k xs)) (suc (length xs)))) (if c then Some 0 else option_map suc (place_of q xs))
    by more true c d k_is q_is same = search (rules, k_is, q_is, same, same_bytes, append-nil)
    by more false true true k_is q_is same = search (rules, k_is, q_is, same, same_bytes)
    by more false true false k_is q_is same = ap (λ t. if t then Some 0 else option_map suc (place_of q (xs ++ rest))) q_is
    by more false false true k_is q_is same =
        ap (λ t. if t then Some 0 else option_map suc (place_of q (xs ++ rest))) q_is
        ∙ ap (option_map suc) (more ∙ ap (λ t. cond t (Some (place_or_next k xs)) (place_of q xs)) same)
        ∙ ap Some (sym (next (place_of k xs) (length xs)))
    by more false false false k_is q_is same =
        ap (λ t. if t then Some 0 else option_map suc (place_of q (xs ++ rest))) q_is
        ∙ ap (option_map suc) (more ∙ ap (λ t. cond t (Some (place_or_next k xs)) (place_of q xs)) same)

places_more : (xs : List Text) (key : Key) (old new : BTreeMap Key ℕ) → ArePlaces xs old
    → ((q : Key) → get key_cmp new q ≡ cond (is_at (key_cmp key) q) (Some (unwrap_or (get key_cmp old key) (length xs))) (get key_cmp old q))
    → ArePlaces (with_key xs (key_text key)) new
places_more xs key old new are put q =
    put q ∙ (λ i. cond (at_key key q i) (Some (unwrap_or (are key i) (length xs))) (are q i)) ∙ sym (place_more (key_text key) (key_text q) xs)

-- ---- groups

module _ (f g : Text → List Tally) (q : Text) (t : Tally) (step : (x : Text) → g x ≡ f x ++ (if bytes_eq x q then t ∷ [] else [])) where
  unchanged : (x : Text) → bytes_eq q x ≡ false → g x ≡ f x
  unchanged x other = step x ∙ ap (λ b. f x ++ (if b then t ∷ [] else [])) (nat_list_eq_equiv.symm x q ∙ other) ∙ append-nil (f x)

  all_unchanged : (xs : List Text) → list_any (bytes_eq q) xs ≡ false → map g xs ≡ map f xs
  all_unchanged [] none = refl
  all_unchanged (x ∷ xs) none = search (rules, unchanged x, all_unchanged xs)

  one_more : (xs : List Text) → IsOnce xs → (list_any (bytes_eq q) xs ≡ false → f q ≡ [])
      → map g (with_key xs q) ≡ with_member (place_or_next q xs) t (map f xs)
  one_more [] once none =
      ap (λ l. l ∷ []) (step q ∙ (λ i. none refl i ++ (if itself q i then t ∷ [] else [])))
  one_more (x ∷ xs) once none = by (one_more xs once.1) (bytes_eq q x) refl
    where
      by : ((list_any (bytes_eq q) xs ≡ false → f q ≡ []) → map g (with_key xs q) ≡ with_member (place_or_next q xs) t (map f xs))
          → (b : Bool) → bytes_eq q x ≡ b → map g (x ∷ (xs ++ (if b || list_any (bytes_eq q) xs then [] else q ∷ [])))
          ≡ with_member (unwrap_or (if b then Some 0 else option_map suc (place_of q xs)) (suc (length xs))) t (f x ∷ map f xs)
      by more true is =
          (λ i. (step x ∙ ap (λ b. f x ++ (if b then t ∷ [] else [])) (nat_list_eq_equiv.symm x q ∙ is)) i ∷ map g (append-nil xs i))
          ∙ ap (λ l. (f x ++ t ∷ []) ∷ l) (all_unchanged xs (ap (λ k. list_any (bytes_eq k) xs) (same_bytes q x is) ∙ once.0))
      by more false is =
          (λ i. unchanged x is i ∷ more (λ no. none (ap (λ b. b || list_any (bytes_eq q) xs) is ∙ no)) i)
          ∙ ap (λ n. with_member n t (f x ∷ map f xs)) (sym (next (place_of q xs) (length xs)))

member_more : (ks : List (Text × Tally)) (k : Text × Tally) (q : Text) → members (ks ++ k ∷ []) q ≡ members ks q ++ (if bytes_eq q k.0 then k.1 ∷ [] else [])
member_more [] k q = grind arith
member_more (j ∷ ks) k q = grind (arith, member_more ks k q)

no_members : (ks : List (Text × Tally)) (q : Text) → has_key ks q ≡ false → members ks q ≡ []
no_members [] q none = refl
no_members (j ∷ ks) q none = grind (arith, no_members ks q)

-- the groups of some contacts with keys, and the places of these keys
pub record AreGrouped (ks : List (Text × Tally)) (known : BTreeMap Key ℕ) (found : List (Vec TheTally)) : Type 0 where
  pub groups : map tallies_in found ≡ grouped ks
  pub places : ArePlaces (distinct (keys ks)) known

keys_more : (ks : List (Text × Tally)) (k : Text × Tally) → distinct (keys (ks ++ k ∷ [])) ≡ with_key (distinct (keys ks)) k.0
keys_more ks k =
    ap distinct (map-append (λ (k : Text × Tally). k.0) ks (k ∷ [])) ∙ distinct_push (keys ks) k.0
    ∙ ap (λ b. distinct (keys ks) ++ (if b then [] else k.0 ∷ [])) (sym (any_distinct k.0 (keys ks)))

module _ (ks : List (Text × Tally)) (key : Key) (old : BTreeMap Key ℕ) (groups : List (Vec TheTally)) (are : AreGrouped ks old groups) where
  abbrev all : List Text
  all = distinct (keys ks)

  count : length groups ≡ length all
  count = sym (length-map groups tallies_in) ∙ ap length are.groups ∙ length-map all (members ks)

  place : unwrap_or (get key_cmp old key) (length groups) ≡ place_or_next (key_text key) all
  place = (λ i. unwrap_or (are.places key i) (count i))

  -- the place of a group is known, or the next one
  pub group_within : unwrap_or (get key_cmp old key) (length groups) ≤ length groups
  group_within = let within = place_within (key_text key) all in omega (arith, within, place, count)

  pub grouped_more : (t : Tally) (new : BTreeMap Key ℕ) (more : List (Vec TheTally)) → map tallies_in more ≡ with_member (unwrap_or (get key_cmp old key) (length groups)) t (map tallies_in groups)
      → ((q : Key) → get key_cmp new q ≡ cond (is_at (key_cmp key) q) (Some (unwrap_or (get key_cmp old key) (length groups))) (get key_cmp old q))
      → AreGrouped (ks ++ (key_text key, t) ∷ []) new more
  grouped_more t new more is put = record {
    groups = is ∙ (λ i. with_member (place i) t (are.groups i))
        ∙ sym (one_more (members ks) (members (ks ++ (key_text key, t) ∷ [])) (key_text key) t (member_more ks (key_text key, t)) all (distinct_once (keys ks))
        (λ none. no_members ks (key_text key) (sym (any_distinct (key_text key) (keys ks)) ∙ none)))
        ∙ ap (map (members (ks ++ (key_text key, t) ∷ []))) (sym (keys_more ks (key_text key, t)));
    places = subst (λ l. ArePlaces l new) (sym (keys_more ks (key_text key, t)))
        (places_more all key old new are.places (subst (λ n. (q : Key) → get key_cmp new q ≡ cond (is_at (key_cmp key) q) (Some (unwrap_or (get key_cmp old key) n)) (get key_cmp old q)) count put));
  }

-- ---- one more contact in a group, or in a new one

member_set : (groups : List (Vec TheTally)) (n : ℕ) (d v : Vec TheTally) (t : TheTally) → n < length groups → v.items ≡ (get_or groups n d).items ++ t ∷ []
    → map tallies_in (set groups n v) ≡ with_member n (tally_of t) (map tallies_in groups)
member_set [] n d v t lt is = absurd (omega (arith, lt))
member_set (g ∷ gs) zero d v t lt is = ap (λ l. l ∷ map tallies_in gs) (ap (map tally_of) is ∙ map-append tally_of g.items (t ∷ []))
member_set (g ∷ gs) (suc n) d v t lt is = ap (λ l. tallies_in g ∷ l) (member_set gs n d v t (omega (arith, lt)) is)

-- a new group is the last
new_group : (groups : List (List Tally)) (t : Tally) → with_member (length groups) t (groups ++ [] ∷ []) ≡ with_member (length groups) t groups
new_group [] t = refl
new_group (g ∷ gs) t = ap (λ l. g ∷ l) (new_group gs t)

pub added : (old groups : List (Vec TheTally)) (v d : Vec TheTally) (t : TheTally) (n : ℕ) → n < length old → groups ≡ old → v.items ≡ (get_or groups n d).items ++ t ∷ []
    → map tallies_in (set groups n v) ≡ with_member n (tally_of t) (map tallies_in old)
added old groups v d t n lt are is =
    member_set groups n d v t (subst (λ l. n < length l) (sym are) lt) is ∙ ap (λ l. with_member n (tally_of t) (map tallies_in l)) are

pub added_last : (old groups : List (Vec TheTally)) (e v d : Vec TheTally) (t : TheTally) (n : ℕ) → n ≡ length old → groups ≡ old ++ e ∷ [] → e.items ≡ []
    → v.items ≡ (get_or groups n d).items ++ t ∷ [] → map tallies_in (set groups n v) ≡ with_member n (tally_of t) (map tallies_in old)
added_last old groups e v d t n last are none is =
    let count : n ≡ length (map tallies_in old) = last ∙ sym (length-map old tallies_in) in
    member_set groups n d v t (omega (arith, last, ap length are, length_push old e)) is
    ∙ ap (with_member n (tally_of t)) (ap (map tallies_in) are ∙ map-append tallies_in old (e ∷ []) ∙ ap (λ l. map tallies_in old ++ map tally_of l ∷ []) none)
    ∙ ap (λ k. with_member k (tally_of t) (map tallies_in old ++ [] ∷ [])) count ∙ new_group (map tallies_in old) (tally_of t)
    ∙ ap (λ k. with_member k (tally_of t) (map tallies_in old)) (sym count)
