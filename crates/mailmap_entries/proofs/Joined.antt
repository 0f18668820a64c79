-- Joined lists of mappings: which entries can be swapped.
use Rattle.std.proofs.Common.{arith, ◌≡◌, Bool, true, false, true≢false, cond, List, [], ◌∷◌, ◌++◌, map, filter, filter_map, append-nil, append_assoc, Option, Some, None, Ordering, is_eq, is_some, option_map, refl, sym, ap, subst, ◌∙◌}
use Rattle.std.specs.Cmp.{eq_by_cmp_equiv}
use Rattle.std.specs.Cmp.Lexicographic.{nat_list_cmp_total}
use Rattle.std.specs.List.{AllByRecursion}
use Rattle.std.specs.Ordering.{eq_by_cmp, ordering_then}
use Rattle.mailmap_entries.specs.Entries.{Mapping}
use Rattle.mailmap_entries.specs.Folding.{Text, folded, text_cmp}
use Rattle.mailmap_entries.specs.Semantics.{Fields, Key, key, key_cmp, first, last, last_given, is_accepted, new_fields, of_key, spelling}
use Rattle.mailmap_entries.proofs.Alike.{Alike, alike_itself, alike_joined}
use Rattle.mailmap_entries.proofs.Keys.{keys_total}
use Rattle.mailmap_entries.proofs.Normal.{known}
use Rattle.mailmap_entries.proofs.Parts.{is_some-option_map}

-- being alike is transitive
pub alike_trans : (a b c : List Mapping) → Alike a b → Alike b c → Alike a c
alike_trans a b c p q = grind (arith, p.keys, p.spellings, p.given, p.lasts, p.names, q.keys, q.spellings, q.given, q.lasts, q.names)

-- ---- what counts among the entries of a key

pub first-map : {X Y : Type 0} (f : X → Y) (xs : List X) → first (map f xs) ≡ option_map f (first xs)
first-map f xs = grind arith

pub last-map : {X Y : Type 0} (f : X → Y) (xs : List X) → last (map f xs) ≡ option_map f (last xs)
last-map f [] = refl
last-map f (x ∷ xs) = grind (arith, last-map f xs)

filter_map-map : {X Y Z : Type 0} (f : Y → Option Z) (g : X → Y) (xs : List X) → filter_map f (map g xs) ≡ filter_map (λ x. f (g x)) xs
filter_map-map f g [] = refl
filter_map-map f g (x ∷ xs) = grind (arith, filter_map-map f g xs)

option_map-map : {X Y Z : Type 0} (f : Y → Z) (g : X → Y) (o : Option X) → option_map f (option_map g o) ≡ option_map (λ x. f (g x)) o
option_map-map f g o = grind arith

abbrev Stripped : Type 0
Stripped = Fields × Option Text

-- an entry without its old email
abbrev pub stripped : Mapping → Fields × Option Text
stripped e = (new_fields e, e.old_name)

-- a question that depends only on the stripped entries
by_stripped : {Y : Type 0} (ask : List Mapping → Y) (asked : List Stripped → Y) → ((l : List Mapping) → ask l ≡ asked (map stripped l)) → (l m : List Mapping) → map stripped l ≡ map stripped m → ask l ≡ ask m
by_stripped ask asked same l m e = same l ∙ ap asked e ∙ sym (same m)

-- lists are alike if they have the same fields and old names for each key, and the same spellings
pub alike_by_keys : (b u : List Mapping) → ((k : Key) → map stripped (of_key b k) ≡ map stripped (of_key u k)) → ((email : Text) → spelling b email ≡ spelling u email) → Alike b u
alike_by_keys b u keyed spelled = record {
  keys = λ k. known b k
      ∙ by_stripped (λ l. is_some (first l)) (λ l. is_some (first l)) (λ l. is_some-option_map stripped (first l) ∙ ap is_some (sym (first-map stripped l))) (of_key b k) (of_key u k) (keyed k)
      ∙ sym (known u k);
  spellings = spelled;
  given = λ email i. record { name = field (λ s. s.0.name) email i; email = field (λ s. s.0.email) email i };
  lasts = λ email name. by_stripped (λ l. option_map new_fields (last l)) (λ l. option_map (λ s. s.0) (last l))
      (λ l. sym (ap (option_map (λ s. s.0)) (last-map stripped l) ∙ option_map-map (λ s. s.0) stripped (last l))) (of_key b (email, Some name)) (of_key u (email, Some name)) (keyed (email, Some name));
  names = λ email name. by_stripped (λ l. option_map (λ e. e.old_name) (first l)) (λ l. option_map (λ s. s.1) (first l))
      (λ l. sym (ap (option_map (λ s. s.1)) (first-map stripped l) ∙ option_map-map (λ s. s.1) stripped (first l))) (of_key b (email, Some name)) (of_key u (email, Some name)) (keyed (email, Some name));
}
  where
    field : (f : Stripped → Option Text) (email : Text) → last_given (λ e. f (stripped e)) (of_key b (email, None)) ≡ last_given (λ e. f (stripped e)) (of_key u (email, None))
    field f email = by_stripped (last_given (λ e. f (stripped e))) (λ l. last (filter_map f l)) (λ l. ap last (sym (filter_map-map f stripped l))) (of_key b (email, None)) (of_key u (email, None)) (keyed (email, None))

-- ---- entries that can be swapped

-- the two entries have different keys, and if their email is the same, so is its spelling
abbrev pub IsApart : Mapping → Mapping → Type 0
IsApart x y = (eq_by_cmp key_cmp (key x) (key y) ≡ false) × (eq_by_cmp text_cmp (folded x.old_email) (folded y.old_email) ≡ true → x.old_email ≡ y.old_email)

-- unless both pass, filters give the same in either order
filter_swapped : {X : Type 0} (p q : X → Bool) (x y : X) → (p x ≡ true → p y ≡ true → ⊥) → filter p (filter q (x ∷ y ∷ [])) ≡ filter p (filter q (y ∷ x ∷ []))
filter_swapped p q x y never = grind arith

-- if both give the same value, so does the first that passes, in either order
first_swapped : {X Y : Type 0} (f : X → Y) (p q : X → Bool) (x y : X) → (p x ≡ true → p y ≡ true → f x ≡ f y) → option_map f (first (filter p (filter q (x ∷ y ∷ [])))) ≡ option_map f (first (filter p (filter q (y ∷ x ∷ []))))
first_swapped f p q x y same = grind arith

pair_swapped : (x y : Mapping) → IsApart x y → Alike (x ∷ y ∷ []) (y ∷ x ∷ [])
pair_swapped x y apart = alike_by_keys (x ∷ y ∷ []) (y ∷ x ∷ [])
    (λ k. ap (map stripped) (filter_swapped (λ e. eq_by_cmp key_cmp k (key e)) is_accepted x y
    (λ p q. true≢false (sym q ∙ (eq_by_cmp_equiv keys_total).congr k (key x) (key y) p ∙ apart.0))))
    (λ email. first_swapped (λ e. e.old_email) (λ e. eq_by_cmp text_cmp email (folded e.old_email)) is_accepted x y
    (λ p q. apart.1 (sym ((eq_by_cmp_equiv nat_list_cmp_total).congr email (folded x.old_email) (folded y.old_email) p) ∙ q)))

-- an entry can move behind entries that are apart from it
moved_behind : (x : Mapping) (ys : List Mapping) → AllByRecursion (IsApart x) ys → Alike (x ∷ ys) (ys ++ x ∷ [])
moved_behind x [] apart = alike_itself (x ∷ [])
moved_behind x (y ∷ ys) apart = alike_trans (x ∷ y ∷ ys) (y ∷ x ∷ ys) (y ∷ (ys ++ x ∷ []))
    (alike_joined (x ∷ y ∷ []) ys (y ∷ x ∷ []) ys (pair_swapped x y apart.0) (alike_itself ys))
    (alike_joined (y ∷ []) (x ∷ ys) (y ∷ []) (ys ++ x ∷ []) (alike_itself (y ∷ [])) (moved_behind x ys apart.1))

-- two lists can be swapped if their entries are apart from each other
pub alike_swapped : (xs ys : List Mapping) → AllByRecursion (λ x. AllByRecursion (λ y. IsApart x y) ys) xs → Alike (xs ++ ys) (ys ++ xs)
alike_swapped [] ys apart = subst (Alike ys) (sym (append-nil ys)) (alike_itself ys)
alike_swapped (x ∷ xs) ys apart = alike_trans (x ∷ (xs ++ ys)) (x ∷ (ys ++ xs)) (ys ++ x ∷ xs)
    (alike_joined (x ∷ []) (xs ++ ys) (x ∷ []) (ys ++ xs) (alike_itself (x ∷ [])) (alike_swapped xs ys apart.1))
    (subst (Alike (x ∷ (ys ++ xs))) (append_assoc ys (x ∷ []) xs) (alike_joined (x ∷ ys) xs (ys ++ x ∷ []) xs (moved_behind x ys apart.0) (alike_itself xs)))

-- a filter that nothing passes
pub filter_none : {X : Type 0} (p : X → Bool) (xs : List X) → AllByRecursion (λ x. p x ≡ false) xs → filter p xs ≡ []
filter_none p [] a = refl
filter_none p (x ∷ xs) a = λ i. cond (a.0 i) (x ∷ filter p xs) (filter_none p xs a.1 i)

-- what the second of two orders distinguishes, both together distinguish
pub never : (o r : Ordering) → is_eq r ≡ false → is_eq (ordering_then o r) ≡ false
never o r e = grind arith
