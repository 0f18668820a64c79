-- Classes of answers, from those of the contacts that first get them.
use Rattle.std.proofs.Common.{◌≡◌, ◌≢◌, ◌∙◌, ◌+◌, ◌<◌, ◌^◌, ◌↔◌, ◌||◌, ◌&&◌, ◌==◌, ◌++◌, ◌%◌, ℕ, zero, suc, Bool, true, false, cond, List, [], ◌∷◌, Option, None, Some, ap, arith, bytes_eq, get_or, if◌then◌else◌, inl, inr, length, map, not, refl, set, slice_get, subst, sym, take, true≢false, ⊎_elim}
use Rattle.std.specs.Prelude.{IsTrue, decimal, filter, nat_lt}
use Rattle.std.specs.Char.{to_ascii_lowercase}
use Rattle.std.specs.Global.{Vec}
use Rattle.std.specs.List.{AllByRecursion, Contains, list_any, position_or_len}
use Rattle.std.proofs.lemmas.Bool.{and_parts, cases_Bool, cases_eq, eq-eqb, eqb-true, lt-ltb, ne_eqb, or_cases, or_left, or_right}
use Rattle.std.proofs.lemmas.Fmt.{decimal_by_steps, decimal_injective, decimal_nonempty}
use Rattle.std.proofs.lemmas.List.{get_or_default, get_or-map, get_or-set_other, get_or-set_same, length-map, length-set, map-append, map_more}
use Rattle.std.proofs.lemmas.List.Elements.{All-contains, All-from_recursion, filter-append}
use Rattle.std.proofs.lemmas.List.Folds.{list_any-append, list_any_at}
use Rattle.std.proofs.lemmas.List.Quantifiers.{position-Some}
use Rattle.std.proofs.lemmas.Map.Views.{Contains-from_any}
use Rattle.std.proofs.lemmas.Option.{get_or_from_slice_get, slice_get-get_or}
use Rattle.std.proofs.lemmas.Simd.{map-map}
use Rattle.mailmap_contacts.specs.declared.answers.Tally.{Tally as TheTally}
use Rattle.mailmap_contacts.proofs.Entries.{same_is}
use Rattle.mailmap_contacts.specs.Answers.{tally_of}
use Rattle.mailmap_contacts.specs.Contacts.{Contact, Tally, answered, has_text, same_contact, tallied}
use Rattle.mailmap_contacts.proofs.Steps.{mapped_more}
use Rattle.mailmap_contacts.proofs.Tallied.{each_tallied, each_untallied}
use Rattle.mailmap_entries.specs.Folding.{Text, folded}
use Rattle.mailmap_entries.proofs.Parts.{all_map, all_mapped, map_alike}
use Rattle.mailmap_names.specs.Keys.{has_common, is_among}
use Rattle.mailmap_suggestions.specs.Classes.{AgreesOn, AreClasses, class_of}
use Rattle.mailmap_suggestions.specs.Forests.{link_of, links_of}
use Rattle.mailmap_suggestions.specs.Forms.{Histories}
use Rattle.mailmap_suggestions.specs.GroupEntries.{contacts}
use Rattle.mailmap_suggestions.specs.Keys.{key_text}
use Rattle.mailmap_suggestions.specs.Links.{AreClassesBy, answers}
use Rattle.mailmap_suggestions.specs.LinkViews.{AreLinksOf, AreMembers, IsFirstOf, answer_in}
use Rattle.mailmap_suggestions.specs.Private.{keyed_by, keyed_of}
use Rattle.mailmap_suggestions.specs.declared.classes.Link.{Link}
use Rattle.mailmap_suggestions.specs.declared.keys.Key.{Key}
use Rattle.mailmap_suggestions.specs.declared.members.Member.{Member}
use Rattle.mailmap_suggestions.proofs.Distinct.{at, each, equal_bytes, same_bytes, ◌∈◌}

-- ==== contacts by their classes

-- a text has a byte if it has one in lower case
has_some : (s : Text) → has_text s ≡ not (bytes_eq (folded s) [])
has_some [] = refl
has_some (b ∷ s) = refl

-- the class of the contact at an index
class_there : (classes : List (Vec ℕ)) (contacts : List TheTally) (text : Tally → Text) (i : ℕ) (v : Vec ℕ) (t : TheTally) → i < length classes → i < length contacts
    → v ≡ get_or classes i v → t ≡ get_or contacts i t → map (λ (v : Vec ℕ). folded v.items) classes ≡ map text (map tally_of contacts) → folded v.items ≡ text (tally_of t)
class_there classes contacts text i v t below within v_is t_is are =
    ap (λ (v : Vec ℕ). folded v.items) v_is ∙ sym (get_or-map (λ (v : Vec ℕ). folded v.items) classes i v [] below)
    ∙ ap (λ l. get_or l i []) are ∙ get_or-map text (map tally_of contacts) i (tally_of t) [] (subst (λ n. i < n) (sym (length-map contacts tally_of)) within)
    ∙ ap text (get_or-map tally_of contacts i t (tally_of t) within ∙ ap tally_of (sym t_is))

abbrev pub keyed_if : Bool → Text × Tally → List (Text × Tally)
keyed_if b k = cond b (k ∷ []) []

kept : (text : Tally → Text) (b : Bool) (key : Text) (t : Tally) → key ≡ text t → b ≡ not (bytes_eq key []) → keyed_by text (filter (λ t. not (bytes_eq (text t) [])) (t ∷ [])) ≡ keyed_if b (key, t)
kept text b key t is test = ap (λ b. keyed_by text (cond b (t ∷ []) [])) (ap (λ k. not (bytes_eq k [])) (sym is) ∙ sym test)
    ∙ elim b as (λ b. keyed_by text (cond b (t ∷ []) []) ≡ keyed_if b (key, t)) [ true ↦ ap (λ k. (k, t) ∷ []) (sym is) | false ↦ refl ]

pub some_at : {X : Type 0} (xs : List X) (i : ℕ) → i < length xs → (x : X) × (x ≡ get_or xs i x)
some_at [] i lt = absurd (omega (arith, lt))
some_at (x ∷ xs) zero lt = (x, refl)
some_at (x ∷ xs) (suc i) lt = some_at xs i (omega (arith, lt))

pub keyed_push : (contacts : List TheTally) (k : ℕ) (d t : TheTally) (key : Key) (old new : List (Key × TheTally)) → new ≡ old ++ (key, get_or contacts k d) ∷ [] → k < length contacts
    → t ≡ get_or contacts k t → map keyed_of new ≡ map keyed_of old ++ keyed_if true (key_text key, tally_of t)
keyed_push contacts k d t key old new is lt t_is =
    ap (map keyed_of) is ∙ map-append keyed_of old ((key, get_or contacts k d) ∷ [])
    ∙ ap (λ t. map keyed_of old ++ (key_text key, tally_of t) ∷ []) (get_or_default contacts k d t lt ∙ sym t_is)

-- one more contact
pub class_more : (classes : List (Vec ℕ)) (contacts : List TheTally) (i : ℕ) (v : Vec ℕ) (t : TheTally) (old new : List (Text × Tally)) (b : Bool) → i < length classes → i < length contacts
    → v ≡ get_or classes i v → t ≡ get_or contacts i t → b ≡ has_text v.items → new ≡ old ++ keyed_if b (folded v.items, tally_of t) → (text : Tally → Text)
    → map (λ (v : Vec ℕ). folded v.items) classes ≡ map text (map tally_of contacts) → old ≡ keyed_by text (filter (λ t. not (bytes_eq (text t) [])) (map tally_of (take i contacts)))
    → new ≡ keyed_by text (filter (λ t. not (bytes_eq (text t) [])) (map tally_of (take (i + 1) contacts)))
class_more classes contacts i v t old new b below within v_is t_is b_is new_is text are old_is =
    let passes : Tally → Bool = λ t. not (bytes_eq (text t) []) in
    let before : List Tally = map tally_of (take i contacts) in
    let more : map tally_of (take (i + 1) contacts) ≡ before ++ tally_of t ∷ [] = mapped_more tally_of contacts i t within ∙ ap (λ t. before ++ tally_of t ∷ []) (sym t_is) in
    let key : folded v.items ≡ text (tally_of t) = class_there classes contacts text i v t below within v_is t_is are in
    new_is ∙ ap (λ l. l ++ keyed_if b (folded v.items, tally_of t)) old_is
    ∙ ap (λ l. keyed_by text (filter passes before) ++ l) (sym (kept text b (folded v.items) (tally_of t) key (b_is ∙ has_some v.items)))
    ∙ sym (map-append (λ (t : Tally). (text t, t)) (filter passes before) (filter passes (tally_of t ∷ [])))
    ∙ ap (keyed_by text) (sym (filter-append passes before (tally_of t ∷ [])))
    ∙ ap (λ l. keyed_by text (filter passes l)) (sym more)

-- ==== items with links

abbrev pub is_linked : List (Text × ℕ) → ℕ → Bool
is_linked links item = list_any (λ (l : Text × ℕ). l.1 == item) links

or_last : (a b : Bool) → b ≡ true → true ≡ (a || (b || false))
or_last true b is = refl
or_last false b is = sym is ∙ or_end b
  where
    or_end : (b : Bool) → b ≡ (b || false)
    or_end true = refl
    or_end false = refl

or_none : (a b : Bool) → b ≡ false → a ≡ (a || (b || false))
or_none true b is = refl
or_none false b is = ap (λ b. b || false) (sym is)

-- one more link
pub linked_more : (linked : List Bool) (links : List Link) (k : ℕ) (l : Link) → k < length links → l ≡ get_or links k l → l.item < length linked
    → ((item : ℕ) → item < length linked → slice_get linked item ≡ Some (is_linked (links_of (take k links)) item))
    → (item : ℕ) → item < length linked → slice_get (set linked l.item true) item ≡ Some (is_linked (links_of (take (k + 1) links)) item)
linked_more linked links k l lt l_is below are item within =
    let length_is : length (set linked l.item true) ≡ length linked = length-set linked l.item true in
    let links_are : links_of (take (k + 1) links) ≡ links_of (take k links) ++ link_of l ∷ [] = map_more link_of links k l lt ∙ ap (λ l. links_of (take k links) ++ link_of l ∷ []) (sym l_is) in
    let any_is : is_linked (links_of (take (k + 1) links)) item ≡ (is_linked (links_of (take k links)) item || ((l.item == item) || false)) =
    ap (λ ls. is_linked ls item) links_are ∙ list_any-append (λ (l : Text × ℕ). l.1 == item) (links_of (take k links)) (link_of l ∷ []) in
    slice_get-get_or (set linked l.item true) item false (subst (λ n. item < n) (sym length_is) within)
    ∙ ap Some (⊎_elim
    (λ (same : item ≡ l.item). ap (λ i. get_or (set linked l.item true) i false) same ∙ get_or-set_same linked l.item true false below
    ∙ or_last (is_linked (links_of (take k links)) item) (l.item == item) (eq-eqb l.item item (sym same)))
    (λ (other : item ≡ l.item → ⊥). get_or-set_other linked l.item item true false other
    ∙ some_is (get_or linked item false) _ (sym (slice_get-get_or linked item false within) ∙ are item within)
    ∙ or_none (is_linked (links_of (take k links)) item) (l.item == item) (ne_eqb l.item item (λ e. other (sym e))))
    (cases_eq item l.item) ∙ sym any_is)
  where
    some_is : (a b : Bool) → Some a ≡ Some b → a ≡ b
    some_is a b e = cc

-- ==== the texts of classes

-- digits stay as they are
folded_decimal : (n : ℕ) → n < 2 ^ 64 → folded (decimal n) ≡ decimal n
folded_decimal n lt = decimal_by_steps (λ n ds. folded ds ≡ ds)
    (λ n lt. ap (λ d. d ∷ []) (digit n lt))
    (λ n ds le is. map-append to_ascii_lowercase ds ((48 + n % 10) ∷ []) ∙ (λ i. is i ++ digit (n % 10) (omega arith) i ∷ []))
    n lt
  where
    digit : (n : ℕ) → n < 10 → to_ascii_lowercase (48 + n) ≡ 48 + n
    digit n lt = ap (λ b. cond b (48 + n) (cond (nat_lt (48 + n) 91) (48 + n + 32) (48 + n))) (lt-ltb (48 + n) 65 (omega arith))

abbrev pub text_if : Bool → ℕ → Text
text_if b number = if b then decimal number else []

folded_text_if : (b : Bool) (n : ℕ) → n < 2 ^ 64 → folded (text_if b n) ≡ text_if b n
folded_text_if true n lt = folded_decimal n lt
folded_text_if false n lt = refl

some_text : (b : Bool) (n : ℕ) → text_if b n ≢ [] → b ≡ true
some_text true n some = refl
some_text false n some = absurd (some refl)

no_decimal : (n : ℕ) → n < 2 ^ 64 → decimal n ≡ [] → ⊥
no_decimal n lt none = omega (arith, decimal_nonempty n lt, ap length none)

no_text : (b : Bool) (n : ℕ) → n < 2 ^ 64 → text_if b n ≡ [] → b ≡ false
no_text true n lt none = absurd (no_decimal n lt none)
no_text false n lt none = refl

one_number : (a b : Bool) (m n : ℕ) → a ≡ true → b ≡ true → m < 2 ^ 64 → n < 2 ^ 64 → text_if a m ≡ text_if b n → m ≡ n
one_number a b m n a_is b_is m_lt n_lt is =
    decimal_injective m n m_lt n_lt (ap (λ b. text_if b m) (sym a_is) ∙ is ∙ ap (λ b. text_if b n) b_is)

-- ==== marks in common

common : (xs ys : List Text) → has_common xs ys ≡ true → (mark : Text) × (is_among xs mark ≡ true) × (is_among ys mark ≡ true)
common [] ys e = absurd (true≢false (sym e))
common (x ∷ xs) ys e = ⊎_elim
    (λ here. (x, or_left (bytes_eq x x) (is_among xs x) (equal_bytes x x refl), here))
    (λ later. let w = common xs ys later in (w.0, or_right (bytes_eq x w.0) (is_among xs w.0) w.1, w.2))
    (or_cases (is_among ys x) (has_common xs ys) e)

have_common : (xs ys : List Text) (mark : Text) → is_among xs mark ≡ true → is_among ys mark ≡ true → has_common xs ys ≡ true
have_common [] ys mark e among = absurd (true≢false (sym e))
have_common (x ∷ xs) ys mark e among = ⊎_elim
    (λ here. or_left (is_among ys x) (has_common xs ys) (ap (is_among ys) (same_bytes x mark here) ∙ among))
    (λ later. or_right (is_among ys x) (has_common xs ys) (have_common xs ys mark later among))
    (or_cases (bytes_eq x mark) (is_among xs mark) e)

none_among : (xs : List Text) → ((mark : Text) → is_among xs mark ≡ false) → xs ≡ []
none_among [] none = refl
none_among (x ∷ xs) none = absurd (true≢false (sym (or_left (bytes_eq x x) (is_among xs x) (equal_bytes x x refl)) ∙ none x))

-- ==== answers, each once

module _ (h : Histories) (ts : List Tally) (ms : List Member) (are : AreMembers h ts ms) where
  -- what holds of the answers of all members holds of all answers
  pub all_answers : (P : Contact → Type 0) → AllByRecursion (λ m. P (answer_in m)) ms → AllByRecursion P (answers h ts)
  all_answers P all = all_mapped (λ (t : Tally). t.contact) P (tallied (map (answered h.ours) ts))
      (each_tallied P (map (answered h.ours) ts) (subst (AllByRecursion (λ (t : Tally). P t.contact)) are.answers
      (all_mapped (λ (m : Member). tally_of m.answer) (λ (t : Tally). P t.contact) ms all)))

  -- and the other way round
  all_members : (P : Contact → Type 0) → AllByRecursion P (answers h ts) → AllByRecursion (λ m. P (answer_in m)) ms
  all_members P all = all_map (λ (m : Member). tally_of m.answer) (λ (t : Tally). P t.contact) ms (subst (AllByRecursion (λ (t : Tally). P t.contact)) (sym are.answers)
      (each_untallied P (map (answered h.ours) ts) (all_map (λ (t : Tally). t.contact) P (tallied (map (answered h.ours) ts)) all)))

  answer_pairs : (R : Contact → Contact → Type 0) → ((m n : Member) → m ∈ ms → n ∈ ms → R (answer_in m) (answer_in n)) → AllByRecursion (λ a. AllByRecursion (R a) (answers h ts)) (answers h ts)
  answer_pairs R f = all_answers (λ a. AllByRecursion (R a) (answers h ts))
      (each (λ m. AllByRecursion (R (answer_in m)) (answers h ts)) ms (λ m i. all_answers (R (answer_in m)) (each (λ n. R (answer_in m) (answer_in n)) ms (λ n j. f m n i j))))

  member_pairs : (R : Contact → Contact → Type 0) → AllByRecursion (λ a. AllByRecursion (R a) (answers h ts)) (answers h ts) → (m n : Member) → m ∈ ms → n ∈ ms → R (answer_in m) (answer_in n)
  member_pairs R all m n i j =
      at (λ n. R (answer_in m) (answer_in n)) ms (all_members (R (answer_in m)) (at (λ m. AllByRecursion (R (answer_in m)) (answers h ts)) ms (all_members (λ a. AllByRecursion (R a) (answers h ts)) all) m i)) n j

-- ---- the first contact with an answer

pub first_of : List Member → Contact → ℕ
first_of ms a = position_or_len (λ b. same_contact (answer_in b) a) ms

first_by : (n len i : ℕ) (b : Bool) → nat_lt n len ≡ b → cond b (Some n) None ≡ Some i → n ≡ i
first_by n len i true lt is = cc
first_by n len i false lt is = cc

pub first_is : (ms : List Member) (m : Member) → IsFirstOf ms m → first_of ms (answer_in m) ≡ m.first
unfolding first_of
first_is ms m is = first_by (position_or_len (λ b. same_contact (answer_in b) (answer_in m)) ms) (length ms) m.first _ refl is

pub first_below : (ms : List Member) (m : Member) → IsFirstOf ms m → m.first < length ms
first_below ms m is = (position-Some (λ b. same_contact (answer_in b) (answer_in m)) ms m.first m is).0

-- it has that answer
pub first_at : (ms : List Member) (m : Member) → IsFirstOf ms m → answer_in (get_or ms m.first m) ≡ answer_in m
first_at ms m is = same_is (answer_in (get_or ms m.first m)) (answer_in m) (position-Some (λ b. same_contact (answer_in b) (answer_in m)) ms m.first m is).1

-- ---- links

abbrev is_link : Text × ℕ → Text × ℕ → Bool
is_link q l = bytes_eq l.0 q.0 && l.1 == q.1

link_is : (q l : Text × ℕ) → is_link q l ≡ true → q ≡ l
link_is q l is =
    let both = and_parts (bytes_eq l.0 q.0) (l.1 == q.1) is in
    let number : q.1 ≡ l.1 = sym (eqb-true l.1 q.1 both.1) in
    λ i. (sym (same_bytes l.0 q.0 both.0) i, number i)

itself_linked : (q : Text × ℕ) → is_link q q ≡ true
itself_linked q = λ i. equal_bytes q.0 q.0 refl i && eq-eqb q.1 q.1 refl i

has_link : (links : List (Text × ℕ)) (mark : Text) (item : ℕ) → list_any (is_link (mark, item)) links ≡ true → Contains links (mark, item)
has_link links mark item is = Contains-from_any link_is (mark, item) links is

link_found : (links : List (Text × ℕ)) (mark : Text) (item : ℕ) → Contains links (mark, item) → list_any (is_link (mark, item)) links ≡ true
link_found links mark item has =
    list_any_at (is_link (mark, item)) links has.0 (mark, item) has.1 (ap (is_link (mark, item)) has.2 ∙ itself_linked (mark, item))

-- an item with a mark is linked, and the other way round
item_linked : (links : List (Text × ℕ)) (mark : Text) (item : ℕ) → list_any (is_link (mark, item)) links ≡ true → is_linked links item ≡ true
item_linked [] mark item e = absurd (true≢false (sym e))
item_linked (l ∷ links) mark item e = ⊎_elim
    (λ here. or_left (l.1 == item) (is_linked links item) (and_parts (bytes_eq l.0 mark) (l.1 == item) here).1)
    (λ later. or_right (l.1 == item) (is_linked links item) (item_linked links mark item later))
    (or_cases (is_link (mark, item) l) (list_any (is_link (mark, item)) links) e)

linked_mark : (links : List (Text × ℕ)) (item : ℕ) → is_linked links item ≡ true → (mark : Text) × (list_any (is_link (mark, item)) links ≡ true)
linked_mark [] item e = absurd (true≢false (sym e))
linked_mark (l ∷ links) item e = ⊎_elim
    (λ here. (l.0, or_left (is_link (l.0, item) l) (list_any (is_link (l.0, item)) links) (λ i. equal_bytes l.0 l.0 refl i && here i)))
    (λ later. let w = linked_mark links item later in (w.0, or_right (is_link (w.0, item) l) (list_any (is_link (w.0, item)) links) w.1))
    (or_cases (l.1 == item) (is_linked links item) e)

member_with : (p : Member → Bool) (ms : List Member) → list_any p ms ≡ true → (m : Member) × (m ∈ ms) × (p m ≡ true)
member_with p [] e = absurd (true≢false (sym e))
member_with p (m ∷ ms) e = ⊎_elim
    (λ here. (m, inl refl, here))
    (λ later. let w = member_with p ms later in (w.0, inr w.1, w.2))
    (or_cases (p m) (list_any p ms) e)

-- ==== the classes of answers

-- a property of answers, as a number for the contact at an index
abbrev value_of : (Contact → Bool) → Option Member → ℕ
value_of f None = 0
value_of f (Some m) = cond (f (answer_in m)) 1 0

one_value : (a b : Bool) → ◌≡◌ {A = ℕ} (cond a 1 0) (cond b 1 0) → a ≡ b
one_value true true e = refl
one_value true false e = absurd (omega (arith, e))
one_value false true e = absurd (omega (arith, e))
one_value false false e = refl

module _ (marks : Contact → List Text) (h : Histories) (ts : List Tally) (ms : List Member) (are : AreMembers h ts ms) (links : List (Text × ℕ)) (all : AreLinksOf marks ms links)
    (found : List ℕ) (classes : AreClasses (length ms) links found) (few : length ms < 2 ^ 64) where
  abbrev class_at : ℕ → Text
  class_at item = text_if (is_linked links item) (class_of found item)

  abbrev pub class : Contact → Text
  class a = class_at (first_of ms a)

  is_first : (m : Member) → m ∈ ms → IsFirstOf ms m
  is_first m i = at (IsFirstOf ms) ms are.firsts m i

  below : (m : Member) → m ∈ ms → m.first < length ms
  below m i = first_below ms m (is_first m i)

  class_in : (m : Member) → m ∈ ms → class (answer_in m) ≡ class_at m.first
  class_in m i = ap class_at (first_is ms m (is_first m i))

  small : (m : Member) → m ∈ ms → class_of found m.first < 2 ^ 64
  small m i = omega (arith, few, below m i, classes.least m.first (below m i))

  -- a mark of an answer
  marked : (m : Member) → m ∈ ms → (mark : Text) → list_any (is_link (mark, m.first)) links ≡ is_among (marks (answer_in m)) mark
  marked m i = at (λ m. (mark : Text) → list_any (is_link (mark, m.first)) links ≡ is_among (marks (answer_in m)) mark) ms all.every m i

  joined_in : (m n : Member) → m ∈ ms → n ∈ ms → IsTrue (has_common (marks (answer_in m)) (marks (answer_in n))) → class (answer_in m) ≡ class (answer_in n)
  joined_in m n i j e =
      let both = common (marks (answer_in m)) (marks (answer_in n)) e in
      let first : list_any (is_link (both.0, m.first)) links ≡ true = marked m i both.0 ∙ both.1 in
      let second : list_any (is_link (both.0, n.first)) links ≡ true = marked n j both.0 ∙ both.2 in
      let one : class_of found m.first ≡ class_of found n.first = classes.joined both.0 m.first n.first (has_link links both.0 m.first first) (has_link links both.0 n.first second) in
      let linked : is_linked links m.first ≡ is_linked links n.first = item_linked links both.0 m.first first ∙ sym (item_linked links both.0 n.first second) in
      class_in m i ∙ (λ k. text_if (linked k) (one k)) ∙ sym (class_in n j)

  -- a property that answers with a mark in common have in common
  module _ (f : Contact → Bool) (agrees : (m n : Member) → m ∈ ms → n ∈ ms → IsTrue (has_common (marks (answer_in m)) (marks (answer_in n))) → f (answer_in m) ≡ f (answer_in n)) where
    abbrev value : ℕ → ℕ
    value item = value_of f (slice_get ms item)

    value_is : (m : Member) → m ∈ ms → value m.first ≡ cond (f (answer_in m)) 1 0
    value_is m i = ap (value_of f) (slice_get-get_or ms m.first m (below m i)) ∙ ap (λ a. cond (f a) 1 0) (first_at ms m (is_first m i))

    owner : (mark : Text) (item : ℕ) → Contains links (mark, item) → (m : Member) × (m ∈ ms) × (item ≡ m.first) × (is_among (marks (answer_in m)) mark ≡ true)
    owner mark item has =
        let only : list_any (λ (m : Member). item == m.first) ms ≡ true =
        All-contains (λ (l : Text × ℕ). list_any (λ (m : Member). l.1 == m.first) ms ≡ true) links (mark, item) (All-from_recursion (λ (l : Text × ℕ). list_any (λ (m : Member). l.1 == m.first) ms ≡ true) links all.only) has in
        let w = member_with (λ (m : Member). item == m.first) ms only in
        let is : item ≡ w.0.first = eqb-true item w.0.first w.2 in
        (w.0, w.1, is, sym (marked w.0 w.1 mark) ∙ ap (λ k. list_any (is_link (mark, k)) links) (sym is) ∙ link_found links mark item has)

    values_agree : AgreesOn links value
    values_agree mark i j has_i has_j =
        let a = owner mark i has_i in
        let b = owner mark j has_j in
        ap value a.2 ∙ value_is a.0 a.1
        ∙ ap (λ b. cond b 1 0) (agrees a.0 b.0 a.1 b.1 (have_common (marks (answer_in a.0)) (marks (answer_in b.0)) mark a.3 b.3))
        ∙ sym (ap value b.2 ∙ value_is b.0 b.1)

    finest_in : (m n : Member) → m ∈ ms → n ∈ ms → class (answer_in m) ≡ class (answer_in n) → class (answer_in m) ≢ [] → f (answer_in m) ≡ f (answer_in n)
    finest_in m n i j same some =
        let same_at : class_at m.first ≡ class_at n.first = sym (class_in m i) ∙ same ∙ class_in n j in
        let some_at : class_at m.first ≢ [] = λ none. some (class_in m i ∙ none) in
        let first : is_linked links m.first ≡ true = some_text (is_linked links m.first) (class_of found m.first) some_at in
        let second : is_linked links n.first ≡ true = some_text (is_linked links n.first) (class_of found n.first) (λ none. some_at (same_at ∙ none)) in
        let one : class_of found m.first ≡ class_of found n.first = one_number _ _ _ _ first second (small m i) (small n j) same_at in
        one_value (f (answer_in m)) (f (answer_in n))
        (sym (value_is m i) ∙ classes.finest value values_agree m.first n.first (below m i) (below n j) one ∙ value_is n j)

  unmarked_in : (m : Member) → m ∈ ms → class (answer_in m) ≡ [] ↔ marks (answer_in m) ≡ []
  unmarked_in m i = (
    λ none. let linked : is_linked links m.first ≡ false = no_text (is_linked links m.first) (class_of found m.first) (small m i) (sym (class_in m i) ∙ none) in
        none_among (marks (answer_in m)) (λ mark. ⊎_elim
        (λ among. absurd (true≢false (sym (item_linked links mark m.first (marked m i mark ∙ among)) ∙ linked)))
        (λ no. no)
        (cases_Bool (is_among (marks (answer_in m)) mark))),
    λ none. class_in m i ∙ ⊎_elim
        (λ yes. let w = linked_mark links m.first yes in absurd (true≢false (sym w.1 ∙ marked m i w.0 ∙ ap (λ l. is_among l w.0) none)))
        (λ no. ap (λ b. text_if b (class_of found m.first)) no)
        (cases_Bool (is_linked links m.first)),
  )

  pub are_classes_by : AreClassesBy marks (answers h ts) class
  are_classes_by = record {
    joined = answer_pairs h ts ms are (λ a b. IsTrue (has_common (marks a) (marks b)) → class a ≡ class b) joined_in;
    finest = λ f agrees. answer_pairs h ts ms are (λ a b. class a ≡ class b → class a ≢ [] → f a ≡ f b)
        (finest_in f (member_pairs h ts ms are (λ a b. IsTrue (has_common (marks a) (marks b)) → f a ≡ f b) agrees));
    unmarked = all_answers h ts ms are (λ a. class a ≡ [] ↔ marks a ≡ []) (each (λ m. class (answer_in m) ≡ [] ↔ marks (answer_in m) ≡ []) ms unmarked_in);
  }

  -- as the code reads them
  pub texts_are : (texts : List (Vec ℕ)) (linked : List Bool) → map (λ (v : Vec ℕ). v.items) texts ≡ map (λ (m : Member). text_if (get_or linked m.first false) (get_or found m.first 0)) ms
      → length linked ≡ length ms → ((item : ℕ) → item < length ms → slice_get linked item ≡ Some (is_linked links item))
      → map (λ (v : Vec ℕ). folded v.items) texts ≡ map (λ (m : Member). class (answer_in m)) ms
  texts_are texts linked is long there =
      sym (map-map folded (λ (v : Vec ℕ). v.items) texts) ∙ ap (map folded) is
      ∙ map-map folded (λ (m : Member). text_if (get_or linked m.first false) (get_or found m.first 0)) ms
      ∙ map_alike (λ (m : Member). folded (text_if (get_or linked m.first false) (get_or found m.first 0))) (λ (m : Member). class (answer_in m)) ms
      (each (λ m. folded (text_if (get_or linked m.first false) (get_or found m.first 0)) ≡ class (answer_in m)) ms (λ m i.
      folded_text_if (get_or linked m.first false) (get_or found m.first 0) (small m i)
      ∙ ap (λ b. text_if b (get_or found m.first 0)) (get_or_from_slice_get linked m.first (is_linked links m.first) false (there m.first (below m i)))
      ∙ sym (class_in m i)))
