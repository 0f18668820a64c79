-- The first login that links answers, from those of the contacts that first get them.
use Rattle.std.proofs.Common.{◌≡◌, ◌∙◌, ◌+◌, ◌<◌, ◌≤◌, ◌||◌, ◌&&◌, ◌==◌, ◌++◌, ◌⊎◌, ℕ, zero, suc, Bool, true, false, cond, Bor, List, [], ◌∷◌, Option, None, Some, add-one, ap, arith, bytes_eq, filter, flat_map, fold, get_or, if◌then◌else◌, inl, inr, length, map, not, refl, set, slice_get, subst, sym, take, take_all, true≢false, ⊎_elim}
use Rattle.std.specs.Prelude.{option_to_list}
use Rattle.std.specs.List.{AllByRecursion, list_any}
use Rattle.std.specs.Option.{option_copied, option_or}
use Rattle.std.proofs.lemmas.Bool.{cases_eq, cases_lt, eq-eqb, eqb-true, ne_eqb, false_from_ne_true}
use Rattle.std.proofs.lemmas.Cmp.{nat_list_eq_equiv}
use Rattle.std.proofs.lemmas.List.{get_or-map, get_or-set_other, get_or-set_same, get_or-take, get_or_default, length-map, length-set, length-take-le, map-append, map-set, map_more, same_lists, set-get_or, set_past, take_more}
use Rattle.std.proofs.lemmas.List.Elements.{All-from_get_or, filter-append}
use Rattle.std.proofs.lemmas.List.Folds.{flat_map-map, list_any-append, list_any_at, list_any_none}
use Rattle.std.proofs.lemmas.List.Quantifiers.{position-Some}
use Rattle.std.proofs.lemmas.List.Sums.{fold_more}
use Rattle.std.proofs.lemmas.Option.{slice_get-get_or}
use Rattle.mailmap_contacts.proofs.Entries.{same_is}
use Rattle.mailmap_contacts.proofs.Tallied.{itself}
use Rattle.mailmap_contacts.specs.Answers.{tally_of}
use Rattle.mailmap_contacts.specs.Contacts.{Contact, Tally, answer_to, answered, same_contact, tallied}
use Rattle.mailmap_entries.specs.Folding.{Text}
use Rattle.mailmap_entries.proofs.Parts.{all_weaker, filter-map, list_any-map}
use Rattle.mailmap_names.specs.Keys.{is_among}
use Rattle.mailmap_names.specs.Logins.{login}
use Rattle.mailmap_suggestions.specs.FirstLogins.{is_missing, login_in, own_login, with_login}
use Rattle.mailmap_suggestions.specs.Forms.{Histories}
use Rattle.mailmap_suggestions.specs.GroupEntries.{contacts}
use Rattle.mailmap_suggestions.specs.Links.{all_name_keys, another_has, answered_by, answers, email_keys, is_first_name, linking_logins, name_keys, participants}
use Rattle.mailmap_suggestions.specs.LinkViews.{AreLoginKeys, AreMembers, AreWhole, IsFirstOf, answer_in, contact_in, is_name_in, mark_text, mark_texts}
use Rattle.mailmap_suggestions.specs.Suggestions.{first_or_empty}
use Rattle.mailmap_suggestions.specs.declared.links.LoginKeys.{LoginKeys}
use Rattle.mailmap_suggestions.specs.declared.marks.Mark.{Mark}
use Rattle.mailmap_suggestions.specs.declared.members.Member.{Member}
use Rattle.mailmap_suggestions.proofs.Classed.{first_at, first_below, first_is, first_of}
use Rattle.mailmap_suggestions.proofs.Distinct.{at, each, same_bytes, ◌∈◌}

-- ==== keys that are names of another answer

-- a text that passes a test is among those that pass
among_kept : (p : Text → Bool) (xs : List Text) (key : Text) → is_among (filter p xs) key ≡ (p key && is_among xs key)
among_kept p [] key = and_false (p key)
  where
    and_false : (b : Bool) → false ≡ (b && false)
    and_false true = refl
    and_false false = refl
among_kept p (x ∷ xs) key = by (bytes_eq x key) (p x) refl refl (among_kept p xs key)
  where
    by : (same kept : Bool) → bytes_eq x key ≡ same → p x ≡ kept → is_among (filter p xs) key ≡ (p key && is_among xs key) → is_among (cond kept (x ∷ filter p xs) (filter p xs)) key ≡ (p key && (same || is_among xs key))
    by true true same kept rest = ap (λ b. b || is_among (filter p xs) key) same ∙ sym (ap (λ b. b && true) (ap p (sym (same_bytes x key same)) ∙ kept))
    by true false same kept rest = rest ∙ ap (λ b. b && is_among xs key) (ap p (sym (same_bytes x key same)) ∙ kept) ∙ sym (ap (λ b. b && true) (ap p (sym (same_bytes x key same)) ∙ kept))
    by false true same kept rest = ap (λ b. b || is_among (filter p xs) key) same ∙ rest
    by false false same kept rest = rest

swapped : (a b c : Bool) → (a && (b && c)) ≡ (b && (a && c))
swapped true b c = refl
swapped false true c = refl
swapped false false c = refl

shared_test : (q a b : Bool) → ((q && a) || (q && b)) ≡ (q && (a || b))
shared_test true a b = refl
shared_test false a b = refl

-- whether another one has a key that passes a test
another_kept : (p : Text → Bool) (keys_of : Contact → List Text) (others : List Contact) (a : Contact) (key : Text) → another_has (λ b. filter p (keys_of b)) others a key ≡ (p key && another_has keys_of others a key)
another_kept p keys_of [] a key = none (p key)
  where
    none : (b : Bool) → false ≡ (b && false)
    none true = refl
    none false = refl
another_kept p keys_of (b ∷ others) a key =
    (λ i. (not (same_contact b a) && among_kept p (keys_of b) key i) || another_kept p keys_of others a key i)
    ∙ ap (λ t. t || (p key && another_has keys_of others a key)) (swapped (not (same_contact b a)) (p key) (is_among (keys_of b) key))
    ∙ shared_test (p key) (not (same_contact b a) && is_among (keys_of b) key) (another_has keys_of others a key)

-- a name of another answer, that is no first name
name_is : (shared : List Text) (h : Histories) (ts : List Tally) (found : LoginKeys) → AreLoginKeys shared h ts found → (a : Contact) (key : Mark)
    → is_name_in found a key.text.items ≡ another_has (name_keys h ts) (participants shared h ts) a key.text.items
name_is shared h ts found are a key =
    (λ i. not (are.first_names key.text.items i) && are.names key.text.items a i)
    ∙ sym (another_kept (λ k. not (is_first_name h ts k)) (all_name_keys h ts) (participants shared h ts) a key.text.items)

any_name : (shared : List Text) (h : Histories) (ts : List Tally) (found : LoginKeys) → AreLoginKeys shared h ts found → (a : Contact) (ks : List Mark)
    → list_any (is_name_in found a) (mark_texts ks) ≡ list_any (another_has (name_keys h ts) (participants shared h ts) a) (mark_texts ks)
any_name shared h ts found are a [] = refl
any_name shared h ts found are a (k ∷ ks) = λ i. name_is shared h ts found are a k i || any_name shared h ts found are a ks i

-- ---- the keys of an email, as the code goes over them

pub keys_more : (p : Text → Bool) (ks : List Mark) (k : ℕ) (key : Mark) → k < length ks → key ≡ get_or ks k key → list_any p (mark_texts (take k ks)) ≡ false → p key.text.items ≡ false
    → list_any p (mark_texts (take (k + 1) ks)) ≡ false
keys_more p ks k key lt key_is none fails =
    let is : p (get_or ks k key).text.items ≡ false = ap (λ (v : Mark). p v.text.items) (sym key_is) ∙ fails in
    ap (list_any p) (map_more mark_text ks k key lt)
    ∙ list_any-append p (mark_texts (take k ks)) ((get_or ks k key).text.items ∷ [])
    ∙ (λ i. none i || (is i || false))

pub key_found : (p : Text → Bool) (ks : List Mark) (k : ℕ) (key : Mark) → k < length ks → key ≡ get_or ks k key → p key.text.items ≡ true → list_any p (mark_texts ks) ≡ true
key_found p ks k key lt key_is holds =
    list_any-map p mark_text ks ∙ list_any_at (λ (v : Mark). p v.text.items) ks k key lt (ap (λ (v : Mark). p v.text.items) (sym key_is) ∙ holds)

-- the login, once all keys were tried
pub login_by : (shared : List Text) (h : Histories) (ts : List Tally) (found : LoginKeys) → AreLoginKeys shared h ts found → (a : Contact) (email : Text) (ks : List Mark) (b : Bool)
    → mark_texts ks ≡ email_keys shared email → list_any (is_name_in found a) (mark_texts ks) ≡ b → (if b then Some (login email) else None) ≡ login_in shared h ts a email
login_by shared h ts found are a email ks b is any =
    ap (λ b. if b then Some (login email) else None)
    (sym any ∙ any_name shared h ts found are a ks ∙ ap (list_any (another_has (name_keys h ts) (participants shared h ts) a)) is)

-- ==== the first of texts

abbrev first : List Text → Option Text
first [] = None
first (x ∷ xs) = Some x

first_more : (o : Option Text) (xs : List Text) → first (option_to_list o ++ xs) ≡ option_or o (first xs)
first_more None xs = refl
first_more (Some x) xs = refl

or_assoc : (a b c : Option Text) → option_or (option_or a b) c ≡ option_or a (option_or b c)
or_assoc None b c = refl
or_assoc (Some x) b c = refl

or_nothing : (o : Option Text) → option_or o None ≡ o
or_nothing None = refl
or_nothing (Some x) = refl

-- the first of all parts is that of the first part with any
first_of_parts : {X : Type 0} (part : X → List Text) (xs : List X) → first_or_empty (flat_map option_to_list (map (λ x. first (part x)) xs)) ≡ first_or_empty (flat_map part xs)
first_of_parts part [] = refl
first_of_parts part (x ∷ xs) = by (part x) (first_of_parts part xs)
  where
    by : (found : List Text) → first_or_empty (flat_map option_to_list (map (λ x. first (part x)) xs)) ≡ first_or_empty (flat_map part xs)
        → first_or_empty (option_to_list (first found) ++ flat_map option_to_list (map (λ x. first (part x)) xs)) ≡ first_or_empty (found ++ flat_map part xs)
    by [] rest = rest
    by (y ∷ ys) rest = refl

-- the first login in a list, before which there is none
pub found_here : (found : List (Option (Bor Text))) (k : ℕ) (o : Option (Bor Text)) (b : Bor Text) → flat_map option_to_list (map option_copied (take k found)) ≡ [] → k < length found → o ≡ get_or found k o → o ≡ Some b
    → b.now ≡ first_or_empty (flat_map option_to_list (map option_copied found))
found_here [] k o b none lt there is = absurd (omega (arith, lt))
found_here (f ∷ found) zero o b none lt there is =
    ap (λ (o : Option (Bor Text)). first_or_empty (option_to_list (option_copied o) ++ flat_map option_to_list (map option_copied found))) (sym is ∙ there)
found_here (None ∷ found) (suc k) o b none lt there is = found_here found k o b none (omega (arith, lt)) there is
found_here (Some f ∷ found) (suc k) o b none lt there is = absurd (cc)

-- ==== answers, each once

-- in the order in which they first come
abbrev once : List Contact → List Contact
once [] = []
once (a ∷ rest) = a ∷ filter (λ b. not (same_contact a b)) (once rest)

once_tallied : (ts : List Tally) → contacts (tallied ts) ≡ once (contacts ts)
once_tallied [] = refl
once_tallied (t ∷ ts) = ap (λ l. t.contact ∷ l) (sym (filter-map (λ b. not (same_contact t.contact b)) (λ (u : Tally). u.contact) (tallied ts)) ∙ ap (filter (λ b. not (same_contact t.contact b))) (once_tallied ts))

same_turned : (a b : Contact) → same_contact a b ≡ same_contact b a
same_turned a b = λ i. nat_list_eq_equiv.symm a.name b.name i && nat_list_eq_equiv.symm a.email b.email i

once_push : (xs : List Contact) (a : Contact) → once (xs ++ a ∷ []) ≡ once xs ++ (if list_any (same_contact a) xs then [] else a ∷ [])
once_push [] a = refl
once_push (x ∷ xs) a =
    ap (λ l. x ∷ filter (λ b. not (same_contact x b)) l) (once_push xs a)
    ∙ ap (λ l. x ∷ l) (filter-append (λ b. not (same_contact x b)) (once xs) (if list_any (same_contact a) xs then [] else a ∷ []))
    ∙ ap (λ l. (x ∷ filter (λ b. not (same_contact x b)) (once xs)) ++ l) (by (list_any (same_contact a) xs) (same_contact x a) (same_contact a x) (same_turned x a) refl)
  where
    by : (later here there : Bool) → here ≡ there → same_contact x a ≡ here → filter (λ b. not (same_contact x b)) (if later then [] else a ∷ []) ≡ (if there || later then [] else a ∷ [])
    by true true there e is = ap (λ b. if b || true then [] else a ∷ []) e
    by true false there e is = ap (λ b. if b || true then [] else a ∷ []) e
    by false true there e is = ap (λ b. cond (not b) (a ∷ []) []) is ∙ ap (λ b. if b || false then [] else a ∷ []) e
    by false false there e is = ap (λ b. cond (not b) (a ∷ []) []) is ∙ ap (λ b. if b || false then [] else a ∷ []) e

-- ==== lists of logins, one for each contact

-- a login for a contact, where there is none yet
abbrev placed : (Member → Option Text) → List (Option Text) → Member → List (Option Text)
placed next found m = set found m.first (option_or (get_or found m.first None) (next m))

-- those for an index
abbrev logins_at : (Member → Option Text) → List Member → ℕ → List Text
logins_at next ms i = flat_map (λ (m : Member). if m.first == i then option_to_list (next m) else []) ms

placed_length : (next : Member → Option Text) (ms : List Member) (found : List (Option Text)) → length (fold (placed next) found ms) ≡ length found
placed_length next [] found = refl
placed_length next (m ∷ ms) found = placed_length next ms (placed next found m) ∙ length-set found m.first (option_or (get_or found m.first None) (next m))

placed_at : (next : Member → Option Text) (ms : List Member) (found : List (Option Text)) (i : ℕ) → i < length found
    → get_or (fold (placed next) found ms) i None ≡ option_or (get_or found i None) (first (logins_at next ms i))
placed_at next [] found i lt = sym (or_nothing (get_or found i None))
placed_at next (m ∷ ms) found i lt =
    placed_at next ms (placed next found m) i (subst (λ n. i < n) (sym (length-set found m.first _)) lt) ∙ ⊎_elim
    (λ (same : m.first ≡ i).
    ap (λ o. option_or o (first (logins_at next ms i)))
    (ap (λ k. get_or (set found k (option_or (get_or found k None) (next m))) i None) same ∙ get_or-set_same found i (option_or (get_or found i None) (next m)) None lt)
    ∙ or_assoc (get_or found i None) (next m) (first (logins_at next ms i))
    ∙ ap (option_or (get_or found i None)) (sym (first_more (next m) (logins_at next ms i)) ∙ ap (λ b. first ((if b then option_to_list (next m) else []) ++ logins_at next ms i)) (sym (eq-eqb m.first i same))))
    (λ (other : m.first ≡ i → ⊥).
    ap (λ o. option_or o (first (logins_at next ms i))) (get_or-set_other found m.first i (option_or (get_or found m.first None) (next m)) None (λ e. other (sym e)))
    ∙ ap (λ b. option_or (get_or found i None) (first ((if b then option_to_list (next m) else []) ++ logins_at next ms i))) (sym (ne_eqb m.first i other)))
    (cases_eq m.first i)

-- ---- as the code has them

-- there is none yet, so it is placed
placed_missing : (next : Member → Option Text) (found : List (Option (Bor Text))) (m : Member) (o : Option (Bor Text)) → is_missing (slice_get found m.first) ≡ true → option_copied o ≡ next m
    → map option_copied (set found m.first o) ≡ placed next (map option_copied found) m
placed_missing next found m o missing is =
    map-set option_copied found m.first o ∙ ap (set (map option_copied found) m.first) (is ∙ ap (λ p. option_or p (next m)) (sym (by found m.first missing)))
  where
    none : (o : Option (Bor Text)) → is_missing (Some o) ≡ true → option_copied o ≡ None
    none None e = refl
    none (Some b) e = absurd (true≢false (sym e))

    by : (found : List (Option (Bor Text))) (i : ℕ) → is_missing (slice_get found i) ≡ true → get_or (map option_copied found) i None ≡ None
    by [] i e = refl
    by (o ∷ found) zero e = none o e
    by (o ∷ found) (suc i) e = by found i e

pub missing_within : (found : List (Option (Bor Text))) (i : ℕ) → is_missing (slice_get found i) ≡ true → i < length found
missing_within [] i e = absurd (true≢false (sym e))
missing_within (o ∷ found) zero e = omega arith
missing_within (o ∷ found) (suc i) e = omega (arith, missing_within found i e)

-- it stays
placed_present : (next : Member → Option Text) (found : List (Option (Bor Text))) (m : Member) → is_missing (slice_get found m.first) ≡ false
    → map option_copied found ≡ placed next (map option_copied found) m
placed_present next found m present = by (map option_copied found) m.first (next m) (there found m.first present)
  where
    some : (o : Option (Bor Text)) → is_missing (Some o) ≡ false → (x : Text) × (option_copied o ≡ Some x)
    some None e = absurd (true≢false e)
    some (Some b) e = (b.now, refl)

    there : (found : List (Option (Bor Text))) (i : ℕ) → is_missing (slice_get found i) ≡ false → (length (map option_copied found) ≤ i) ⊎ ((x : Text) × (get_or (map option_copied found) i None ≡ Some x))
    there [] i e = inl (omega arith)
    there (o ∷ found) zero e = inr (some o e)
    there (o ∷ found) (suc i) e = ⊎_elim (λ le. inl (omega (arith, le))) (λ w. inr w) (there found i e)

    by : (found : List (Option Text)) (i : ℕ) (o : Option Text) → (length found ≤ i) ⊎ ((x : Text) × (get_or found i None ≡ Some x)) → found ≡ set found i (option_or (get_or found i None) o)
    by found i o why = ⊎_elim
        (λ le. sym (set_past found i (option_or (get_or found i None) o) le))
        (λ w. sym (ap (λ p. set found i (option_or p o)) w.1 ∙ ap (set found i) (sym w.1) ∙ set-get_or found i None))
        why

module _ (shared : List Text) (h : Histories) (ts : List Tally) (group : List Member) (k : ℕ) (d : Member) (start : List (Option Text)) (read old : List (Option (Bor Text))) where
  abbrev next_login : Member → Option Text
  next_login m = login_in shared h ts (answer_in m) (contact_in m).contact.email

  -- one more contact, for an answer without a login yet, and for one with a login
  pub contact_more : (new : List (Option (Bor Text))) (o : Option (Bor Text)) → k < length group → map option_copied old ≡ fold (with_login shared h ts) start (take k group) → read ≡ old
      → is_missing (slice_get read (get_or group k d).first) ≡ true → option_copied o ≡ login_in shared h ts (answer_in (get_or group k d)) (contact_in (get_or group k d)).contact.email
      → new ≡ set old (get_or group k d).first o → map option_copied new ≡ fold (with_login shared h ts) start (take (k + 1) group)
  contact_more new o lt so_far read_is missing is new_is =
      ap (map option_copied) new_is
      ∙ placed_missing next_login old (get_or group k d) o (ap (λ l. is_missing (slice_get l (get_or group k d).first)) (sym read_is) ∙ missing) is
      ∙ ap (λ l. with_login shared h ts l (get_or group k d)) so_far
      ∙ sym (fold_more (with_login shared h ts) start group k d lt)

  pub contact_skipped : k < length group → map option_copied old ≡ fold (with_login shared h ts) start (take k group) → read ≡ old
      → is_missing (slice_get read (get_or group k d).first) ≡ false → map option_copied old ≡ fold (with_login shared h ts) start (take (k + 1) group)
  contact_skipped lt so_far read_is present =
      placed_present next_login old (get_or group k d) (ap (λ l. is_missing (slice_get l (get_or group k d).first)) (sym read_is) ∙ present)
      ∙ ap (λ l. with_login shared h ts l (get_or group k d)) so_far
      ∙ sym (fold_more (with_login shared h ts) start group k d lt)

-- ==== contacts with their answers

get_in : (ms : List Member) (k : ℕ) (d : Member) → k < length ms → get_or ms k d ∈ ms
get_in [] k d lt = absurd (omega (arith, lt))
get_in (m ∷ ms) zero d lt = inl refl
get_in (m ∷ ms) (suc k) d lt = inr (get_in ms k d (omega (arith, lt)))

any_turned : (a : Contact) (ms : List Member) → list_any (λ (b : Member). same_contact a (answer_in b)) ms ≡ list_any (λ (b : Member). same_contact (answer_in b) a) ms
any_turned a [] = refl
any_turned a (m ∷ ms) = λ i. same_turned a (answer_in m) i || any_turned a ms i

-- no contact with an answer comes before the first one
least : (ms : List Member) (m : Member) (k : ℕ) → IsFirstOf ms m → same_contact (answer_in (get_or ms k m)) (answer_in m) ≡ true → m.first ≤ k
least ms m k is same = ⊎_elim
    (λ early. absurd (true≢false (sym same ∙ (position-Some (λ b. same_contact (answer_in b) (answer_in m)) ms m.first m is).2 k early)))
    (λ le. le)
    (cases_lt k m.first)

some_member : (ms : List Member) (k : ℕ) → k < length ms → (m : Member) × (get_or ms k m ≡ m)
some_member [] k lt = absurd (omega (arith, lt))
some_member (m ∷ ms) zero lt = (m, refl)
some_member (m ∷ ms) (suc k) lt = some_member ms k (omega (arith, lt))

module _ (h : Histories) (us : List Tally) (ms : List Member) (are : AreMembers h us ms) where
  is_first_of : (m : Member) → m ∈ ms → IsFirstOf ms m
  is_first_of m i = at (IsFirstOf ms) ms are.firsts m i

  -- ---- those that first come with their answers

  flag : (k : ℕ) (m : Member) → k < length ms → get_or ms k m ≡ m → m.is_first ≡ (m.first == k)
  flag k m lt is = are.is_first k m (slice_get-get_or ms k m lt ∙ ap Some is)

  -- whether a contact before has the answer of the one at an index
  before : (k : ℕ) (m : Member) → k < length ms → get_or ms k m ≡ m → list_any (same_contact (answer_in m)) (map answer_in (take k ms)) ≡ not m.is_first
  before k m lt is =
      let has : Member → Bool = λ b. same_contact (answer_in b) (answer_in m) in
      let is_first : IsFirstOf ms m = is_first_of m (subst (λ b. b ∈ ms) is (get_in ms k m lt)) in
      let place = position-Some has ms m.first m is_first in
      let le : m.first ≤ k = least ms m k is_first (ap has is ∙ itself (answer_in m)) in
      let taken : length (take k ms) ≡ k = length-take-le k ms (omega (arith, lt)) in
      list_any-map (same_contact (answer_in m)) answer_in (take k ms)
      ∙ any_turned (answer_in m) (take k ms)
      ∙ ⊎_elim
      (λ (same : m.first ≡ k).
      list_any_none has (take k ms) (All-from_get_or (λ b. has b ≡ false) (take k ms) m
      (λ i below. let within : i < k = omega (arith, below, taken) in
      ap has (get_or-take k ms i m within) ∙ place.2 i (omega (arith, within, same))))
      ∙ ap not (sym (flag k m lt is ∙ eq-eqb m.first k same)))
      (λ (other : m.first ≡ k → ⊥).
      let early : m.first < k = omega (arith, le, other) in
      list_any_at has (take k ms) m.first m (omega (arith, early, taken)) (ap has (get_or-take k ms m.first m early) ∙ place.1)
      ∙ ap not (sym (flag k m lt is ∙ ne_eqb m.first k other)))
      (cases_eq m.first k)

  abbrev firsts : List Member → List Contact
  firsts found = map answer_in (filter (λ (m : Member). m.is_first) found)

  once_firsts : (k : ℕ) → k ≤ length ms → once (map answer_in (take k ms)) ≡ firsts (take k ms)
  once_firsts zero le = refl
  once_firsts (suc k) le = elim_member (some_member ms k (omega (arith, le))) (once_firsts k (omega (arith, le)))
    where
      one : (m : Member) → (if not m.is_first then [] else answer_in m ∷ []) ≡ firsts (m ∷ [])
      one m = elim m.is_first as (λ b. (if not b then [] else answer_in m ∷ []) ≡ map answer_in (cond b (m ∷ []) [])) [ true ↦ refl | false ↦ refl ]

      elim_member : (m : Member) × (get_or ms k m ≡ m) → once (map answer_in (take k ms)) ≡ firsts (take k ms) → once (map answer_in (take (suc k) ms)) ≡ firsts (take (suc k) ms)
      elim_member w so_far =
          let m : Member = w.0 in
          let lt : k < length ms = omega (arith, le) in
          let more : take (suc k) ms ≡ take k ms ++ m ∷ [] = ap (λ n. take n ms) (sym (add-one k)) ∙ take_more ms k m lt ∙ ap (λ m. take k ms ++ m ∷ []) w.1 in
          ap (λ l. once (map answer_in l)) more ∙ ap once (map-append answer_in (take k ms) (m ∷ []))
          ∙ once_push (map answer_in (take k ms)) (answer_in m)
          ∙ (λ i. so_far i ++ (if before k m lt w.1 i then [] else answer_in m ∷ []))
          ∙ ap (λ l. firsts (take k ms) ++ l) (one m)
          ∙ sym (ap (map answer_in) (filter-append (λ (m : Member). m.is_first) (take k ms) (m ∷ [])) ∙ map-append answer_in (filter (λ (m : Member). m.is_first) (take k ms)) (filter (λ (m : Member). m.is_first) (m ∷ [])))
          ∙ ap firsts (sym more)

  answers_are : answers h us ≡ firsts ms
  answers_are =
      once_tallied (map (answered h.ours) us)
      ∙ ap (λ l. once (contacts l)) (sym are.answers) ∙ ap once (contacts_are ms)
      ∙ ap (λ l. once (map answer_in l)) (sym (take_all (length ms) ms (omega arith)))
      ∙ once_firsts (length ms) (omega arith)
      ∙ ap firsts (take_all (length ms) ms (omega arith))
    where
      contacts_are : (ms : List Member) → contacts (map (λ (m : Member). tally_of m.answer) ms) ≡ map answer_in ms
      contacts_are [] = refl
      contacts_are (m ∷ ms) = ap (λ l. answer_in m ∷ l) (contacts_are ms)

  -- ---- the contacts with an answer

  -- the one at an index is the first with its answer if it is so for some contact
  first_there : (m : Member) → m ∈ ms → (b : Member) → get_or ms m.first b ≡ b → answer_in b ≡ answer_in m
  first_there m i b is = ap answer_in (sym is ∙ get_or_default ms m.first b m (first_below ms m (is_first_of m i))) ∙ first_at ms m (is_first_of m i)

  -- answers that are the same have one first contact
  one_first : (m n : Member) → m ∈ ms → n ∈ ms → answer_in m ≡ answer_in n → m.first ≡ n.first
  one_first m n i j same = sym (first_is ms m (is_first_of m i)) ∙ ap (first_of ms) same ∙ first_is ms n (is_first_of n j)

  -- the contacts with the answer of one that is the first
  is_at : (k : ℕ) (b : Member) → k < length ms → get_or ms k b ≡ b → b.is_first ≡ true → (m : Member) → m ∈ ms → (m.first == k) ≡ same_contact (answer_in m) (answer_in b)
  is_at k b lt is holds m i =
      let there : b ∈ ms = subst (λ m. m ∈ ms) is (get_in ms k b lt) in
      let place : b.first ≡ k = eqb-true b.first k (sym (flag k b lt is) ∙ holds) in
      ⊎_elim
      (λ (same : m.first ≡ k).
      let one : answer_in b ≡ answer_in m = first_there m i b (ap (λ k. get_or ms k b) same ∙ is) in
      eq-eqb m.first k same ∙ sym (ap (λ a. same_contact a (answer_in b)) (sym one) ∙ itself (answer_in b)))
      (λ (other : m.first ≡ k → ⊥).
      ne_eqb m.first k other
      ∙ sym (false_from_ne_true (same_contact (answer_in m) (answer_in b)) (λ same. other (one_first m b i there (same_is (answer_in m) (answer_in b) same) ∙ place))))
      (cases_eq m.first k)

  none_at : (k : ℕ) (b : Member) → k < length ms → get_or ms k b ≡ b → b.is_first ≡ false → (m : Member) → m ∈ ms → (m.first == k) ≡ false
  none_at k b lt is fails m i = ne_eqb m.first k
      (λ same. let there : b ∈ ms = subst (λ m. m ∈ ms) is (get_in ms k b lt) in
      let one : answer_in b ≡ answer_in m = first_there m i b (ap (λ k. get_or ms k b) same ∙ is) in
      true≢false (sym (flag k b lt is ∙ eq-eqb b.first k (one_first b m there i one ∙ same)) ∙ fails))

  -- ---- the logins of an answer

  module _ (of : Contact → Text → Option Text) where
    abbrev own : Member → Option Text
    own m = if m.is_first then of (answer_in m) (answer_in m).email else None

    abbrev next : Member → Option Text
    next m = of (answer_in m) (contact_in m).contact.email

    -- those of an answer: of its own email, and of those of the contacts
    abbrev logins_of : Contact → List Text
    logins_of a = flat_map (λ email. option_to_list (of a email)) (a.email ∷ map (λ (c : Contact). c.email) (answered_by h us a))

    abbrev logins_in : Member → List Text
    logins_in m = if m.is_first then logins_of (answer_in m) else []

    no_logins : (k : ℕ) → ((m : Member) → m ∈ ms → (m.first == k) ≡ false) → logins_at next ms k ≡ []
    no_logins k none = by ms (each (λ m. (m.first == k) ≡ false) ms none)
      where
        by : (ms : List Member) → AllByRecursion (λ (m : Member). (m.first == k) ≡ false) ms → logins_at next ms k ≡ []
        by [] all = refl
        by (m ∷ ms) all = (λ i. (if all.0 i then option_to_list (next m) else []) ++ logins_at next ms k) ∙ by ms all.1

    contact_logins : (k : ℕ) (a : Contact) → ((m : Member) → m ∈ ms → (m.first == k) ≡ same_contact (answer_in m) a)
        → logins_at next ms k ≡ flat_map (λ email. option_to_list (of a email)) (map (λ (c : Contact). c.email) (answered_by h us a))
    contact_logins k a is =
        by ms us are.contacts are.answers (each (λ m. (m.first == k) ≡ same_contact (answer_in m) a) ms is)
      where
        one : (m : Member) (b : Bool) → same_contact (answer_in m) a ≡ b → (if b then option_to_list (next m) else []) ≡ (if b then option_to_list (of a (contact_in m).contact.email) else [])
        one m true same = ap (λ x. option_to_list (of x (contact_in m).contact.email)) (same_is (answer_in m) a same)
        one m false same = refl

        kept : (b : Bool) (c : Contact) (rest : List Contact) → (if b then option_to_list (of a c.email) else []) ++ flat_map (λ email. option_to_list (of a email)) (map (λ (c : Contact). c.email) rest)
            ≡ flat_map (λ email. option_to_list (of a email)) (map (λ (c : Contact). c.email) (cond b (c ∷ rest) rest))
        kept true c rest = refl
        kept false c rest = refl

        by : (ms : List Member) (us : List Tally) → map contact_in ms ≡ us → map (λ (m : Member). tally_of m.answer) ms ≡ map (answered h.ours) us → AllByRecursion (λ (m : Member). (m.first == k) ≡ same_contact (answer_in m) a) ms
            → logins_at next ms k ≡ flat_map (λ email. option_to_list (of a email)) (map (λ (c : Contact). c.email) (filter (λ (c : Contact). same_contact (answer_to h.ours c) a) (contacts us)))
        by [] [] cs ans all = refl
        by [] (u ∷ us) cs ans all = absurd (cc)
        by (m ∷ ms) [] cs ans all = absurd (cc)
        by (m ∷ ms) (u ∷ us) cs ans all =
            let c_is : contact_in m ≡ u = cc in
            let cs_are : map contact_in ms ≡ us = cc in
            let a_is : tally_of m.answer ≡ answered h.ours u = cc in
            let as_are : map (λ (m : Member). tally_of m.answer) ms ≡ map (answered h.ours) us = cc in
            let rest : List Contact = filter (λ (c : Contact). same_contact (answer_to h.ours c) a) (contacts us) in
            (λ i. (if all.0 i then option_to_list (next m) else []) ++ by ms us cs_are as_are all.1 i)
            ∙ ap (λ l. l ++ flat_map (λ email. option_to_list (of a email)) (map (λ (c : Contact). c.email) rest)) (one m (same_contact (answer_in m) a) refl)
            ∙ (λ i. (if same_contact (a_is i).contact a then option_to_list (of a (c_is i).contact.email) else []) ++ flat_map (λ email. option_to_list (of a email)) (map (λ (c : Contact). c.email) rest))
            ∙ kept (same_contact (answer_to h.ours u.contact) a) u.contact rest

    -- the login at an index
    found_at : (k : ℕ) (b : Member) → k < length ms → get_or ms k b ≡ b → get_or (fold (placed next) (map own ms) ms) k None ≡ first (logins_in b)
    found_at k b lt is =
        placed_at next ms (map own ms) k (subst (λ n. k < n) (sym (length-map ms own)) lt)
        ∙ ap (λ o. option_or o (first (logins_at next ms k))) (get_or-map own ms k b None lt ∙ ap own is)
        ∙ by b.is_first refl
      where
        by : (f : Bool) → b.is_first ≡ f → option_or (if b.is_first then of (answer_in b) (answer_in b).email else None) (first (logins_at next ms k)) ≡ first (if b.is_first then logins_of (answer_in b) else [])
        by true holds =
            ap (λ f. option_or (if f then of (answer_in b) (answer_in b).email else None) (first (logins_at next ms k))) holds
            ∙ ap (λ l. option_or (of (answer_in b) (answer_in b).email) (first l)) (contact_logins k (answer_in b) (is_at k b lt is holds))
            ∙ sym (first_more (of (answer_in b) (answer_in b).email) (flat_map (λ email. option_to_list (of (answer_in b) email)) (map (λ (c : Contact). c.email) (answered_by h us (answer_in b)))))
            ∙ ap (λ f. first (if f then logins_of (answer_in b) else [])) (sym holds)
        by false fails =
            ap (λ f. option_or (if f then of (answer_in b) (answer_in b).email else None) (first (logins_at next ms k))) fails
            ∙ ap first (no_logins k (none_at k b lt is fails))
            ∙ ap (λ f. first (if f then logins_of (answer_in b) else [])) (sym fails)

    found_are : fold (placed next) (map own ms) ms ≡ map (λ (m : Member). first (logins_in m)) ms
    found_are = same_lists (fold (placed next) (map own ms) ms) (map (λ (m : Member). first (logins_in m)) ms)
        (placed_length next ms (map own ms) ∙ length-map ms own ∙ sym (length-map ms (λ (m : Member). first (logins_in m))))
        (λ k d lt. let within : k < length ms = omega (arith, lt, placed_length next ms (map own ms) ∙ length-map ms own) in
        let w = some_member ms k within in
        get_or_default (fold (placed next) (map own ms) ms) k d None lt ∙ found_at k w.0 within w.1
        ∙ ap (λ (m : Member). first (logins_in m)) (sym w.1) ∙ sym (get_or-map (λ (m : Member). first (logins_in m)) ms k w.0 d within))

    first_found : first_or_empty (flat_map option_to_list (fold (placed next) (map own ms) ms)) ≡ first_or_empty (flat_map logins_of (answers h us))
    first_found =
        ap (λ l. first_or_empty (flat_map option_to_list l)) found_are
        ∙ first_of_parts logins_in ms
        ∙ ap first_or_empty (filtered ms ∙ sym (flat_map-map logins_of answer_in (filter (λ (m : Member). m.is_first) ms)) ∙ ap (flat_map logins_of) (sym answers_are))
      where
        filtered : (ms : List Member) → flat_map logins_in ms ≡ flat_map (λ m. logins_of (answer_in m)) (filter (λ (m : Member). m.is_first) ms)
        filtered [] = refl
        filtered (m ∷ ms) = elim m.is_first as (λ b. (if b then logins_of (answer_in m) else []) ++ flat_map logins_in ms ≡ flat_map (λ m. logins_of (answer_in m)) (cond b (m ∷ filter (λ (m : Member). m.is_first) ms) (filter (λ (m : Member). m.is_first) ms))) [
          | true ↦ ap (λ l. logins_of (answer_in m) ++ l) (filtered ms)
          | false ↦ filtered ms
        ]

-- ==== the logins that link

linking_emails : (p : Text → Bool) (emails : List Text) → flat_map (λ email. option_to_list (if p email then Some (login email) else None)) emails ≡ map login (filter p emails)
linking_emails p [] = refl
linking_emails p (e ∷ es) = elim (p e) as (λ b. option_to_list (if b then Some (login e) else None) ++ flat_map (λ email. option_to_list (if p email then Some (login email) else None)) es ≡ map login (cond b (e ∷ filter p es) (filter p es))) [
  | true ↦ ap (λ l. login e ∷ l) (linking_emails p es)
  | false ↦ linking_emails p es
]

parts_alike : {X Y : Type 0} (f g : X → List Y) (xs : List X) → AllByRecursion (λ x. f x ≡ g x) xs → flat_map f xs ≡ flat_map g xs
parts_alike f g [] all = refl
parts_alike f g (x ∷ xs) all = λ i. all.0 i ++ parts_alike f g xs all.1 i

pub first_linking : (shared : List Text) (h : Histories) (ts us : List Tally) (ms : List Member) → AreMembers h us ms → AreWhole h ts us
    → first_or_empty (flat_map option_to_list (fold (with_login shared h ts) (map (own_login shared h ts) ms) ms)) ≡ first_or_empty (flat_map (linking_logins shared h ts) (answers h us))
first_linking shared h ts us ms are whole =
    first_found h us ms are (login_in shared h ts)
    ∙ ap first_or_empty (parts_alike (logins_of h us ms are (login_in shared h ts)) (linking_logins shared h ts) (answers h us)
    (all_weaker (answers h us) (λ a same.
    linking_emails (λ email. list_any (another_has (name_keys h ts) (participants shared h ts) a) (email_keys shared email)) (a.email ∷ map (λ (c : Contact). c.email) (answered_by h us a))
    ∙ ap (λ cs. map login (filter (λ email. list_any (another_has (name_keys h ts) (participants shared h ts) a) (email_keys shared email)) (a.email ∷ map (λ (c : Contact). c.email) cs))) same) whole))
