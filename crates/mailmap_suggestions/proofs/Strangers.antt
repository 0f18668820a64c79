-- Emails that several people share, as the code finds them.
use Rattle.std.proofs.Common.{◌≡◌, ◌∙◌, ◌+◌, ◌<◌, ◌≤◌, ◌⊎◌, ◌++◌, ◌||◌, ℕ, Bool, true, false, cond, List, [], ◌∷◌, append-nil, ap, arith, bytes_eq, drop, filter, flat_map, fold, get_or, ◌&&◌, not, None, Some, Option, option_copied, is_none, slice_get, if◌then◌else◌, length, map, min, refl, rules, sym, take, ⊎_elim, true≢false, Bor, Ordering}
use Rattle.std.specs.Prelude.{nat_le}
use Rattle.std.specs.BTreeSet.{BTreeSet, contains}
use Rattle.std.specs.BTreeMap.{is_at}
use Rattle.std.specs.Cmp.Lexicographic.{slice_cmp}
use Rattle.std.specs.List.{AllByRecursion, list_all, list_any}
use Rattle.std.specs.Ordering.{nat_cmp}
use Rattle.std.proofs.lemmas.Bool.{cases_lt, le-leb, lt-leb}
use Rattle.std.proofs.lemmas.Cmp.{nat_list_eq_equiv}
use Rattle.std.proofs.lemmas.Grind.{fold-append}
use Rattle.std.proofs.lemmas.List.{drop_more, length-map, length_push, length-take, map-append, take_all, take-append-le, take-take}
use Rattle.std.proofs.lemmas.Map.Text.{is_eq-slice_cmp}
use Rattle.mailmap_contacts.specs.Answers.{folded_cmp, tally_of}
use Rattle.mailmap_contacts.specs.Contacts.{Contact, Tally, has_text}
use Rattle.mailmap_contacts.specs.declared.answers.Tally.{Tally as TheTally}
use Rattle.mailmap_contacts.specs.Folded.{folded_text}
use Rattle.mailmap_contacts.specs.declared.folded.Folded.{Folded}
use Rattle.mailmap_contacts.proofs.Steps.{all_filtered, mapped_more}
use Rattle.mailmap_entries.specs.Folding.{Text, folded}
use Rattle.mailmap_entries.proofs.Parts.{list_any-map}
use Rattle.mailmap_suggestions.specs.Forms.{distinct, of_old_email}
use Rattle.mailmap_suggestions.specs.Shared.{are_several, begins_with_via, emails_of_several, has_via, is_stranger, names_with, strangers, with_stranger}
use Rattle.mailmap_suggestions.specs.SharedViews.{AreDistinct, IsIndexOf, folded_texts, names_in, several_email}
use Rattle.mailmap_suggestions.specs.Private.{contacts_of}
use Rattle.mailmap_names.specs.Keys.{is_related}
use Rattle.mailmap_names.specs.declared.names.Name.{Name}
use Rattle.mailmap_suggestions.proofs.Distinct.{all_of, distinct_push, same_bytes}

-- ---- entries without old names

pub all_kept : {X : Type 0} (p : X → Bool) (xs : List X) → list_all p xs ≡ true → filter p xs ≡ xs
all_kept p [] all = refl
all_kept p (x ∷ xs) all = search (rules, all_kept p xs)

-- ---- sets of texts

-- one more element at the end of a list
any_more : (p : Text → Bool) (xs : List Text) (x : Text) → list_any p (xs ++ x ∷ []) ≡ (if p x then true else list_any p xs)
any_more p [] x = grind arith
any_more p (y ∷ xs) x = grind (arith, any_more p xs x)

pub index_more : (emails all : List Folded) (key : Folded) (old new : BTreeSet Folded) → folded_texts all ≡ folded_texts emails ++ folded_text key ∷ [] → IsIndexOf emails old
    → ((q : Folded) → contains folded_cmp new q ≡ cond (is_at (folded_cmp key) q) true (contains folded_cmp old q)) → IsIndexOf all new
index_more emails all key old new all_is is put q =
    let at : is_at (folded_cmp key) q ≡ bytes_eq (folded_text q) (folded_text key) = is_eq-slice_cmp (folded_text key) (folded_text q) ∙ nat_list_eq_equiv.symm (folded_text key) (folded_text q) in
    put q ∙ ap (λ b. cond b true (contains folded_cmp old q)) at ∙ ap (cond (bytes_eq (folded_text q) (folded_text key)) true) (is q)
    ∙ sym (any_more (bytes_eq (folded_text q)) (folded_texts emails) (folded_text key)) ∙ ap (list_any (bytes_eq (folded_text q))) (sym all_is)

abbrev name_cmp : Bor Text → Bor Text → Ordering
name_cmp a b = slice_cmp nat_cmp a.now b.now

-- ---- names, each once

seen_more : (names : List Text) (name : Bor Text) (old new : BTreeSet (Bor Text)) (kept : List (Bor Text)) → AreDistinct names old kept
    → ((q : Bor Text) → contains name_cmp new q ≡ cond (is_at (name_cmp name) q) true (contains name_cmp old q))
    → (q : Bor Text) → contains name_cmp new q ≡ list_any (bytes_eq q.now) (names ++ name.now ∷ [])
seen_more names name old new kept are put q =
    let at : is_at (name_cmp name) q ≡ bytes_eq q.now name.now = is_eq-slice_cmp name.now q.now ∙ nat_list_eq_equiv.symm name.now q.now in
    put q ∙ ap (λ b. cond b true (contains name_cmp old q)) at ∙ ap (cond (bytes_eq q.now name.now) true) (are.all q) ∙ sym (any_more (bytes_eq q.now) names name.now)

pub distinct_new : (names : List Text) (name : Bor Text) (old new : BTreeSet (Bor Text)) (kept more : List (Bor Text)) → AreDistinct names old kept
    → contains name_cmp old name ≡ false → ((q : Bor Text) → contains name_cmp new q ≡ cond (is_at (name_cmp name) q) true (contains name_cmp old q))
    → more ≡ kept ++ name ∷ [] → AreDistinct (names ++ name.now ∷ []) new more
distinct_new names name old new kept more are none put more_is = record {
  all = seen_more names name old new kept are put;
  once = ap (map (λ (n : Bor Text). n.now)) more_is ∙ map-append (λ (n : Bor Text). n.now) kept (name ∷ []) ∙ ap (λ l. l ++ name.now ∷ []) are.once
      ∙ ap (λ b. distinct names ++ (if b then [] else name.now ∷ [])) (sym none ∙ are.all name) ∙ sym (distinct_push names name.now);
}

pub distinct_old : (names : List Text) (name : Bor Text) (old new : BTreeSet (Bor Text)) (kept : List (Bor Text)) → AreDistinct names old kept
    → contains name_cmp old name ≡ true → ((q : Bor Text) → contains name_cmp new q ≡ cond (is_at (name_cmp name) q) true (contains name_cmp old q))
    → AreDistinct (names ++ name.now ∷ []) new kept
distinct_old names name old new kept are some put = record {
  all = seen_more names name old new kept are put;
  once = are.once ∙ sym (append-nil (distinct names)) ∙ ap (λ b. distinct names ++ (if b then [] else name.now ∷ [])) (sym some ∙ are.all name) ∙ sym (distinct_push names name.now);
}

-- the names of answers
pub names_more : (ts : List TheTally) (i : ℕ) (d : TheTally) → i < length ts
    → map (λ (c : Contact). c.name) (contacts_of (take (i + 1) ts)) ≡ map (λ (c : Contact). c.name) (contacts_of (take i ts)) ++ (get_or ts i d).name.now ∷ []
names_more ts i d lt =
    let name : Contact → Text = λ c. c.name in
    let contact : Tally → Contact = λ t. t.contact in
    ap (λ l. map name (map contact l)) (mapped_more tally_of ts i d lt)
    ∙ ap (map name) (map-append contact (map tally_of (take i ts)) (tally_of (get_or ts i d) ∷ []))
    ∙ map-append name (map contact (map tally_of (take i ts))) (contact (tally_of (get_or ts i d)) ∷ [])

pub none_copied : (o : Option (Bor Text)) (m : Option Text) → option_copied o ≡ m → is_none o ≡ is_none m
none_copied None m is = ap is_none is
none_copied (Some b) m is = ap is_none is

-- ---- ` via `

pub via_more : (name : Text) (i : ℕ) → i < length name → begins_with_via (drop i name) ≡ false → has_via (drop i name) ≡ has_via (drop (i + 1) name)
via_more name i lt none =
    let is : drop i name ≡ get_or name i 0 ∷ drop (i + 1) name = drop_more name i 0 lt in
    let no : begins_with_via (get_or name i 0 ∷ drop (i + 1) name) ≡ false = ap begins_with_via (sym is) ∙ none in
    ap has_via is ∙ ap (λ b. b || has_via (drop (i + 1) name)) no

pub via_here : (name : Text) (i : ℕ) → i < length name → begins_with_via (drop i name) ≡ true → has_via (drop i name) ≡ true
via_here name i lt here =
    let is : drop i name ≡ get_or name i 0 ∷ drop (i + 1) name = drop_more name i 0 lt in
    let yes : begins_with_via (get_or name i 0 ∷ drop (i + 1) name) ≡ true = ap begins_with_via (sym is) ∙ here in
    ap has_via is ∙ ap (λ b. b || has_via (drop (i + 1) name)) yes

-- ---- the first four strangers

-- a fifth one changes nothing
take_four : (known : List Text) (name : Text) → 4 ≤ length known → take 4 (with_stranger known name) ≡ take 4 known
take_four known name le = elim (is_stranger known name) as (λ b. take 4 (if b then known ++ name ∷ [] else known) ≡ take 4 known) [ true ↦ take-append-le 4 known (name ∷ []) le | false ↦ refl ]

take_with : (known : List Text) (name : Text) → take 4 (with_stranger (take 4 known) name) ≡ take 4 (with_stranger known name)
take_with known name = ⊎_elim
    (λ lt. ap (λ l. take 4 (with_stranger l name)) (take_all 4 known (omega (arith, lt))))
    (λ le. take_four (take 4 known) name (omega (arith, le, length-take 4 known)) ∙ take-take 4 4 known (omega arith) ∙ sym (take_four known name le))
    (cases_lt (length known) 4)

pub strangers_more : (names : List (Bor Text)) (i : ℕ) (d : Bor Text) (known more : List Text) → i < length names
    → known ≡ take 4 (strangers (map (λ n. n.now) (take i names))) → more ≡ take 4 (with_stranger known (get_or names i d).now)
    → more ≡ take 4 (strangers (map (λ n. n.now) (take (i + 1) names)))
strangers_more names i d known more lt is more_is =
    let before : List Text = map (λ (n : Bor Text). n.now) (take i names) in
    let name : Text = (get_or names i d).now in
    more_is ∙ ap (λ l. take 4 (with_stranger l name)) is ∙ take_with (strangers before) name
    ∙ ap (take 4) (sym (fold-append with_stranger [] before (name ∷ []))) ∙ ap (λ l. take 4 (strangers l)) (sym (mapped_more (λ (n : Bor Text). n.now) names i d lt))

pub four_at_most : (known : List Name) (names : List Text) → names_in known ≡ take 4 names → length known ≤ 4
four_at_most known names is = omega (arith, length-map known (λ (n : Name). n.text.now), ap length is, length-take 4 names)

-- there are as many as names at most
with_at_most : (known : List Text) (name : Text) → length (with_stranger known name) ≤ length known + 1
with_at_most known name = elim (is_stranger known name) as (λ b. length (if b then known ++ name ∷ [] else known) ≤ length known + 1) [ true ↦ omega (arith, length_push known name) | false ↦ omega arith ]

fold_at_most : (known names : List Text) → length (fold with_stranger known names) ≤ length known + length names
fold_at_most known [] = omega arith
fold_at_most known (name ∷ names) = omega (arith, fold_at_most (with_stranger known name) names, with_at_most known name)

needs_two : (b : Bool) → 2 ≤ (if b then 2 else 4)
needs_two true = omega arith
needs_two false = omega arith

pub one_name : (names : List Text) → length names < 2 → are_several names ≡ false
one_name names lt = lt-leb (if list_any has_via names then 2 else 4) (length (strangers names)) (omega (arith, lt, fold_at_most [] names, needs_two (list_any has_via names)))

-- four are enough
enough : (b : Bool) (n : ℕ) → nat_le (if b then 2 else 4) (min 4 n) ≡ nat_le (if b then 2 else 4) n
enough true n = ⊎_elim (λ lt. lt-leb 2 (min 4 n) (omega arith) ∙ sym (lt-leb 2 n lt)) (λ le. le-leb 2 (min 4 n) (omega arith) ∙ sym (le-leb 2 n le)) (cases_lt n 2)
enough false n = ⊎_elim (λ lt. lt-leb 4 (min 4 n) (omega arith) ∙ sym (lt-leb 4 n lt)) (λ le. le-leb 4 (min 4 n) (omega arith) ∙ sym (le-leb 4 n le)) (cases_lt n 4)

pub enough_known : (names known : List Text) → known ≡ take 4 (strangers names) → nat_le (if list_any has_via names then 2 else 4) (length known) ≡ are_several names
enough_known names known is = ap (λ l. nat_le (if list_any has_via names then 2 else 4) (length l)) is ∙ ap (nat_le (if list_any has_via names then 2 else 4)) (length-take 4 (strangers names))
    ∙ enough (list_any has_via names) (length (strangers names))

any_related : (name : Text) (known : List Name) → list_any (λ (o : Name). is_related name o.text.now) known ≡ list_any (is_related name) (names_in known)
any_related name known = sym (list_any-map (is_related name) (λ (o : Name). o.text.now) known)

-- a name that was compared with fewer than four
pub compared : (known more : List Name) (name : Text) (read : Name) → read.text.now ≡ name → length known < 4 → has_text name ≡ true
    → more ≡ (if list_any (λ (o : Name). is_related read.text.now o.text.now) known then known else known ++ read ∷ []) → names_in more ≡ take 4 (with_stranger (names_in known) name)
compared known more name read text_is lt some is =
    let few : length (names_in known) < 4 = omega (arith, lt, length-map known (λ (n : Name). n.text.now)) in
    ap names_in is ∙ by (list_any (λ (o : Name). is_related read.text.now o.text.now) known) (ap (λ t. list_any (λ (o : Name). is_related t o.text.now) known) text_is ∙ any_related name known)
    ∙ sym (take_all 4 (with_stranger (names_in known) name) (omega (arith, with_at_most (names_in known) name, few)))
  where
    by : (b : Bool) → b ≡ list_any (is_related name) (names_in known) → names_in (if b then known else known ++ read ∷ []) ≡ with_stranger (names_in known) name
    by true e = ap (λ s. if s then names_in known ++ name ∷ [] else names_in known) (ap (λ b. true && not b) e ∙ ap (λ b. b && not (list_any (is_related name) (names_in known))) (sym some))
    by false e = map-append (λ (n : Name). n.text.now) known (read ∷ []) ∙ ap (λ t. names_in known ++ t ∷ []) text_is
        ∙ ap (λ s. if s then names_in known ++ name ∷ [] else names_in known) (ap (λ b. true && not b) e ∙ ap (λ b. b && not (list_any (is_related name) (names_in known))) (sym some))

no_text : (name : Text) → has_text name ≡ false → name ≡ []
no_text [] e = refl
no_text (b ∷ s) e = absurd (true≢false e)

pub not_compared : (known : List Name) (name : Text) → length known ≤ 4 → (4 ≤ length known) ⊎ (has_text name ≡ false) → names_in known ≡ take 4 (with_stranger (names_in known) name)
not_compared known name le why =
    let count : length (names_in known) ≡ length known = length-map known (λ (n : Name). n.text.now) in
    let few : length (names_in known) ≤ 4 = omega (arith, le, count) in
    ⊎_elim
    (λ many. sym (take_four (names_in known) name (omega (arith, many, count)) ∙ take_all 4 (names_in known) few))
    (λ none. sym (take_all 4 (names_in known) few) ∙ ap (λ n. take 4 (with_stranger (names_in known) n)) (sym (no_text name none)))
    why

-- ---- the emails of groups

abbrev HaveEmail : Text → List Contact → Type 0
HaveEmail email cs = AllByRecursion (λ (c : Contact). folded c.email ≡ email) cs

several_one : (email : Text) (cs : List Contact) → HaveEmail email cs → several_email cs ≡ (if are_several (distinct (map (λ a. a.name) cs)) then email ∷ [] else [])
several_one email [] all = refl
several_one email (c ∷ cs) all = ap (λ e. if are_several (distinct (map (λ (a : Contact). a.name) (c ∷ cs))) then e ∷ [] else []) all.0

have_email : (answers : List Contact) (email : Text) → HaveEmail email (of_old_email email answers)
have_email answers email = all_filtered (λ (c : Contact). bytes_eq email (folded c.email)) (λ c. Unit {0}) (λ (c : Contact). folded c.email ≡ email)
    (λ c _ passes. sym (same_bytes email (folded c.email) passes)) answers (all_of (λ (c : Contact). Unit {0}) (λ c. tt) answers)

several_found : (answers : List Contact) (emails : List Text) → flat_map several_email (map (λ e. of_old_email e answers) emails)
    ≡ filter (λ e. are_several (names_with answers e)) emails
several_found answers [] = refl
several_found answers (e ∷ es) =
    ap (λ l. l ++ flat_map several_email (map (λ e. of_old_email e answers) es)) (several_one e (of_old_email e answers) (have_email answers e))
    ∙ ap (λ l. (if are_several (names_with answers e) then e ∷ [] else []) ++ l) (several_found answers es)
    ∙ elim (are_several (names_with answers e)) as (λ b. (if b then e ∷ [] else []) ++ filter (λ e. are_several (names_with answers e)) es
    ≡ (if b then e ∷ filter (λ e. are_several (names_with answers e)) es else filter (λ e. are_several (names_with answers e)) es)) [ true ↦ refl | false ↦ refl ]

pub groups_found : (answers : List Contact) (groups : List (List Contact)) → groups ≡ map (λ e. of_old_email e answers) (distinct (map (λ (c : Contact). folded c.email) answers))
    → flat_map several_email groups ≡ emails_of_several answers
groups_found answers groups is = ap (flat_map several_email) is ∙ several_found answers (distinct (map (λ (c : Contact). folded c.email) answers))

pub several_none : (ts : List TheTally) → slice_get ts 0 ≡ None → several_email (contacts_of ts) ≡ []
several_none [] e = refl
several_none (t ∷ ts) e = cc

pub several_at : (ts : List TheTally) (first : TheTally) (b : Bool) → slice_get ts 0 ≡ Some first → b ≡ are_several (distinct (map (λ (c : Contact). c.name) (contacts_of ts)))
    → several_email (contacts_of ts) ≡ (if b then folded first.email.now ∷ [] else [])
several_at [] first b is e = cc
several_at (t ∷ ts) first b is e =
    let same : t ≡ first = cc in
    ap (λ b. if b then folded t.email.now ∷ [] else []) (sym e) ∙ ap (λ (t : TheTally). if b then folded t.email.now ∷ [] else []) same
