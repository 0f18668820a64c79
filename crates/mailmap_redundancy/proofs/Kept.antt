-- Effective entries keep the normal list, none of them is redundant, and three passes leave nothing to drop.
use Rattle.std.proofs.Common.{◌≡◌, ◌≤◌, ◌+◌, Bool, true, false, cond, ◌||◌, List, [], ◌∷◌, ◌++◌, length, is_some, append-nil, append_assoc, filter, length-append, arith, refl, sym, ap, subst, ◌∙◌, ⊎_elim, inl, inr, rules, Option, None}
use Rattle.std.specs.Prelude.{◌↔◌, ◌⊎◌, Contains}
use Rattle.std.specs.Cmp.{tied_itself}
use Rattle.std.specs.Ordering.{eq_by_cmp, is_eq}
use Rattle.std.specs.List.{AllByRecursion, list_any}
use Rattle.std.specs.Option.{option_or}
use Rattle.std.proofs.lemmas.Bool.{cases_Bool, or_right}
use Rattle.std.proofs.lemmas.List.{map-append}
use Rattle.std.proofs.lemmas.List.Elements.{All-contains, All-from_recursion, filter-append}
use Rattle.mailmap_entries.specs.Entries.{Mapping}
use Rattle.mailmap_entries.specs.Folding.{Text, folded, text_cmp}
use Rattle.mailmap_entries.specs.Semantics.{IsNormal, Key, key, key_cmp, first, last, is_accepted, accepted, has_key, answer_of, of_email, of_key}
use Rattle.mailmap_entries.specs.Alike.{Alike}
use Rattle.mailmap_entries.proofs.Alike.{alike_back, alike_answer}
use Rattle.mailmap_entries.proofs.Exists.{normal, is_normal}
use Rattle.mailmap_entries.proofs.Joined.{alike_trans}
use Rattle.mailmap_entries.proofs.Keys.{keys_total, keys_exact}
use Rattle.mailmap_entries.proofs.Normal.{alike_normal}
use Rattle.mailmap_entries.proofs.Parts.{filter_all, is_some-option_map, last-append, list_any-append}
use Rattle.mailmap_entries.proofs.Unique.{normal_unique}
use Rattle.mailmap_redundancy.specs.Origins.{entries_of_email, last_with}
use Rattle.mailmap_redundancy.specs.Redundancy.{IsRedundant, IsPass, done, goes, stays, AreEffective, settled, again, IsSublist, LocatedMapping, entries, entries_of_key, last_position}
use Rattle.mailmap_redundancy.specs.Summaries.{KeySummary, Summary, key_summary, summary_by}
use Rattle.mailmap_redundancy.proofs.Redundant.{LocatedMappings, Stays, good, keyed_good, mailed_good, none_of_key, own_email, own_key, redundant_or_not, stays_decides, there_by, unaccepted_redundant}
use Rattle.mailmap_redundancy.proofs.Sublists.{sublist_itself, sublist_keep, sublist_skip, sublist_trans}
use Rattle.std.proofs.lemmas.Map.Lookups.{exact_bytes}
use Rattle.std.proofs.lemmas.Map.Views.{tells_apart}

-- moving an entry from the remaining ones to the kept ones
pub entries_kept : (kept : LocatedMappings) (x : LocatedMapping) (xs : LocatedMappings)
    → entries (kept ++ x ∷ []) ++ entries xs ≡ entries kept ++ x.entry ∷ entries xs
entries_kept kept x xs = search (rules, append_assoc, map-append)

-- ---- accepted entries of a key and of an email

module _ (kept : LocatedMappings) (all : AllByRecursion (λ x. is_accepted x.entry ≡ true) kept) where
  pub all_good : good kept ≡ kept
  all_good = filter_all _ kept all

  pub located_key : (k : Key) → of_key (entries kept) k ≡ entries (entries_of_key kept k)
  located_key k = search (rules, all_good, keyed_good)

  pub located_email : (email : Text) → of_email (entries kept) email ≡ entries (entries_of_email kept email)
  located_email email = search (rules, all_good, mailed_good)

-- ---- the normal list is the same

pass_normal : (kept xs out : LocatedMappings) (n : List Mapping) → IsPass kept xs out
    → IsNormal (entries kept ++ entries xs) n ↔ IsNormal (entries out) n
pass_normal _ _ _ n (done kept) = search (rules, append-nil)
pass_normal _ _ _ n (goes kept x xs out redundant p) = search (rules, (pass_normal kept xs out n p))
pass_normal _ _ _ n (stays kept x xs out busy p) = search (rules, entries_kept, (pass_normal (kept ++ x ∷ []) xs out n p))

pub effective_normal : (xs kept : LocatedMappings) (n : List Mapping) → AreEffective xs kept
    → IsNormal (entries xs) n ↔ IsNormal (entries kept) n
effective_normal _ _ n (settled xs p) = (λ d. d, λ d. d)
effective_normal _ _ n (again xs some kept p s) = search (rules, pass_normal, (effective_normal some kept n s))

-- effective entries give the same answers
pub effective_alike : (xs kept : LocatedMappings) → AreEffective xs kept → Alike (entries kept) (entries xs)
effective_alike xs kept s =
    let d = is_normal (entries xs) in
    let d' = (effective_normal xs kept (normal (entries xs)) s).0 d in
    search (rules, alike_trans, alike_normal, alike_back)

pub effective_answer : (xs kept : LocatedMappings) (name email : Text) → AreEffective xs kept
    → answer_of (entries kept) name email ≡ answer_of (entries xs) name email
effective_answer xs kept name email s = alike_answer (entries kept) (entries xs) name email (effective_alike xs kept s)

-- ---- a pass that drops nothing

pub pass_length : (kept xs out : LocatedMappings) → IsPass kept xs out → length out ≤ length kept + length xs
pass_length _ _ _ (done kept) = omega arith
pass_length _ _ _ (goes kept x xs out redundant p) = omega (arith, pass_length kept xs out p)
pass_length _ _ _ (stays kept x xs out busy p) = omega (arith, pass_length (kept ++ x ∷ []) xs out p, length-append kept (x ∷ []))

-- no entry of the second list is redundant between the entries before it, with the first list in front, and those after it
abbrev pub NoneRedundant : LocatedMappings → LocatedMappings → Type 0
NoneRedundant kept [] = Unit {0}
NoneRedundant kept (x ∷ xs) = (IsRedundant (entries kept) x.entry (entries xs) → ⊥) × NoneRedundant (kept ++ x ∷ []) xs

-- a pass that shortens nothing dropped nothing
pub pass_whole : (kept xs out : LocatedMappings) → IsPass kept xs out → length kept + length xs ≤ length out
    → (out ≡ kept ++ xs) × NoneRedundant kept xs
pass_whole _ _ _ (done kept) long = (sym (append-nil kept), tt)
pass_whole _ _ _ (goes kept x xs out redundant p) long = absurd (omega (arith, pass_length kept xs out p, long))
pass_whole _ _ _ (stays kept x xs out busy p) long =
    let rest = pass_whole (kept ++ x ∷ []) xs out p (omega (arith, long, length-append kept (x ∷ []))) in
    (rest.0 ∙ append_assoc kept (x ∷ []) xs, (busy, rest.1))

effective_none_redundant : (xs kept : LocatedMappings) → AreEffective xs kept → NoneRedundant [] kept
effective_none_redundant _ _ (settled xs p) = (pass_whole [] xs xs p (omega arith)).1
effective_none_redundant _ _ (again xs some kept p s) = effective_none_redundant some kept s

none_redundant_at : (kept a : LocatedMappings) (x : LocatedMapping) (c : LocatedMappings)
    → NoneRedundant kept (a ++ x ∷ c) → IsRedundant (entries (kept ++ a)) x.entry (entries c) → ⊥
none_redundant_at kept [] x c none redundant = search (rules, append-nil)
none_redundant_at kept (y ∷ a) x c none redundant = none_redundant_at (kept ++ y ∷ []) a x c none.1 (subst (λ h. IsRedundant (entries h) x.entry (entries c)) (sym (append_assoc kept (y ∷ []) a)) redundant)

pub effective_accepted : (xs kept : LocatedMappings) → AreEffective xs kept
    → AllByRecursion (λ x. is_accepted x.entry ≡ true) kept
effective_accepted xs kept s = by [] kept (effective_none_redundant xs kept s)
  where
    by : (before after : LocatedMappings) → NoneRedundant before after
        → AllByRecursion (λ x. is_accepted x.entry ≡ true) after
    by before [] none = tt
    by before (x ∷ after) none = (
      ⊎_elim (λ good. good) (λ bad. absurd (none.0 (unaccepted_redundant (entries before) x.entry (entries after) bad)))
          (cases_Bool (is_accepted x.entry)),
      by (before ++ x ∷ []) after none.1,
    )

pub none_can_go : (xs a c : LocatedMappings) (x : LocatedMapping) → AreEffective xs (a ++ x ∷ c)
    → IsRedundant (entries a) x.entry (entries c) → ⊥
none_can_go xs a c x s = none_redundant_at [] a x c (effective_none_redundant xs (a ++ x ∷ c) s)

pub listing_differs : (xs a c : LocatedMappings) (x : LocatedMapping) (n m : List Mapping)
    → AreEffective xs (a ++ x ∷ c) → IsNormal (entries xs) n → IsNormal (entries (a ++ c)) m → n ≡ m → ⊥
listing_differs xs a c x n m s d d' same =
    let with_x : IsNormal (entries a ++ x.entry ∷ entries c) n =
    rw (← map-append (λ (y : LocatedMapping). y.entry) a (x ∷ c)) ((effective_normal xs (a ++ x ∷ c) n s).0 d) in
    let without : IsNormal (entries a ++ entries c) n =
    rw (same, ← map-append (λ (y : LocatedMapping). y.entry) a c) d' in
    none_can_go xs a c x s (λ l. (
      λ is. rw (← normal_unique (entries a ++ x.entry ∷ entries c) n l with_x is) without,
      λ is. rw (← normal_unique (entries a ++ entries c) n l without is) with_x,
    ))

-- ---- the effective entries are a sublist

pass_sublist : (kept xs out ys : LocatedMappings) → IsPass kept xs out → IsSublist kept ys → IsSublist out (ys ++ xs)
pass_sublist _ _ _ ys (done kept) s = subst (IsSublist kept) (sym (append-nil ys)) s
pass_sublist _ _ _ ys (goes kept x xs out redundant p) s = search (rules, append_assoc, sublist_skip, (pass_sublist kept xs out (ys ++ x ∷ []) p (sublist_skip kept ys x s)))
pass_sublist _ _ _ ys (stays kept x xs out busy p) s = search (rules, append_assoc, sublist_keep, (pass_sublist (kept ++ x ∷ []) xs out (ys ++ x ∷ []) p (sublist_keep kept ys x s)))

pub effective_sublist : (xs kept : LocatedMappings) → AreEffective xs kept → IsSublist kept xs
effective_sublist _ _ (settled xs p) = sublist_itself xs
effective_sublist _ _ (again xs some kept p s) = sublist_trans kept some xs (effective_sublist some kept s) (pass_sublist [] xs some [] p (sublist_itself []))

-- ---- each key keeps an entry

pub effective_keys : (xs kept : LocatedMappings) (k : Key) → AreEffective xs kept
    → has_key (accepted (entries kept)) k ≡ has_key (accepted (entries xs)) k
effective_keys xs kept k s =
    let d = is_normal (entries xs) in
    sym (((effective_normal xs kept (normal (entries xs)) s).0 d).keys k) ∙ d.keys k

one_more : (e : Mapping) (h : List Mapping) (k : Key) → has_key (accepted h) k ≡ true
    → has_key (accepted (e ∷ h)) k ≡ true
one_more e h k has = search (rules, or_right)

own_there : (P : Key → Type 0) (xs : LocatedMappings) → ((k : Key) → has_key (accepted (entries xs)) k ≡ true → P k)
    → AllByRecursion (λ x. is_accepted x.entry ≡ true → P (key x.entry)) xs
own_there P [] f = tt
own_there P (x ∷ xs) f = (
  λ good. f (key x.entry) (ap (λ b. has_key (cond b (x.entry ∷ accepted (entries xs)) (accepted (entries xs))) (key x.entry)) good ∙ ap (λ o. is_eq o || has_key (accepted (entries xs)) (key x.entry)) (tied_itself keys_total (key x.entry))),
  own_there P xs (λ k has. f k (one_more x.entry (entries xs) k has)),
)

last_there : (kept : LocatedMappings) (k : Key) → AllByRecursion (λ x. is_accepted x.entry ≡ true) kept
    → is_some (last_position kept k) ≡ has_key (accepted (entries kept)) k
last_there kept k all = sym (is_some-option_map _ (last (entries_of_key kept k)))
    ∙ ap (λ l. is_some (last (entries_of_key l k))) (sym (all_good kept all)) ∙ sym (there_by kept k)

pub last_stays : (xs kept : LocatedMappings) (x : LocatedMapping) → AreEffective xs kept → Contains xs x
    → is_accepted x.entry ≡ true → is_some (last_position kept (key x.entry)) ≡ true
last_stays xs kept x s =
    let stays : LocatedMapping → Type 0 = λ y. is_accepted y.entry ≡ true → is_some (last_position kept (key y.entry)) ≡ true in
    All-contains stays xs x (All-from_recursion stays xs (own_there (λ k. is_some (last_position kept k) ≡ true) xs
    (λ k has. last_there kept k (effective_accepted xs kept s) ∙ effective_keys xs kept k s ∙ has)))

-- ---- the effective entries are unique

same_pass : (kept xs out other : LocatedMappings) → IsPass kept xs out → IsPass kept xs other → out ≡ other
same_pass _ _ _ _ (done kept) (done _) = refl
same_pass _ _ _ _ (goes kept x xs out redundant p) (goes _ _ _ other _ q) = same_pass kept xs out other p q
same_pass _ _ _ _ (goes kept x xs out redundant p) (stays _ _ _ other busy q) = absurd (busy redundant)
same_pass _ _ _ _ (stays kept x xs out busy p) (goes _ _ _ other redundant q) = absurd (busy redundant)
same_pass _ _ _ _ (stays kept x xs out _ p) (stays _ _ _ other _ q) = same_pass (kept ++ x ∷ []) xs out other p q

-- a pass that drops nothing is the last one
effective_stays : (xs kept : LocatedMappings) → AreEffective xs kept → IsPass [] xs xs → kept ≡ xs
effective_stays _ _ (settled xs _) p = refl
effective_stays _ _ (again xs some kept q s) p =
    let same = same_pass [] xs some xs q p in
    effective_stays some kept s (subst (λ l. IsPass [] l l) (sym same) p) ∙ same

pub one_effective : (xs kept other : LocatedMappings) → AreEffective xs kept → AreEffective xs other → kept ≡ other
one_effective _ _ other (settled xs p) s = sym (effective_stays xs other s p)
one_effective _ _ _ (again xs some kept p s) (settled _ q) = effective_stays xs kept (again xs some kept p s) q
one_effective _ _ _ (again xs some kept p s) (again _ some' other q t) = one_effective some kept other s (subst (λ l. AreEffective l other) (same_pass [] xs some' some q p) t)

pub effective_again : (xs kept : LocatedMappings) → AreEffective xs kept → AreEffective kept kept
effective_again _ _ (settled xs p) = settled xs p
effective_again _ _ (again xs some kept p s) = effective_again some kept s

pub some_pass : (kept xs : LocatedMappings) → (out : LocatedMappings) × IsPass kept xs out
some_pass kept [] = (kept, done kept)
some_pass kept (x ∷ xs) = elim (redundant_or_not kept x xs) [
  | inl redundant ↦ let rest = some_pass kept xs in (rest.0, goes kept x xs rest.0 redundant rest.1)
  | inr busy ↦ let rest = some_pass (kept ++ x ∷ []) xs in (rest.0, stays kept x xs rest.0 busy rest.1)
]

-- ---- three passes

-- The first can drop any entry, the second only entries that were the first of their key, the third only entries that
-- were the first of their email, and the fourth drops none.

-- ---- an entry that is redundant in one place is redundant in another

-- the summaries before and after an entry in one pass (b and a), and in the next (b' and a')
record Carries (b a b' a' : Summary) : Type 0 where
  pre : KeySummary
  last : b.of_key.last ≡ option_or b'.of_key.last pre.last
  name : b.of_key.name ≡ option_or b'.of_key.name pre.name
  email : b.of_key.email ≡ option_or b'.of_key.email pre.email
  some_last : is_some a'.of_key.last ≡ true → is_some a.of_key.last ≡ true
  some_name : is_some a'.of_key.name ≡ true → is_some a.of_key.name ≡ true
  some_email : is_some a'.of_key.email ≡ true → is_some a.of_key.email ≡ true
  first : b.of_key.first ≡ None → (b'.of_key.first ≡ None) × (a'.of_key.first ≡ a.of_key.first)
  spelled : b.spelling ≡ None → (b'.spelling ≡ None) × (a'.spelling ≡ a.spelling)

carried : (is_named : Bool) (x : LocatedMapping) (b a b' a' : Summary) → Carries b a b' a' → Stays is_named b' x a'
    → Stays is_named b x a
carried false x b a b' a' c s = grind (arith, c, s)
carried true x b a b' a' c s = grind (arith, c, s)

with-append : (f : Mapping → Option Text) (l m : LocatedMappings)
    → last_with f (l ++ m) ≡ option_or (last_with f m) (last_with f l)
with-append f l m = search (rules, filter-append, last-append)

any_passes : (p : LocatedMapping → Bool) (l : LocatedMappings) → is_some (last (filter p l)) ≡ list_any p l
any_passes p [] = refl
any_passes p (x ∷ l) = grind (arith, any_passes p l)

any_last : (l : LocatedMappings) → is_some (last l) ≡ list_any (λ x. true) l
any_last [] = refl
any_last (x ∷ l) = refl

no_first : {X : Type 0} (l : List X) → first l ≡ None → l ≡ []
no_first [] none = refl
no_first (x ∷ l) none = absurd (cc)

-- the entries of a key and of its email: ps and es before an entry, ss and fs after it
carries : (ps pre ps' ss ss' es es' fs fs' : LocatedMappings) → ps ≡ pre ++ ps'
    → ((q : LocatedMapping → Bool) → list_any q ss' ≡ true → list_any q ss ≡ true)
    → (ps ≡ [] → (ps' ≡ []) × (ss' ≡ ss)) → (es ≡ [] → (es' ≡ []) × (fs' ≡ fs))
    → Carries (summary_by ps es) (summary_by ss fs) (summary_by ps' es') (summary_by ss' fs')
carries ps pre ps' ss ss' es es' fs fs' is fewer keyed mailed = record {
  pre = key_summary pre;
  last = ap last is ∙ last-append pre ps';
  name = ap (last_with (λ x. x.new_name)) is ∙ with-append (λ x. x.new_name) pre ps';
  email = ap (last_with (λ x. x.new_email)) is ∙ with-append (λ x. x.new_email) pre ps';
  some_last = λ some. any_last ss ∙ fewer (λ x. true) (sym (any_last ss') ∙ some);
  some_name = some_field (λ x. is_some x.entry.new_name);
  some_email = some_field (λ x. is_some x.entry.new_email);
  first = λ none. let both = keyed (no_first ps none) in (ap first both.0, ap first both.1);
  spelled = λ none. let both = mailed (no_first es none) in (ap first both.0, ap first both.1);
}
  where
    some_field : (p : LocatedMapping → Bool) → is_some (last (filter p ss')) ≡ true
        → is_some (last (filter p ss)) ≡ true
    some_field p some = any_passes p ss ∙ fewer p (sym (any_passes p ss') ∙ some)

-- ---- the entries kept in one pass and in the next

-- the accepted entries that pass a test
abbrev chosen : (LocatedMapping → Bool) → LocatedMappings → LocatedMappings
chosen p xs = filter p (good xs)

abbrev keyed : LocatedMappings → Key → LocatedMappings
keyed xs k = entries_of_key (good xs) k

abbrev mailed : LocatedMappings → Text → LocatedMappings
mailed xs email = entries_of_email (good xs) email

empty_parts : {X : Type 0} (xs ys : List X) → xs ++ ys ≡ [] → (xs ≡ []) × (ys ≡ [])
empty_parts [] ys e = (refl, e)
empty_parts (x ∷ xs) ys e = absurd (cc)

chosen-append : (p : LocatedMapping → Bool) (xs ys : LocatedMappings) → chosen p (xs ++ ys) ≡ chosen p xs ++ chosen p ys
chosen-append p xs ys = simp filter-append

-- of each key, the next pass has dropped at most the first entries that this one kept
record Follows (kept next : LocatedMappings) : Type 0 where
  keys : (k : Key) → (pre : LocatedMappings) × (keyed kept k ≡ pre ++ keyed next k)
  emails : (email : Text) → mailed kept email ≡ [] → mailed next email ≡ []

start : Follows [] []
start = record { keys = λ k. ([], refl); emails = λ email none. none }

both_keep : (kept next : LocatedMappings) (x : LocatedMapping) → Follows kept next
    → Follows (kept ++ x ∷ []) (next ++ x ∷ [])
both_keep kept next x f = record {
  keys = λ k. let is = (f.keys k).1 in ((f.keys k).0, search (rules, chosen-append, append_assoc));
  emails = λ email none. let before = f.emails email in search (rules, chosen-append, empty_parts, before);
}

none_next : (kept next : LocatedMappings) (k : Key) → Follows kept next → keyed kept k ≡ [] → keyed next k ≡ []
none_next kept next k f none = (empty_parts (f.keys k).0 (keyed next k) (sym (f.keys k).1 ∙ none)).1

-- the next pass drops the first entry of a key
one_goes : (kept next : LocatedMappings) (x : LocatedMapping) → Follows kept next → keyed kept (key x.entry) ≡ []
    → Follows (kept ++ x ∷ []) next
one_goes kept next x f none = record {
  keys = λ k. ⊎_elim (λ own. (
    keyed (kept ++ x ∷ []) k,
    sym (append-nil _) ∙ ap (λ l. keyed (kept ++ x ∷ []) k ++ l)
        (sym (none_next kept next k f (ap (keyed kept) (tells_apart keys_exact k (key x.entry) own) ∙ none))),
  )) (λ other. let is = (f.keys k).1 in ((f.keys k).0, search (rules, chosen-append, append-nil)))
      (cases_Bool (eq_by_cmp key_cmp k (key x.entry)));
  emails = λ email empty. let before = f.emails email in search (rules, chosen-append, empty_parts, before);
}

-- ---- a pass as a list of kept and dropped entries

-- A pass that has kept the entries in the first list goes over those in the second, and keeps those in the third. Q
-- holds for each entry that it drops.
data Walks (Q : LocatedMappings → LocatedMapping → Type 0) : LocatedMappings → LocatedMappings → LocatedMappings
    → Type 0 where
  ends : (kept : LocatedMappings) → Walks Q kept [] []
  drops : (kept : LocatedMappings) (x : LocatedMapping) (xs left : LocatedMappings) → Q kept x
      → IsRedundant (entries kept) x.entry (entries xs) → Walks Q kept xs left → Walks Q kept (x ∷ xs) left
  keeps : (kept : LocatedMappings) (x : LocatedMapping) (xs left : LocatedMappings)
      → (IsRedundant (entries kept) x.entry (entries xs) → ⊥) → Walks Q (kept ++ x ∷ []) xs left
      → Walks Q kept (x ∷ xs) (x ∷ left)

abbrev Any : LocatedMappings → LocatedMapping → Type 0
Any kept x = Unit {0}

abbrev FirstOfKey : LocatedMappings → LocatedMapping → Type 0
FirstOfKey kept x = keyed kept (key x.entry) ≡ []

abbrev FirstOfEmail : LocatedMappings → LocatedMapping → Type 0
FirstOfEmail kept x = mailed kept (folded x.entry.old_email) ≡ []

walk_of : (kept xs out : LocatedMappings) → IsPass kept xs out
    → (left : LocatedMappings) × (out ≡ kept ++ left) × Walks Any kept xs left
walk_of _ _ _ (done kept) = ([], sym (append-nil kept), ends kept)
walk_of _ _ _ (goes kept x xs out redundant p) =
    let rest = walk_of kept xs out p in (rest.0, rest.1, drops kept x xs rest.0 tt redundant rest.2)
walk_of _ _ _ (stays kept x xs out busy p) =
    let rest = walk_of (kept ++ x ∷ []) xs out p in
    (x ∷ rest.0, rest.1 ∙ append_assoc kept (x ∷ []) rest.0, keeps kept x xs rest.0 busy rest.2)

none_drops : (kept xs left : LocatedMappings) → Walks (λ _ _. ⊥) kept xs left → left ≡ xs
none_drops _ _ _ (ends kept) = refl
none_drops _ _ _ (drops kept x xs left never redundant w) = absurd never
none_drops _ _ _ (keeps kept x xs left busy w) = ap (λ l. x ∷ l) (none_drops (kept ++ x ∷ []) xs left w)

module _ (Q : LocatedMappings → LocatedMapping → Type 0) (p : LocatedMapping → Bool) where
  any_parts : (q : LocatedMapping → Bool) (x : LocatedMapping) (c : LocatedMappings)
      → list_any q (chosen p (x ∷ c)) ≡ (list_any q (chosen p (x ∷ [])) || list_any q (chosen p c))
  any_parts q x c = ap (list_any q) (chosen-append p (x ∷ []) c) ∙ list_any-append q (chosen p (x ∷ [])) (chosen p c)

  -- no pass adds entries
  none_added : (kept xs left : LocatedMappings) → Walks Q kept xs left → (q : LocatedMapping → Bool)
      → list_any q (chosen p left) ≡ true → list_any q (chosen p xs) ≡ true
  none_added _ _ _ (ends kept) q some = some
  none_added _ _ _ (drops kept x xs left is redundant w) q some = search (rules, any_parts, or_right, (none_added kept xs left w q some))
  none_added _ _ _ (keeps kept x xs left busy w) q some = search (rules, any_parts, (none_added (kept ++ x ∷ []) xs left w q))

  -- once an entry is kept that the filter picks, none is dropped
  module _ (unless : (kept : LocatedMappings) (x : LocatedMapping) → Q kept x → p x ≡ true
      → chosen p kept ≡ []) where
    none_lost : (kept xs left : LocatedMappings) → Walks Q kept xs left → (chosen p kept ≡ [] → ⊥)
        → chosen p left ≡ chosen p xs
    none_lost _ _ _ (ends kept) some = refl
    none_lost _ _ _ (drops kept x xs left q redundant w) some =
        let rest = none_lost kept xs left w some in
        grind (arith, unless kept x q, rest, some)
    none_lost _ _ _ (keeps kept x xs left busy w) some =
        let rest = none_lost (kept ++ x ∷ []) xs left w
        (λ none. some (empty_parts _ (chosen p (x ∷ [])) (sym (chosen-append p kept (x ∷ [])) ∙ none)).0) in
        grind (arith, rest)

-- ---- one pass after another

-- an entry x that one pass keeps and the next drops: the lists kept before it, and those that each has still to see
record Met (Q : LocatedMappings → LocatedMapping → Type 0) : Type 0 where
  kept : LocatedMappings
  next : LocatedMappings
  x : LocatedMapping
  xs : LocatedMappings
  left : LocatedMappings
  walk : Walks Q (kept ++ x ∷ []) xs left
  busy : IsRedundant (entries kept) x.entry (entries xs) → ⊥
  follows : Follows kept next
  redundant : IsRedundant (entries next) x.entry (entries left)

-- R holds for each such entry
module _ (Q R : LocatedMappings → LocatedMapping → Type 0)
    (meets : (m : Met Q) → FirstOfKey m.kept m.x × R m.next m.x) where
  next_pass : (kept next xs left out : LocatedMappings) → Walks Q kept xs left → Follows kept next
      → Walks Any next left out → Walks R next left out
  next_pass _ next _ _ _ (ends kept) f (ends _) = ends next
  next_pass _ next _ _ out (drops kept x xs left q redundant w) f v = next_pass kept next xs left out w f v
  next_pass _ next _ _ out (keeps kept x xs left busy w) f (drops _ _ _ _ _ redundant v) =
      let is = meets (record {
        kept = kept;
        next = next;
        x = x;
        xs = xs;
        left = left;
        walk = w;
        busy = busy;
        follows = f;
        redundant = redundant;
      }) in
      drops next x left out is.1 redundant
      (next_pass (kept ++ x ∷ []) next xs left out w (one_goes kept next x f is.0) v)
  next_pass _ next _ _ _ (keeps kept x xs left busy w) f (keeps _ _ _ out busy' v) = search (rules, keeps, (next_pass (kept ++ x ∷ []) (next ++ x ∷ []) xs left out w (both_keep kept next x f) v))

module _ (Q : LocatedMappings → LocatedMapping → Type 0) (m : Met Q) where
  abbrev k : Key
  k = key m.x.entry

  fine : is_accepted m.x.entry ≡ true
  fine = ⊎_elim (λ e. e) (λ bad. absurd (m.busy (unaccepted_redundant (entries m.kept) m.x.entry (entries m.xs) bad)))
      (cases_Bool (is_accepted m.x.entry))

  would_go : (keyed m.kept k ≡ [] → keyed m.left k ≡ keyed m.xs k)
      → (mailed m.kept k.0 ≡ [] → mailed m.left k.0 ≡ mailed m.xs k.0) → ⊥
  would_go keys emails =
      m.busy ((stays_decides m.kept m.x m.xs fine).1 (carried (is_some k.1) m.x _ _ _ _
      (carries (keyed m.kept k) (m.follows.keys k).0 (keyed m.next k) (keyed m.xs k) (keyed m.left k)
      (mailed m.kept k.0) (mailed m.next k.0) (mailed m.xs k.0) (mailed m.left k.0) (m.follows.keys k).1
      (none_added Q (λ y. eq_by_cmp key_cmp k (key y.entry)) (m.kept ++ m.x ∷ []) m.xs m.left m.walk)
      (λ none. (none_next m.kept m.next k m.follows none, keys none))
      (λ none. (m.follows.emails k.0 none, emails none)))
      ((stays_decides m.next m.x m.left fine).0 m.redundant)))

  -- no later entry that the filter picks is dropped, if it picks x
  as_before : (p : LocatedMapping → Bool) → p m.x ≡ true
      → ((kept : LocatedMappings) (x : LocatedMapping) → Q kept x → p x ≡ true → chosen p kept ≡ [])
      → chosen p m.left ≡ chosen p m.xs
  as_before p is unless = none_lost Q p unless (m.kept ++ m.x ∷ []) m.xs m.left m.walk (λ none.
      let own = (empty_parts _ (chosen p (m.x ∷ [])) (sym (chosen-append p m.kept (m.x ∷ [])) ∙ none)).1 in
      grind (arith, own, is, fine))

none_or_some : {X : Type 0} (xs : List X) → (xs ≡ []) ⊎ (xs ≡ [] → ⊥)
none_or_some [] = inl refl
none_or_some (x ∷ xs) = inr (λ e. absurd (cc))

second_meets : (m : Met Any) → FirstOfKey m.kept m.x × FirstOfKey m.next m.x
second_meets m =
    let k = key m.x.entry in
    ⊎_elim (λ none. (none, none_next m.kept m.next k m.follows none))
    (λ some. absurd (would_go Any m (λ none. absurd (some none)) (λ none. absurd (some (none_of_key (good m.kept) k none)))))
    (none_or_some (keyed m.kept k))

key_is_first : (k : Key) (kept : LocatedMappings) (x : LocatedMapping) → FirstOfKey kept x
    → eq_by_cmp key_cmp k (key x.entry) ≡ true → keyed kept k ≡ []
key_is_first k kept x first is = ap (keyed kept) (tells_apart keys_exact k (key x.entry) is) ∙ first

third_meets : (m : Met FirstOfKey) → FirstOfKey m.kept m.x × FirstOfEmail m.next m.x
third_meets m =
    let k = key m.x.entry in
    ⊎_elim (λ none. (none_of_key (good m.kept) k none, m.follows.emails k.0 none)) (λ some. absurd (would_go FirstOfKey m
    (λ _. as_before FirstOfKey m (λ y. eq_by_cmp key_cmp k (key y.entry)) (own_key m.x.entry) (key_is_first k))
    (λ none. absurd (some none)))) (none_or_some (mailed m.kept k.0))

fourth_meets : (m : Met FirstOfEmail) → FirstOfKey m.kept m.x × ⊥
fourth_meets m =
    let k = key m.x.entry in
    absurd (would_go FirstOfEmail m
    (λ _. as_before FirstOfEmail m (λ y. eq_by_cmp key_cmp k (key y.entry)) (own_key m.x.entry)
    (λ kept y first is. key_is_first k kept y (none_of_key (good kept) (key y.entry) first) is))
    (λ _. as_before FirstOfEmail m (λ y. eq_by_cmp text_cmp k.0 (folded y.entry.old_email)) (own_email m.x.entry)
    (λ kept y first is. ap (mailed kept) (tells_apart exact_bytes k.0 (folded y.entry.old_email) is) ∙ first)))

-- ---- all four

pub fourth_drops_none : (xs a b c : LocatedMappings) → IsPass [] xs a → IsPass [] a b → IsPass [] b c → IsPass [] c c
fourth_drops_none xs a b c p q r =
    let s = some_pass [] c in
    let second = next_pass Any FirstOfKey second_meets [] [] xs a b (walk xs a p) start (walk a b q) in
    let third = next_pass FirstOfKey FirstOfEmail third_meets [] [] a b c second start (walk b c r) in
    let fourth = next_pass FirstOfEmail (λ _ _. ⊥) fourth_meets [] [] b c s.0 third start (walk c s.0 s.1) in
    subst (IsPass [] c) (none_drops [] c s.0 fourth) s.1
  where
    walk : (xs out : LocatedMappings) → IsPass [] xs out → Walks Any [] xs out
    walk xs out p = let w = walk_of [] xs out p in subst (Walks Any [] xs) (sym w.1) w.2

pub effective_by_three : (xs a b c : LocatedMappings) → IsPass [] xs a → IsPass [] a b → IsPass [] b c
    → AreEffective xs c
effective_by_three xs a b c p q r =
    again xs a c p (again a b c q (again b c c r (settled c (fourth_drops_none xs a b c p q r))))

pub some_effective : (xs : LocatedMappings) → (kept : LocatedMappings) × AreEffective xs kept
some_effective xs =
    let a = some_pass [] xs in
    let b = some_pass [] a.0 in
    let c = some_pass [] b.0 in
    (c.0, effective_by_three xs a.0 b.0 c.0 a.1 b.1 c.1)
