-- Counted answers by frequency, and the proper one of them.
use Rattle.std.proofs.Common.{◌≡◌, ◌∙◌, true, false, List, [], ◌∷◌, ap, if◌then◌else◌, refl, rules, sym, ◌≢◌, ◌&&◌, true≢false, Ordering, Less, Equal, Greater, arith, not}
use Rattle.std.specs.List.{AllByRecursion, IsDistinct}
use Rattle.std.proofs.lemmas.Bool.{and_parts, not-true}
use Rattle.std.proofs.lemmas.Cmp.{back_total, nat_cmp_total, nat_list_cmp_total, on_total, then_total}
use Rattle.std.proofs.lemmas.Map.Text.{is_eq-slice_cmp}
use Rattle.std.specs.Cmp.{IsTotalOrder}
use Rattle.std.specs.List.Sorted.{IsStrictlySortedBy, IsPermutation}
use Rattle.std.specs.Ordering.{is_eq, is_lt, ordering_reverse}
use Rattle.mailmap_entries.specs.Folding.{Text}
use Rattle.mailmap_entries.proofs.Parts.{all_weaker}
use Rattle.mailmap_entries.proofs.Joined.{never}
use Rattle.mailmap_contacts.specs.Contacts.{Contact, Tally, AreTallies, tallied}
use Rattle.mailmap_contacts.specs.Proper.{has_text, is_preferred, preferred, preferred_of, proper}
use Rattle.mailmap_contacts.proofs.Steps.{all_filtered, HasOnly, NoneBefore}
use Rattle.mailmap_contacts.proofs.Tallied.{distinct_tallied, one_list, same, then_eq}
use Rattle.mailmap_suggestions.specs.Counted.{by_frequency, frequency_cmp, inserted}
use Rattle.mailmap_suggestions.specs.Forms.{is_shared}
use Rattle.mailmap_suggestions.specs.GroupEntries.{contact_or_nobody, of_one_person, or_else}

-- ---- the order by frequency

pub frequency_total : IsTotalOrder frequency_cmp
frequency_total = then_total
    (then_total (on_total (λ (t : Tally). t.seen.count) (back_total nat_cmp_total)) (on_total (λ (t : Tally). t.seen.first_line) nat_cmp_total))
    (then_total (on_total (λ (t : Tally). t.contact.name) nat_list_cmp_total) (on_total (λ (t : Tally). t.contact.email) nat_list_cmp_total))

abbrev Apart : Tally → Tally → Type 0
Apart t u = is_eq (frequency_cmp t u) ≡ false

apart : (t u : Tally) → same t u ≡ false → Apart t u
apart t u other = search (rules, never, then_eq, is_eq-slice_cmp)

-- ---- lists by frequency

all_inserted : (P : Tally → Type 0) (t : Tally) (us : List Tally) → P t → AllByRecursion P us → AllByRecursion P (inserted t us)
all_inserted P t [] p all = (p, tt)
all_inserted P t (u ∷ us) p all = search (rules, all_inserted P t us p all.1)

pub all_by_frequency : (P : Tally → Type 0) (ts : List Tally) → AllByRecursion P ts → AllByRecursion P (by_frequency ts)
all_by_frequency P [] all = tt
all_by_frequency P (t ∷ ts) all = all_inserted P t (by_frequency ts) all.0 (all_by_frequency P ts all.1)

uninserted : (P : Tally → Type 0) (t : Tally) (us : List Tally) → AllByRecursion P (inserted t us) → AllByRecursion P (t ∷ us)
uninserted P t [] all = all
uninserted P t (u ∷ us) all = search (rules, uninserted P t us)

pub from_by_frequency : (ts : List Tally) → HasOnly (by_frequency ts) ts
from_by_frequency [] P all = tt
from_by_frequency (t ∷ ts) P all = let rest = uninserted P t (by_frequency ts) all in (rest.0, from_by_frequency ts P rest.1)

inserted_sorted : (t : Tally) (us : List Tally) → AllByRecursion (Apart t) us → IsStrictlySortedBy frequency_cmp us → IsStrictlySortedBy frequency_cmp (inserted t us)
unfolding IsStrictlySortedBy
inserted_sorted t [] apart up = (tt, tt)
inserted_sorted t (u ∷ us) apart up = by (frequency_cmp t u) refl (inserted_sorted t us apart.1 up.1)
  where
    by : (r : Ordering) → frequency_cmp t u ≡ r → IsStrictlySortedBy frequency_cmp (inserted t us) → IsStrictlySortedBy frequency_cmp (if is_lt r then t ∷ u ∷ us else u ∷ inserted t us)
    by Less is rest = ((is, all_weaker us (λ v less. frequency_total.trans t u v is less) up.0), up)
    by Equal is rest = absurd (true≢false (sym (ap is_eq is) ∙ apart.0))
    by Greater is rest =
        (all_inserted (λ v. frequency_cmp u v ≡ Less) t us (frequency_total.antisymm u t ∙ ap ordering_reverse is) up.0, rest)

by_frequency_sorted : (ts : List Tally) → IsDistinct same ts → IsStrictlySortedBy frequency_cmp (by_frequency ts)
unfolding IsStrictlySortedBy IsDistinct
by_frequency_sorted [] once = tt
by_frequency_sorted (t ∷ ts) once =
    inserted_sorted t (by_frequency ts) (all_by_frequency (Apart t) ts (all_weaker ts (apart t) once.0)) (by_frequency_sorted ts once.1)

pub sorted_tallies : (ts us vs : List Tally) → AreTallies ts us → IsPermutation us vs → NoneBefore frequency_cmp vs → vs ≡ by_frequency (tallied ts)
sorted_tallies ts us vs are moved up =
    one_list frequency_cmp frequency_total ts us vs (by_frequency (tallied ts)) are moved up (by_frequency_sorted (tallied ts) (distinct_tallied ts))
    (λ P. all_by_frequency P (tallied ts)) (from_by_frequency (tallied ts))

-- ---- the proper one

abbrev pub Each : (Contact → Type 0) → List Tally → Type 0
Each P ts = AllByRecursion (λ t. P t.contact) ts

pub preferred_all : (P : Tally → Type 0) (best : Tally) (ts : List Tally) → P best → AllByRecursion P ts → P (preferred_of best ts)
preferred_all P best [] p all = p
preferred_all P best (t ∷ ts) p all = preferred_all P (preferred best t) ts (elim (is_preferred t best) as (λ b. P (if b then t else best)) [ true ↦ all.0 | false ↦ p ]) all.1

pub all_named : (P : Contact → Type 0) (ts : List Tally) → ts ≢ [] → Each P ts → P (contact_or_nobody (proper ts))
all_named P [] some all = absurd (some refl)
all_named P (t ∷ ts) some all = preferred_all (λ t. P t.contact) t ts all.0 all.1

abbrev IsUnnamed : Contact → Type 0
IsUnnamed c = c.name ≡ []

both_unnamed : (best t : Tally) → IsUnnamed (preferred best t).contact → IsUnnamed best.contact × IsUnnamed t.contact
both_unnamed best t e = grind arith

preferred_unnamed : (best : Tally) (ts : List Tally) → IsUnnamed (preferred_of best ts).contact → Each IsUnnamed (best ∷ ts)
preferred_unnamed best [] e = (e, tt)
preferred_unnamed best (t ∷ ts) e =
    let rest = preferred_unnamed (preferred best t) ts e in
    let both = both_unnamed best t rest.0 in (both.0, (both.1, rest.1))

-- it has a name if one has
pub none_named : (ts : List Tally) → IsUnnamed (contact_or_nobody (proper ts)) → Each IsUnnamed ts
none_named [] e = tt
none_named (t ∷ ts) e = preferred_unnamed t ts e

-- ---- of those whose email one person has, if there are any

abbrev pub proper_of : List Text → List Tally → Contact
proper_of shared ts = contact_or_nobody (proper (or_else (of_one_person shared ts) ts))

either_some : (xs ys : List Tally) → ys ≢ [] → or_else xs ys ≢ []
either_some [] ys some = some
either_some (x ∷ xs) ys some = λ e. cc

either_all : (P : Tally → Type 0) (xs ys : List Tally) → AllByRecursion P xs → AllByRecursion P ys → AllByRecursion P (or_else xs ys)
either_all P [] ys first second = second
either_all P (x ∷ xs) ys first second = first

pub all_proper : (P : Contact → Type 0) (shared : List Text) (ts : List Tally) → ts ≢ [] → Each P ts → P (proper_of shared ts)
all_proper P shared ts some all = all_named P (or_else (of_one_person shared ts) ts) (either_some (of_one_person shared ts) ts some)
    (either_all (λ t. P t.contact) (of_one_person shared ts) ts
    (all_filtered (λ a. has_text a.contact.name && not (is_shared shared a.contact.email)) (λ t. P t.contact) (λ t. P t.contact) (λ t p _. p) ts all) all)

all_any : (ts : List Tally) → AllByRecursion (λ _. Unit {0}) ts
all_any [] = tt
all_any (t ∷ ts) = (tt, all_any ts)

-- it has a name if one has
pub none_proper : (shared : List Text) (ts : List Tally) → IsUnnamed (proper_of shared ts) → Each IsUnnamed ts
none_proper shared ts = by (of_one_person shared ts)
    (all_filtered (λ a. has_text a.contact.name && not (is_shared shared a.contact.email)) (λ _. Unit {0}) (λ a. has_text a.contact.name ≡ true)
    (λ a _ is. (and_parts (has_text a.contact.name) (not (is_shared shared a.contact.email)) is).0) ts (all_any ts))
  where
    by : (l : List Tally) → AllByRecursion (λ a. has_text a.contact.name ≡ true) l → IsUnnamed (contact_or_nobody (proper (or_else l ts))) → Each IsUnnamed ts
    by [] named e = none_named ts e
    by (a ∷ rest) named e = absurd (true≢false (sym named.0 ∙ ap has_text (none_named (a ∷ rest) e).0))

-- one person has its email if that is so of one with a name
pub unshared_proper : (shared : List Text) (ts : List Tally) → of_one_person shared ts ≢ [] → is_shared shared (proper_of shared ts).email ≡ false
unshared_proper shared ts = by (of_one_person shared ts)
    (all_filtered (λ a. has_text a.contact.name && not (is_shared shared a.contact.email)) (λ _. Unit {0}) (λ a. is_shared shared a.contact.email ≡ false)
    (λ a _ is. not-true (is_shared shared a.contact.email) (and_parts (has_text a.contact.name) (not (is_shared shared a.contact.email)) is).1) ts (all_any ts))
  where
    by : (l : List Tally) → AllByRecursion (λ a. is_shared shared a.contact.email ≡ false) l → l ≢ [] → is_shared shared (contact_or_nobody (proper (or_else l ts))).email ≡ false
    by [] all some = absurd (some refl)
    by (a ∷ rest) all some = all_named (λ c. is_shared shared c.email ≡ false) (a ∷ rest) some all
