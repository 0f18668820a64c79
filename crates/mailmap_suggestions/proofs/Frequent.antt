-- The proper answer is a most frequent one of those that may be proper.
use Rattle.std.proofs.Common.{◌≡◌, ◌≢◌, ◌∙◌, ◌&&◌, suc, Bool, true, false, true≢false, not, List, [], ◌∷◌, ap, filter, if◌then◌else◌, refl, sym, subst, ⊎_elim, inl, inr, arith}
use Rattle.std.specs.List.{AllByRecursion, Contains}
use Rattle.std.proofs.lemmas.Bool.{and_parts, false_from_ne_true}
use Rattle.std.proofs.lemmas.Bool.Decides.{nat_tests}
use Rattle.mailmap_contacts.specs.declared.occurrences.Occurrences.{Occurrences}
use Rattle.mailmap_entries.specs.Folding.{Text}
use Rattle.mailmap_contacts.specs.Contacts.{Tally}
use Rattle.mailmap_contacts.specs.Proper.{comes_more, has_text, is_preferred, preferred, preferred_of, proper}
use Rattle.mailmap_contacts.proofs.Steps.{all_filtered}
use Rattle.mailmap_suggestions.specs.Forms.{is_shared}
use Rattle.mailmap_suggestions.specs.GroupEntries.{IsMostFrequent, candidates, contact_or_nobody, of_one_person, or_else}
use Rattle.mailmap_suggestions.proofs.Distinct.{◌∈◌, at, each, from_filter, in_filter}
use Rattle.mailmap_suggestions.proofs.Proper.{preferred_all, proper_of}

-- ---- the order by which it is chosen

comes_not : (a b c : Occurrences) → comes_more a b ≡ false → comes_more b c ≡ false → comes_more a c ≡ false
comes_not a b c first second = grind (arith, nat_tests)

comes_back : (a b : Occurrences) → comes_more a b ≡ true → comes_more b a ≡ false
comes_back a b is = grind (arith, nat_tests)

comes_self : (a : Occurrences) → comes_more a a ≡ false
comes_self a = grind (arith, nat_tests)

-- whether the first is preferred, by whether they have names and which comes more
abbrev picks : Bool → Bool → Bool → Bool
picks x y more = if x then (if y then more else true) else (if y then false else more)

not_picked : (x y z m n o : Bool) → (m ≡ false → n ≡ false → o ≡ false) → picks x y m ≡ false → picks y z n ≡ false → picks x z o ≡ false
not_picked true true true m n o f first second = f first second
not_picked true true false m n o f first second = second
not_picked true false z m n o f first second = absurd (true≢false first)
not_picked false true true m n o f first second = refl
not_picked false true false m n o f first second = absurd (true≢false second)
not_picked false false true m n o f first second = refl
not_picked false false false m n o f first second = f first second

picked_back : (x y m n : Bool) → (m ≡ true → n ≡ false) → picks x y m ≡ true → picks y x n ≡ false
picked_back true true m n f is = f is
picked_back true false m n f is = refl
picked_back false true m n f is = absurd (true≢false (sym is))
picked_back false false m n f is = f is

picked_self : (x m : Bool) → m ≡ false → picks x x m ≡ false
picked_self true m out = out
picked_self false m out = out

not_preferred : (a b c : Tally) → is_preferred a b ≡ false → is_preferred b c ≡ false → is_preferred a c ≡ false
not_preferred a b c = not_picked (has_text a.contact.name) (has_text b.contact.name) (has_text c.contact.name) (comes_more a.seen b.seen) (comes_more b.seen c.seen) (comes_more a.seen c.seen) (comes_not a.seen b.seen c.seen)

-- none is preferred to the chosen one
none_better : (best : Tally) (ts : List Tally) → AllByRecursion (λ t. is_preferred t (preferred_of best ts) ≡ false) (best ∷ ts)
none_better best [] = (picked_self (has_text best.contact.name) (comes_more best.seen best.seen) (comes_self best.seen), tt)
none_better best (t ∷ ts) = let rest = none_better (preferred best t) ts in by best t (preferred_of (preferred best t) ts) (is_preferred t best) refl rest.0 rest.1
  where
    by : (best t r : Tally) (b : Bool) → is_preferred t best ≡ b → is_preferred (if b then t else best) r ≡ false → AllByRecursion (λ u. is_preferred u r ≡ false) ts
        → AllByRecursion (λ u. is_preferred u r ≡ false) (best ∷ t ∷ ts)
    by best t r true is less rest = (not_preferred best t r (picked_back (has_text t.contact.name) (has_text best.contact.name) (comes_more t.seen best.seen) (comes_more best.seen t.seen) (comes_back t.seen best.seen) is) less, (less, rest))
    by best t r false out less rest = (less, (not_preferred t best r out less, rest))

chosen_in : (best : Tally) (ts : List Tally) → preferred_of best ts ∈ (best ∷ ts)
chosen_in best ts = preferred_all (λ t. t ∈ (best ∷ ts)) best ts (inl refl) (each (λ t. t ∈ (best ∷ ts)) ts (λ t i. inr i))

-- the chosen one of a list
record IsChosen (ts : List Tally) (r : Tally) : Type 0 where
  pub among : r ∈ ts
  pub same : r.contact ≡ contact_or_nobody (proper ts)
  pub none : AllByRecursion (λ t. is_preferred t r ≡ false) ts

chosen : (ts : List Tally) → ts ≢ [] → (r : Tally) × IsChosen ts r
chosen [] some = absurd (some refl)
chosen (t ∷ ts) some = (preferred_of t ts, record { among = chosen_in t ts; same = refl; none = none_better t ts })

-- ---- lists

in_contains : {X : Type 0} (xs : List X) (x : X) → x ∈ xs → Contains xs x
in_contains [] x i = absurd i
in_contains (y ∷ ys) x i = ⊎_elim (λ same. (0, omega arith, same)) (λ later. let k = in_contains ys x later in (suc k.0, omega (arith, k.1), k.2)) i

-- ---- by frequency alone, where all have a name or none has one

unpicked : (x y m : Bool) → x ≡ y → picks x y m ≡ false → m ≡ false
unpicked true true m same out = out
unpicked true false m same out = absurd (true≢false same)
unpicked false true m same out = absurd (true≢false (sym same))
unpicked false false m same out = out

by_frequency_alone : (b : Bool) (ts : List Tally) (r : Tally) → AllByRecursion (λ t. has_text t.contact.name ≡ b) ts → IsChosen ts r → IsMostFrequent ts (contact_or_nobody (proper ts))
by_frequency_alone b ts r all is = record {
  best = r;
  among = in_contains ts r is.among;
  same = is.same;
  most = each (λ t. comes_more t.seen r.seen ≡ false) ts (λ t i. unpicked (has_text t.contact.name) (has_text r.contact.name) (comes_more t.seen r.seen)
      (at _ ts all t i ∙ sym (at _ ts all r is.among)) (at _ ts is.none t i));
}

-- ---- of those with a name, if there are any

module _ (ts : List Tally) (r : Tally) (is : IsChosen ts r) where
  abbrev has_name : Tally → Bool
  has_name t = has_text t.contact.name

  name_needed : (x m : Bool) → picks true x m ≡ false → x ≡ true
  name_needed true m out = refl
  name_needed false m out = absurd (true≢false out)

  named_chosen : (t : Tally) → t ∈ filter has_name ts → has_name r ≡ true
  named_chosen t i =
      let found = from_filter has_name ts t i in
      name_needed (has_name r) (comes_more t.seen r.seen) (ap (λ x. picks x (has_name r) (comes_more t.seen r.seen)) (sym found.1) ∙ at _ ts is.none t found.0)

  if_named : (t : Tally) (rest : List Tally) → filter has_name ts ≡ t ∷ rest → IsMostFrequent (filter has_name ts) (contact_or_nobody (proper ts))
  if_named t rest all =
      let named : has_name r ≡ true = named_chosen t (subst (λ l. t ∈ l) (sym all) (inl refl)) in
      record {
        best = r;
        among = in_contains (filter has_name ts) r (in_filter has_name ts r is.among named);
        same = is.same;
        most = each (λ t. comes_more t.seen r.seen ≡ false) (filter has_name ts) (λ u i.
            let found = from_filter has_name ts u i in
            unpicked (has_name u) (has_name r) (comes_more u.seen r.seen) (found.1 ∙ sym named) (at _ ts is.none u found.0));
      }

  if_unnamed : filter has_name ts ≡ [] → IsMostFrequent ts (contact_or_nobody (proper ts))
  if_unnamed none = by_frequency_alone false ts r (each _ ts (λ t i. false_from_ne_true (has_name t) (λ named. subst (λ l. t ∈ l) none (in_filter has_name ts t i named)))) is

  by_names : (l : List Tally) → filter has_name ts ≡ l → IsMostFrequent (or_else l ts) (contact_or_nobody (proper ts))
  by_names [] none = if_unnamed none
  by_names (t ∷ rest) all = subst (λ l. IsMostFrequent l (contact_or_nobody (proper ts))) all (if_named t rest all)

some_list : (t : Tally) (rest : List Tally) → (t ∷ rest) ≢ []
some_list t rest e = cc

pub most_frequent : (shared : List Text) (ts : List Tally) → ts ≢ [] → IsMostFrequent (candidates shared ts) (proper_of shared ts)
most_frequent shared ts some = by (of_one_person shared ts)
    (all_filtered (λ a. has_text a.contact.name && not (is_shared shared a.contact.email)) (λ a. a ∈ ts) (λ a. has_text a.contact.name ≡ true)
    (λ a _ is. (and_parts (has_text a.contact.name) (not (is_shared shared a.contact.email)) is).0) ts (each (λ a. a ∈ ts) ts (λ a i. i)))
  where
    by : (l : List Tally) → AllByRecursion (λ a. has_text a.contact.name ≡ true) l
        → IsMostFrequent (or_else l (or_else (filter (λ a. has_text a.contact.name) ts) ts)) (contact_or_nobody (proper (or_else l ts)))
    by [] named = let r = chosen ts some in by_names ts r.0 r.1 (filter (λ a. has_text a.contact.name) ts) refl
    by (t ∷ rest) named = let r = chosen (t ∷ rest) (some_list t rest) in by_frequency_alone true (t ∷ rest) r.0 named r.1
