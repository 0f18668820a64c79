-- Maps of occurrences: adding to the occurrences of a key, and going over the entries.
use Rattle.std.proofs.Common.{◌≡◌, ℕ, Ordering, Less, Equal, Greater, refl, rules, ◌∙◌, ◌&&◌, Bool, true, cond, Option, Some, List, [], ◌∷◌, ◌++◌, ap, arith, map, sym, Bor}
use Rattle.std.specs.BTreeMap.{insert_entry, is_at}
use Rattle.std.specs.Cmp.{IsTotalOrder}
use Rattle.std.specs.Global.{Vec}
use Rattle.std.specs.List.Sorted.{IsStrictlySortedBy}
use Rattle.std.specs.Map.{keys_of, lookup}
use Rattle.std.specs.Map.Iter.{deref_pair}
use Rattle.std.specs.Ordering.{ordering_then, is_eq, match_ordering}
use Rattle.std.proofs.lemmas.Cmp.{nat_list_cmp_total, on_total, then_total}
use Rattle.std.proofs.lemmas.List.{map-append}
use Rattle.std.proofs.lemmas.Map.{lookup-none}
use Rattle.std.proofs.lemmas.Map.Entries.{none_below_head}
use Rattle.std.proofs.lemmas.Simd.{map-map}
use Rattle.std.proofs.lemmas.Map.Text.{is_eq-slice_cmp}
use Rattle.mailmap_entries.specs.Folding.{Text}
use Rattle.mailmap_entries.proofs.Parts.{all_map, all_mapped}
use Rattle.mailmap_contacts.specs.Contacts.{Contact, Tally, both_seen, contact_cmp, same_contact, seen_where}
use Rattle.mailmap_contacts.specs.Counts.{HasMore, SameTallies, key_tally, with_more}
use Rattle.mailmap_contacts.specs.declared.occurrences.Occurrences.{Occurrences}
use Rattle.mailmap_contacts.specs.declared.answers.Tally.{Tally as TheTally}
use Rattle.mailmap_contacts.proofs.Sums.{both_swap, passing, seen-push, same_more}

pub contact_total : IsTotalOrder contact_cmp
contact_total = search (rules, nat_list_cmp_total, on_total, then_total)

pub then_eq : (a b : Ordering) → is_eq (ordering_then a b) ≡ (is_eq a && is_eq b)
then_eq a b = grind arith

-- contacts that are the same compare so, and are equal
pub same_by_cmp : (a b : Contact) → is_eq (contact_cmp a b) ≡ same_contact a b
same_by_cmp a b = search (rules, is_eq-slice_cmp, then_eq)

pub same_is : (a b : Contact) → same_contact a b ≡ true → a ≡ b
same_is a b same = search rules

-- ---- going over the contacts in a map

abbrev pub item_tally : Bor (Vec ℕ × Vec ℕ) × Bor Occurrences → Tally
item_tally p = key_tally (deref_pair p)

pub items_are : (ps : List (Bor (Vec ℕ × Vec ℕ) × Bor Occurrences)) (es : List ((Vec ℕ × Vec ℕ) × Occurrences))
    → map deref_pair ps ≡ es → map item_tally ps ≡ map key_tally es
items_are ps es is = sym (map-map key_tally deref_pair ps) ∙ ap (map key_tally) is

-- ==== entries of a map, whose keys show contacts and are ordered as these are

module _ {K : Type 0} (shown : K → Contact) where
  abbrev pub key_cmp : K → K → Ordering
  key_cmp a b = contact_cmp (shown a) (shown b)

  abbrev pub entry_tally : K × Occurrences → Tally
  entry_tally e = record { contact = shown e.0; seen = e.1 }

  module _ (test : Contact → Bool) (k : K) (seen : Occurrences) where
    abbrev seen_in : List (K × Occurrences) → Option Occurrences
    seen_in es = seen_where test (map entry_tally es)

    abbrev of_one : K → Occurrences → Option Occurrences
    of_one q s = passing test (entry_tally (q, s))

    abbrev now : Ordering → K × Occurrences → List (K × Occurrences) → Occurrences
    now r e es = with_more (cond (is_eq r) (Some e.1) (lookup (is_at (key_cmp k)) es)) seen

    added : (es : List (K × Occurrences)) → IsStrictlySortedBy key_cmp (keys_of es)
        → seen_in (insert_entry key_cmp es k (with_more (lookup (is_at (key_cmp k)) es) seen)) ≡ both_seen (of_one k seen) (seen_in es)
    unfolding IsStrictlySortedBy
    added [] up = refl
    added (e ∷ es) up = first (ap (both_seen (of_one e.0 e.1)) (added es up.1)) (key_cmp k e.0) refl
      where
        first : both_seen (of_one e.0 e.1) (seen_in (insert_entry key_cmp es k (with_more (lookup (is_at (key_cmp k)) es) seen)))
            ≡ both_seen (of_one e.0 e.1) (both_seen (of_one k seen) (seen_in es)) → (r : Ordering) → key_cmp k e.0 ≡ r
            → seen_in (match_ordering r ((k, now r e es) ∷ e ∷ es) ((e.0, now r e es) ∷ es) (e ∷ insert_entry key_cmp es k (now r e es)))
            ≡ both_seen (of_one k seen) (seen_in (e ∷ es))
        first rest Less is = ap (λ o. both_seen (of_one k (with_more o seen)) (seen_in (e ∷ es)))
            (lookup-none (is_at (key_cmp k)) es (none_below_head (on_total shown contact_total) k e es up is).1)
        first rest Equal is = let same : shown k ≡ shown e.0 = same_is (shown k) (shown e.0) (sym (same_by_cmp (shown k) (shown e.0)) ∙ ap is_eq is) in search rules
        first rest Greater is = rest ∙ both_swap (of_one e.0 e.1) (of_one k seen) (seen_in es)

  -- adding to the occurrences of a key
  pub tallies_more : (es new : List (K × Occurrences)) (k : K) (seen : Occurrences) → HasMore key_cmp es k seen new
      → SameTallies (map entry_tally new) (map entry_tally es ++ record { contact = shown k; seen = seen } ∷ [])
  tallies_more es new k seen more = search (rules, added, seen-push)

  -- one more contact in the map, as in a list that has the same ones
  pub entries_more : (es new : List (K × Occurrences)) (k : K) (seen : Occurrences) (ts more : List Tally) (t : Tally)
      → HasMore key_cmp es k seen new → SameTallies (map entry_tally es) ts → entry_tally (k, seen) ≡ t
      → more ≡ ts ++ t ∷ [] → SameTallies (map entry_tally new) more
  entries_more es new k seen ts more t has same is more_is = λ test. tallies_more es new k seen has test
      ∙ same_more (map entry_tally es) ts (entry_tally (k, seen) ∷ []) (t ∷ []) same
      (λ other. ap (λ u. seen_where other (u ∷ [])) is) test ∙ ap (seen_where test) (sym more_is)

  -- one more answer to a contact of another map
  pub item_more : (g : Tally → Tally) (es new : List (K × Occurrences)) (k : K)
      (ps : List (Bor (Vec ℕ × Vec ℕ) × Bor Occurrences)) (p : Bor (Vec ℕ × Vec ℕ) × Bor Occurrences)
      → HasMore key_cmp es k p.1.now new → SameTallies (map entry_tally es) (map g (map item_tally ps))
      → entry_tally (k, p.1.now) ≡ g (item_tally p)
      → SameTallies (map entry_tally new) (map g (map item_tally (ps ++ p ∷ [])))
  item_more g es new k ps p has same is = search (rules, entries_more, map-append, has, same)

  -- the contacts of a map are distinct
  pub keys_once : (es : List (K × Occurrences)) → IsStrictlySortedBy key_cmp (keys_of es)
      → IsStrictlySortedBy contact_cmp (map (λ (a : Tally). a.contact) (map entry_tally es))
  unfolding IsStrictlySortedBy
  keys_once [] up = tt
  keys_once (e ∷ es) up = (
    all_mapped (λ a. a.contact) (λ c. contact_cmp (shown e.0) c ≡ Less) (map entry_tally es)
        (all_mapped entry_tally (λ a. contact_cmp (shown e.0) a.contact ≡ Less) es (all_map (λ x. x.0) (λ q. key_cmp e.0 q ≡ Less) es up.0)),
    keys_once es up.1,
  )

-- ---- answers in a map

-- an answer as an entry of a map
abbrev pub entry_of : TheTally → (Bor Text × Bor Text) × Occurrences
entry_of a = ((a.name, a.email), a.seen)
