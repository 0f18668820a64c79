-- Adding up occurrences.
use Rattle.std.proofs.Common.{◌≡◌, ◌∙◌, ℕ, Bool, Option, None, Some, List, [], ◌∷◌, ◌++◌, ap, map, refl, sym, rules}
use Rattle.std.specs.Prelude.{if◌then◌else◌}
use Rattle.mailmap_contacts.specs.Contacts.{Contact, Tally, both_seen, seen_where}
use Rattle.mailmap_contacts.specs.Counts.{SameTallies}
use Rattle.mailmap_contacts.specs.declared.occurrences.Occurrences.{Occurrences}

seen_is : (a b c d : ℕ) → a ≡ b → c ≡ d → ◌≡◌ {A = Occurrences} (record { count = a; first_line = c }) (record { count = b; first_line = d })
seen_is a b c d e f = λ i. record { count = e i; first_line = f i }

pub both_none : (a : Option Occurrences) → both_seen a None ≡ a
both_none None = refl
both_none (Some a) = refl

pub both_assoc : (a b c : Option Occurrences) → both_seen (both_seen a b) c ≡ both_seen a (both_seen b c)
both_assoc a b c = search rules

pub both_comm : (a b : Option Occurrences) → both_seen a b ≡ both_seen b a
both_comm a b = search (rules, both_none, seen_is)

-- the second of three goes to the front
pub both_swap : (a b c : Option Occurrences) → both_seen a (both_seen b c) ≡ both_seen b (both_seen a c)
both_swap a b c = sym (both_assoc a b c) ∙ ap (λ o. both_seen o c) (both_comm a b) ∙ both_assoc b a c

-- the occurrences of a tally, if it passes a test
abbrev pub passing : (Contact → Bool) → Tally → Option Occurrences
passing test t = if test t.contact then Some t.seen else None

pub seen-append : (test : Contact → Bool) (ts us : List Tally) → seen_where test (ts ++ us) ≡ both_seen (seen_where test ts) (seen_where test us)
seen-append test [] us = refl
seen-append test (t ∷ ts) us = search (rules, both_assoc, (seen-append test ts us))

pub seen-push : (test : Contact → Bool) (ts : List Tally) (t : Tally) → seen_where test (ts ++ t ∷ []) ≡ both_seen (seen_where test ts) (passing test t)
seen-push test ts t = seen-append test ts (t ∷ []) ∙ ap (both_seen (seen_where test ts)) (both_none (passing test t))

-- both lists go on alike
pub same_more : (ts us more others : List Tally) → SameTallies ts us → SameTallies more others → SameTallies (ts ++ more) (us ++ others)
same_more ts us more others same also = search (rules, seen-append, same, also)

-- tallies of what contacts are mapped to
module _ (g : Contact → Contact) where
  abbrev pub mapped : Tally → Tally
  mapped t = record { contact = g t.contact; seen = t.seen }

  pub seen-mapped : (test : Contact → Bool) (ts : List Tally) → seen_where test (map mapped ts)
      ≡ seen_where (λ c. test (g c)) ts
  seen-mapped test [] = refl
  seen-mapped test (t ∷ ts) = ap (both_seen (passing (λ c. test (g c)) t)) (seen-mapped test ts)

  pub same_mapped : (ts us : List Tally) → SameTallies ts us → SameTallies (map mapped ts) (map mapped us)
  same_mapped ts us same = λ test. seen-mapped test ts ∙ same (λ c. test (g c)) ∙ sym (seen-mapped test us)
