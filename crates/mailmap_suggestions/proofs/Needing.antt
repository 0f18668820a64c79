-- The lines that contacts need, whether these come from lines or from a map.
use Rattle.std.proofs.Common.{◌≡◌, ◌+◌, ℕ, Bool, cond, Option, None, Some, List, [], ◌∷◌, ◌++◌, filter, not, refl, arith, rules}
use Rattle.std.specs.Prelude.{◌||◌, ◌&&◌, is_some}
use Rattle.std.proofs.lemmas.Grind.{common_steps}
use Rattle.mailmap_entries.specs.Folding.{Text}
use Rattle.mailmap_entries.proofs.Parts.{filter-filter}
use Rattle.mailmap_findings.specs.Needs.{any_needs, needs}
use Rattle.mailmap_redundancy.specs.Redundancy.{LocatedMapping}
use Rattle.mailmap_redundancy.specs.declared.located.Position.{Position}
use Rattle.mailmap_contacts.specs.Contacts.{Contact, Tally, both_seen, contacts_from, seen_where}
use Rattle.mailmap_contacts.specs.declared.occurrences.Occurrences.{Occurrences}
use Rattle.mailmap_contacts.proofs.Sums.{seen-push}

-- whether a contact needs the line at a position
abbrev pub needing : List LocatedMapping → Position → Contact → Bool
needing kept p c = needs kept c.name c.email p

some_both : (a b : Option Occurrences) → is_some (both_seen a b) ≡ (is_some a || is_some b)
some_both a b = grind arith

some_passing : (b : Bool) (seen : Occurrences) → is_some (cond b (Some seen) None) ≡ b
some_passing b seen = grind arith

pub any_on_lines : (kept : List LocatedMapping) (p : Position) (n : ℕ) (lines : List Text) → is_some (seen_where (needing kept p) (contacts_from n lines)) ≡ any_needs kept lines p
any_on_lines kept p n [] = refl
any_on_lines kept p n (line ∷ lines) = grind (arith, common_steps, any_on_lines kept p (n + 1) lines)

not_or : (a b : Bool) → (not a && not b) ≡ not (a || b)
not_or a b = grind arith

-- ---- one more contact

pub crossed_off : (kept : List LocatedMapping) (ts : List Tally) (t : Tally) (all : List Position)
    → filter (λ p. not (needing kept p t.contact)) (filter (λ p. not (is_some (seen_where (needing kept p) ts))) all)
    ≡ filter (λ p. not (is_some (seen_where (needing kept p) (ts ++ t ∷ [])))) all
crossed_off kept ts t all = search (rules, filter-filter, not_or, seen-push, some_both, some_passing)
