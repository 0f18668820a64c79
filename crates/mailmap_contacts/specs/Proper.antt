-- The proper one of several answers.
use Rattle.std.specs.Prelude.{◌==◌, ◌&&◌, ◌||◌, Bool, true, false, if◌then◌else◌, List, [], ◌∷◌, Option, None, Some, nat_lt}
use Rattle.mailmap_contacts.specs.Contacts.{Tally}
pub use Rattle.mailmap_contacts.specs.Contacts.{has_text}
use Rattle.mailmap_contacts.specs.declared.occurrences.Occurrences.{Occurrences}

-- what comes more often than something else; or as often, and first on an earlier line
abbrev pub comes_more : Occurrences → Occurrences → Bool
comes_more a b = nat_lt b.count a.count || (a.count == b.count && nat_lt a.first_line b.first_line)

-- Whether a is preferred to b: one with a name to one without, and otherwise the one that comes more.
abbrev pub is_preferred : Tally → Tally → Bool
is_preferred a b = if has_text a.contact.name then (if has_text b.contact.name then comes_more a.seen b.seen else true)
    else (if has_text b.contact.name then false else comes_more a.seen b.seen)

abbrev pub preferred : Tally → Tally → Tally
preferred best t = if is_preferred t best then t else best

abbrev pub preferred_of : Tally → List Tally → Tally
preferred_of best [] = best
preferred_of best (t ∷ ts) = preferred_of (preferred best t) ts

-- The proper one: of those with a name, or of all if none has one, the one that comes most often; of several of these
-- the one that comes first.
abbrev pub proper : List Tally → Option Tally
proper [] = None
proper (t ∷ ts) = Some (preferred_of t ts)

-- the proper one after one more
abbrev pub better : Option Tally → Tally → Tally
better None t = t
better (Some best) t = preferred best t
