-- What the contacts so far need is crossed off.
use Rattle.std.proofs.Common.{◌≡◌, filter, map, not}
use Rattle.std.specs.Prelude.{is_some}
use Rattle.mailmap_contacts.specs.Contacts.{read_by, seen_where, trimmed}
use Rattle.mailmap_contacts.proofs.Entries.{item_tally}
use Rattle.mailmap_suggestions.proofs.Needing.{needing}
use Rattle.mailmap_suggestions.proofs.unneeded.add_to_needs.Given as goal

abbrev pub invariant-loop-name : goal.invariant-loop-name
invariant-loop-name l = (l.needs.history ≡ l.fn.needs.history) × ((l.needs.kept ≡ l.fn.needs.kept)
    × (l.needs.left ≡ filter (λ p. not (is_some (seen_where (needing l.fn.needs.kept p) (map (read_by trimmed) (map item_tally l.yielded))))) l.fn.needs.left))
