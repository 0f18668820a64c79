-- Those of the contacts so far that have a class.
use Rattle.std.proofs.Common.{◌≡◌, [], bytes_eq, filter, map, not, take}
use Rattle.mailmap_contacts.specs.Answers.{tally_of}
use Rattle.mailmap_contacts.specs.Contacts.{Tally}
use Rattle.mailmap_entries.specs.Folding.{Text, folded}
use Rattle.mailmap_suggestions.specs.Private.{keyed_by, keyed_of}
use Rattle.mailmap_suggestions.proofs.groups.by_class.Given as goal

abbrev pub invariant-loop-index : goal.invariant-loop-index
invariant-loop-index l = (text : Tally → Text) → map (λ v. folded v.items) l.classes ≡ map text (map tally_of l.contacts)
    → map keyed_of l.keyed.items ≡ keyed_by text (filter (λ t. not (bytes_eq (text t) [])) (map tally_of (take l.index l.contacts)))
