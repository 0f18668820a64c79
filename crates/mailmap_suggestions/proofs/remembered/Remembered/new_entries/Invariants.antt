-- Those of the entries so far.
use Rattle.std.proofs.Common.{◌≡◌, List, map, take}
use Rattle.mailmap_entries.specs.Entries.{mapping_of}
use Rattle.mailmap_entries.specs.Folding.{Text}
use Rattle.mailmap_suggestions.specs.RememberedViews.{Remembers}
use Rattle.mailmap_suggestions.specs.Suggestions.{new_entries}
use Rattle.mailmap_suggestions.proofs.remembered.Remembered.new_entries.Given as goal

abbrev pub invariant-loop-entry : goal.invariant-loop-entry
invariant-loop-entry l = (lines : List Text) → Remembers lines l.self → map mapping_of l.found.items ≡ new_entries lines (map mapping_of (take l.entry-index l.entries))
