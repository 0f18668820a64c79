-- What is still suggested so far.
use Rattle.std.proofs.Common.{◌≡◌, ◌++◌, List, flat_map, map}
use Rattle.mailmap_entries.specs.Folding.{Text}
use Rattle.mailmap_suggestions.specs.RememberedViews.{Remembers}
use Rattle.mailmap_suggestions.specs.Suggestions.{still_suggested}
use Rattle.mailmap_suggestions.specs.Views.{suggestion_of}
use Rattle.mailmap_suggestions.proofs.suggestions.push_new.Given as goal

abbrev pub invariant-loop-suggestion : goal.invariant-loop-suggestion
invariant-loop-suggestion l = (lines : List Text) → Remembers lines l.remembered → map suggestion_of l.found.items
    ≡ map suggestion_of l.initial.found.items ++ flat_map (still_suggested lines) (map suggestion_of l.yielded)
