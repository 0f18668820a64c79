-- The entries so far were added.
use Rattle.std.proofs.Common.{◌≡◌, map, take}
use Rattle.std.specs.List.{flat_map}
use Rattle.mailmap_entries.specs.Semantics.{accepted}
use Rattle.mailmap_suggestions.specs.Forms.{plus}
use Rattle.mailmap_suggestions.specs.Views.{suggestion_of}
use Rattle.mailmap_suggestions.proofs.suggestions.add_entries.Given as goal

abbrev pub invariant-loop-suggestion : goal.invariant-loop-suggestion
invariant-loop-suggestion l =
    l.histories ≡ plus l.initial.histories (accepted (flat_map (λ s. s.entries) (map suggestion_of (take l.suggestion-index l.found))))
