-- The entries so far are the same.
use Rattle.std.proofs.Common.{◌≡◌, map, take}
use Rattle.mailmap_entries.specs.Entries.{mapping_of}
use Rattle.mailmap_suggestions.proofs.histories.are_same.Given as goal

abbrev pub invariant-loop-index : goal.invariant-loop-index
invariant-loop-index l =
    map (λ x. mapping_of x.entry) (take l.index l.some) ≡ map (λ x. mapping_of x.entry) (take l.index l.others)
