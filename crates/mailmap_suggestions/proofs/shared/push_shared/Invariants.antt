-- The emails so far and those of the remaining groups are the whole.
use Rattle.std.proofs.Common.{◌≡◌, ◌++◌, drop, flat_map, map}
use Rattle.mailmap_suggestions.specs.GroupEntries.{contacts}
use Rattle.mailmap_suggestions.specs.Private.{tallies_in}
use Rattle.mailmap_suggestions.specs.SharedViews.{folded_texts, several_email}
use Rattle.mailmap_suggestions.proofs.shared.push_shared.Given as goal

abbrev pub invariant-loop-group : goal.invariant-loop-group
invariant-loop-group l = folded_texts l.shared.items ++ flat_map several_email (map (λ g. contacts (tallies_in g)) (drop l.group-index l.group-items))
    ≡ folded_texts l.initial.shared.items ++ flat_map several_email (map (λ g. contacts (tallies_in g)) l.group-items)
