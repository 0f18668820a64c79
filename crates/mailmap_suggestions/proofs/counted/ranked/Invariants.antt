-- The tallies so far and the remaining ones, with their ranks, are the whole.
use Rattle.std.proofs.Common.{◌≡◌, ◌+◌, ◌++◌, drop, map}
use Rattle.mailmap_contacts.specs.Answers.{tally_of}
use Rattle.mailmap_suggestions.specs.Counted.{ranked}
use Rattle.mailmap_suggestions.proofs.counted.ranked.Given as goal

abbrev pub invariant-loop-index : goal.invariant-loop-index
invariant-loop-index l = map tally_of l.numbered.items ++ ranked (l.index + 1) (map tally_of (drop l.index l.tallies)) ≡ ranked 1 (map tally_of l.tallies)
