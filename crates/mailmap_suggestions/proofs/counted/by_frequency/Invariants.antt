-- The tallies so far.
use Rattle.std.proofs.Common.{map, take}
use Rattle.mailmap_contacts.specs.Answers.{answer_key_tally, tally_of}
use Rattle.mailmap_contacts.specs.Counts.{SameTallies}
use Rattle.mailmap_suggestions.proofs.counted.by_frequency.Given as goal

abbrev pub invariant-loop-tally : goal.invariant-loop-tally
invariant-loop-tally l = SameTallies (map answer_key_tally l.counts.entries) (map tally_of (take l.tally-index l.tallies))
