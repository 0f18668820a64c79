-- The part is read up to here, and its whole lines are answered.
use Rattle.std.proofs.Common.{length, ◌-◌}
use Rattle.mailmap_snapshot.specs.Streams.{AreCachedAnswers, HasTaken}
use Rattle.mailmap_snapshot.proofs.check.stream.take_lines.Given as goal

abbrev pub invariant-loop-count : goal.invariant-loop-count
invariant-loop-count l = record {
  has_taken : HasTaken l.snapshot l.fn.partial.items l.part l.fn.text.items l.count l.partial.items l.text.items;
  cached : AreCachedAnswers l.snapshot l.cache;
}

abbrev pub decreases-loop-count : goal.decreases-loop-count
decreases-loop-count l = length l.part - l.count
