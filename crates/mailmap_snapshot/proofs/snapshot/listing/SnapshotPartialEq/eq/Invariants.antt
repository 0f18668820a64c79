use Rattle.std.proofs.Common.{◌≡◌}
use Rattle.mailmap_entries.specs.Listings.{same_entries}
use Rattle.mailmap_snapshot.proofs.snapshot.listing.SnapshotPartialEq.eq.Given as goal

abbrev pub invariant-loop-entry : goal.invariant-loop-entry
invariant-loop-entry l = same_entries l.entry-iterator l.others ≡ same_entries l.fn.self l.fn.other
