use Rattle.std.proofs.Common.{◌≡◌, fold}
use Rattle.mailmap_entries.specs.Listings.{entries_hashed}
use Rattle.mailmap_snapshot.proofs.snapshot.listing.SnapshotHash.hash.Given as goal

abbrev pub invariant-loop-entry : goal.invariant-loop-entry
invariant-loop-entry g l = fold g.H.Hasher.write l.state (entries_hashed l.entry-iterator) ≡ fold g.H.Hasher.write l.fn.state (entries_hashed l.fn.self)
