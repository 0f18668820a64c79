use Rattle.std.proofs.Common.{subst}
use Rattle.mailmap_entries.specs.Building.{IsListing}
use Rattle.mailmap_tables.proofs.Grouped.{groups_listing}
use Rattle.mailmap_snapshot.proofs.snapshot.Snapshot.iter.Goals as goal

pub returns-clause-own : goal.returns-clause-own
returns-clause-own c = subst IsListing c.self.view_is (groups_listing _ c.self.invariant)
