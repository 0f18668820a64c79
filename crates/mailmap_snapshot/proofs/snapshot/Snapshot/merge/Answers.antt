use Rattle.std.proofs.Common.{map}
use Rattle.std.proofs.lemmas.Result.{on_ok_weaker}
use Rattle.mailmap_entries.specs.Entries.{mapping_of}
use Rattle.mailmap_entries.proofs.Building.{is_merged}
use Rattle.mailmap_tables.proofs.Grouped.{groups_normal}
use Rattle.mailmap_snapshot.proofs.snapshot.Snapshot.merge.Goals as goal

pub returns-clause-ok : goal.returns-clause-ok
returns-clause-ok g c =
    rw (← c.self.view_is) (on_ok_weaker c.merge.result (λ d. (d.0, d.1, is_merged _ (map mapping_of d.0) _ (groups_normal _ c.self.invariant) d.2)) c.merge.ensures.ok)
