-- The answer of `try_resolve`, from a list of mappings whose normal list is the snapshot.
use Rattle.mailmap_snapshot.proofs.snapshot.Snapshot.resolve.Goals as goal

pub returns-in-Some-clause-history : goal.returns-in-Some-clause-history
returns-in-Some-clause-history c h normal = rw c.in-Some.is at (c.in_ok-resolved.ensures.history_some h normal)
