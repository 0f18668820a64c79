use Rattle.std.proofs.Common.{◌≡◌, ◌-◌, ◌+◌, ◌<◌, ◌≤◌, ℕ, get_or, length}
use Rattle.mailmap_batches.specs.Batches.{email_prefix}
use Rattle.mailmap_batches.specs.declared.indexed.IndexedEntry.{IndexedEntry}
use Rattle.mailmap_batches.proofs.batch.run_end.Given as goal

abbrev pub invariant-loop-end : goal.invariant-loop-end
invariant-loop-end l = record {
  after : l.start < l.end;
  within : l.end ≤ length l.entries;
  same : (k : ℕ) (d : IndexedEntry) → k + 1 ≡ l.end → email_prefix (get_or l.entries k d) ≤ l.prefix;
}

abbrev pub decreases-loop-end : goal.decreases-loop-end
decreases-loop-end l = length l.entries - l.end
