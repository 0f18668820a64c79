use Rattle.std.proofs.Common.{◌≡◌, length, take}
use Rattle.mailmap_entries.specs.Semantics.{IsNormal}
use Rattle.mailmap_snapshot.specs.Sources.{IsMarked}
use Rattle.mailmap_snapshot.proofs.snapshot.Snapshot.merge_sources.Given as goal

abbrev pub invariant-loop-i : goal.invariant-loop-i
invariant-loop-i l = record {
  long : length l.made ≡ length l.sources;
  own : IsNormal l.fn.self l.fn.self;
  marked : IsMarked l.fn.self (take l.i l.sources) (take l.i l.made) l.self;
}
