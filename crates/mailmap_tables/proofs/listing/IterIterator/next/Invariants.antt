use Rattle.std.proofs.Common.{◌≡◌, ◌-◌, length}
use Rattle.std.specs.List.{AllByRecursion}
use Rattle.mailmap_tables.specs.Pool.{left_to_list, NameInPool}
use Rattle.mailmap_tables.proofs.listing.IterIterator.next.Given as goal

abbrev pub invariant-loop-self : goal.invariant-loop-self
invariant-loop-self l = record {
  in_pool : AllByRecursion (NameInPool (length l.self-inside.tables.pool)) l.self-inside.names.now;
  left : left_to_list l.self-inside.tables l.self-inside.old_email.now l.self-inside.names.now l.self-inside.reached
      ≡ l.fn.self;
}

abbrev pub decreases-loop-self : goal.decreases-loop-self
decreases-loop-self l = length l.self-inside.tables.groups - l.self-inside.reached
