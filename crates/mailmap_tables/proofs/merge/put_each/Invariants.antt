use Rattle.std.proofs.Common.{◌++◌, map, take}
use Rattle.mailmap_entries.specs.Entries.{mapping_of}
use Rattle.mailmap_tables.specs.Groups.{listing}
use Rattle.mailmap_tables.specs.Put.{Represent}
use Rattle.mailmap_tables.proofs.merge.put_each.Given as goal

abbrev pub invariant-loop-entry : goal.invariant-loop-entry
invariant-loop-entry l =
    Represent (listing l.fn.tables.groups ++ map mapping_of (take l.entry-index l.fn.entries)) l.tables.groups
