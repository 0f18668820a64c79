use Rattle.std.proofs.Common.{◌++◌, map, take}
use Rattle.mailmap_entries.specs.Folding.{folded}
use Rattle.mailmap_batches.specs.Batches.{mapping_at}
use Rattle.mailmap_tables.specs.Groups.{folded_email, listing}
use Rattle.mailmap_tables.specs.KeySearch.{IsFound}
use Rattle.mailmap_tables.specs.Put.{Represent, with_old_email}
use Rattle.mailmap_tables.proofs.merge.put_group.Given as goal

abbrev pub invariant-loop-i : goal.invariant-loop-i
invariant-loop-i l = record {
  put : Represent (listing l.fn.tables.groups ++ map (λ p. with_old_email l.email.text.now (mapping_at p)) (take l.i l.group))
      l.tables.groups;
  found : IsFound folded_email (folded l.email.text.now) l.tables.groups l.index;
}
