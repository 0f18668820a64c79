use Rattle.std.proofs.lemmas.Iterator.Consumers.{YieldsList-from_first}
use Rattle.mailmap_entries.specs.Entries.{mapping_of}
use Rattle.mailmap_snapshot.proofs.Sources.{merged_all, out_of_memory_some}
use Rattle.gix_mailmap_c.proofs.handle.merge_listing.Goals as goal

pub returns-clause-ok : goal.returns-clause-ok
returns-clause-ok c =
    merged_all (YieldsList-from_first mapping_of (λ s. s) c.args.added.now c.iter.ensures.listing) c.merge.result
    c.args.snapshot.now c.merge.new.self c.merge.ensures.ok

pub returns-clause-out_of_memory : goal.returns-clause-out_of_memory
returns-clause-out_of_memory c =
    out_of_memory_some (YieldsList-from_first mapping_of (λ s. s) c.args.added.now c.iter.ensures.listing) c.merge.result
    c.merge.ensures.out_of_memory
