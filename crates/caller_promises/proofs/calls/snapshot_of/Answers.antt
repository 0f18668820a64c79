use Rattle.std.proofs.lemmas.Iterator.{YieldsList-from_slice}
use Rattle.std.proofs.lemmas.Iterator.Consumers.{YieldsList-from_copied}
use Rattle.mailmap_snapshot.proofs.Sources.{normal_all, out_of_memory_some, yields_entries}
use Rattle.caller_promises.proofs.calls.snapshot_of.Goals as goal

pub returns-in-Entries : goal.returns-in-Entries
returns-in-Entries c =
    let listed = yields_entries (YieldsList-from_copied (YieldsList-from_slice c.in-Entries.entries.now (cc))) in
    rw c.in-Entries.is (record { ok = normal_all listed c.new.result c.new.ensures.ok; out_of_memory = out_of_memory_some listed c.new.result c.new.ensures.out_of_memory })
