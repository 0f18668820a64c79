use Rattle.std.proofs.lemmas.Iterator.{YieldsList-from_slice}
use Rattle.std.proofs.lemmas.Iterator.Consumers.{YieldsList-from_first, YieldsList-from_copied}
use Rattle.mailmap_entries.specs.Entries.{mapping_of}
use Rattle.mailmap_grammar.specs.Lines.{mappings_of}
use Rattle.mailmap_snapshot.proofs.Sources.{yields_entries, merged_all, out_of_memory_some}
use Rattle.mailmap_snapshot.proofs.snapshot.Snapshot.merge_source.Goals as goal

pub returns-in-Buffer-clause-ok : goal.returns-in-Buffer-clause-ok
returns-in-Buffer-clause-ok c =
    rw c.in-Buffer.is (merged_all (YieldsList-from_first mapping_of (λ s. s) (mappings_of c.in-Buffer.buf.now) c.parse_ignore_errors.ensures.value) c.merge.result c.args.self.now c.merge.new.self c.merge.ensures.ok)

pub returns-in-Buffer-clause-out_of_memory : goal.returns-in-Buffer-clause-out_of_memory
returns-in-Buffer-clause-out_of_memory c =
    rw c.in-Buffer.is (out_of_memory_some (YieldsList-from_first mapping_of (λ s. s) (mappings_of c.in-Buffer.buf.now) c.parse_ignore_errors.ensures.value) c.merge.result c.merge.ensures.out_of_memory)

pub returns-in-Entries-clause-ok : goal.returns-in-Entries-clause-ok
returns-in-Entries-clause-ok c =
    rw c.in-Entries.is (merged_all (yields_entries (YieldsList-from_copied (YieldsList-from_slice c.in-Entries.entries.now (cc)))) c.merge-in-Entries.result c.args.self.now c.merge-in-Entries.new.self c.merge-in-Entries.ensures.ok)

pub returns-in-Entries-clause-out_of_memory : goal.returns-in-Entries-clause-out_of_memory
returns-in-Entries-clause-out_of_memory c =
    rw c.in-Entries.is (out_of_memory_some (yields_entries (YieldsList-from_copied (YieldsList-from_slice c.in-Entries.entries.now (cc)))) c.merge-in-Entries.result c.merge-in-Entries.ensures.out_of_memory)
