use Rattle.std.proofs.Common.{Bor, rules}
use Rattle.std.proofs.lemmas.Iterator.{YieldsList-from_slice}
use Rattle.std.proofs.lemmas.Iterator.Consumers.{YieldsList-from_first}
use Rattle.std.proofs.lemmas.Iterator.Adapters.{YieldsList-from_flat_map}
use Rattle.std.proofs.lemmas.List.Folds.{flat_map-map}
use Rattle.mailmap_entries.specs.Entries.{mapping_of}
use Rattle.mailmap_entries.specs.Folding.{Text}
use Rattle.mailmap_grammar.specs.Lines.{mappings_of}
use Rattle.mailmap_snapshot.proofs.Sources.{normal_all}
use Rattle.mailmap_snapshot.proofs.check.snapshot_of.Goals as goal

pub returns : goal.returns
returns c =
    let buffers = c.args.buffers.now in
    let e = c.flat_map-entries.ensures in
    rw (flat_map-map mappings_of (λ (b : Bor Text). b.now) buffers)
    (normal_all (YieldsList-from_flat_map _ _ _ mapping_of (λ (b : Bor Text). mappings_of b.now) _
    (λ x u q called. (search rules, λ j becomes. YieldsList-from_first mapping_of (λ s. s) (mappings_of x.now.now) (search rules)))
    (YieldsList-from_slice buffers (search rules)) e.closure e.front e.back e.done) c.new.result c.new.ensures.ok)
