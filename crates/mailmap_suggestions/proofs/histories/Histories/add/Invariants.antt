-- The entries so far were added to both.
use Rattle.std.proofs.Common.{◌≡◌, map, take}
use Rattle.mailmap_entries.specs.Entries.{mapping_of}
use Rattle.mailmap_entries.specs.Semantics.{accepted}
use Rattle.mailmap_suggestions.specs.Forms.{Histories, plus}
use Rattle.mailmap_suggestions.proofs.histories.Histories.add.Given as goal

abbrev pub invariant-loop-entry : goal.invariant-loop-entry
invariant-loop-entry l =
    let now : Histories = record { ours = l.self-inside.ours; gits = l.self-inside.gits } in now ≡ plus l.fn.self (accepted (map mapping_of (take l.entry-index l.more)))
