-- The entries so far were added.
use Rattle.std.proofs.Common.{◌≡◌, ◌++◌}
use Rattle.mailmap_entries.specs.Semantics.{accepted}
use Rattle.mailmap_grammar.specs.Lines.{mappings_of}
use Rattle.mailmap_suggestions.proofs.histories.History.read.Given as goal

abbrev pub invariant-loop-entry : goal.invariant-loop-entry
invariant-loop-entry l = l.self ++ accepted l.entry-iterator ≡ l.initial.self ++ mappings_of l.fn.buffer
