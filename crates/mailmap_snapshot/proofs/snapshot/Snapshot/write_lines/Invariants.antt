use Rattle.std.proofs.Common.{◌≡◌, ◌++◌}
use Rattle.mailmap_grammar.specs.CanonicalText.{canonical_text}
use Rattle.mailmap_snapshot.proofs.snapshot.Snapshot.write_lines.Given as goal

abbrev pub invariant-loop-entry : goal.invariant-loop-entry
invariant-loop-entry l = l.out.items ++ canonical_text l.entry-iterator ≡ canonical_text l.fn.self
