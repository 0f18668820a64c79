use Rattle.std.proofs.Common.{◌≡◌, ◌+◌, length}
use Rattle.mailmap_grammar.specs.CanonicalText.{canonical_text}
use Rattle.mailmap_snapshot.proofs.snapshot.Snapshot.text_len.Given as goal

abbrev pub invariant-loop-entry : goal.invariant-loop-entry
invariant-loop-entry l = l.len + length (canonical_text l.entry-iterator) ≡ length (canonical_text l.fn.self)
