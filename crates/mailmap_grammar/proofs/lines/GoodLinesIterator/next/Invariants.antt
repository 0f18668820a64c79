use Rattle.std.proofs.Common.{◌≡◌, length}
use Rattle.mailmap_grammar.specs.Lines.{mappings_in}
use Rattle.mailmap_grammar.proofs.lines.GoodLinesIterator.next.Given as goal

abbrev pub invariant-loop-item : goal.invariant-loop-item
invariant-loop-item l = mappings_in l.self-inside.lines ≡ l.fn.self

abbrev pub decreases-loop-item : goal.decreases-loop-item
decreases-loop-item l = length l.self-inside.lines
