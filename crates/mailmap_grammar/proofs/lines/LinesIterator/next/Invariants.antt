use Rattle.std.proofs.Common.{◌≡◌, ◌+◌, ◌^◌, ◌<◌, length}
use Rattle.mailmap_grammar.specs.Lines.{readings_from, reading_by, line_reader, pieces}
use Rattle.mailmap_grammar.proofs.lines.LinesIterator.next.Given as goal

abbrev pub invariant-loop-text : goal.invariant-loop-text
invariant-loop-text l = (l.self-inside.line_number + length l.self-inside.rest.now < 2 ^ 64) ×
    (readings_from (reading_by (line_reader l.self-inside.strictness)) (l.self-inside.line_number + 1) (pieces l.self-inside.rest.now) ≡ l.fn.self)

abbrev pub decreases-loop-text : goal.decreases-loop-text
decreases-loop-text l = length l.self-inside.rest.now
