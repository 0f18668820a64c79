use Rattle.std.proofs.Common.{◌≡◌, ◌+◌, ◌-◌, ◌^◌, ◌<◌, length}
use Rattle.mailmap_findings.proofs.Lines.{lines_left}
use Rattle.mailmap_findings.proofs.verify.lines.BufferLinesIterator.next.Given as goal

abbrev pub invariant-loop-text : goal.invariant-loop-text
invariant-loop-text l = (l.self-inside.line_number + length l.self-inside.lines < 2 ^ 64) ×
    (lines_left l.self-inside.buffer l.self-inside.line_number l.self-inside.lines l.self-inside.reached l.self-inside.buffers.now ≡ l.fn.self)

abbrev pub decreases-loop-text : goal.decreases-loop-text
decreases-loop-text l = length l.self-inside.buffers.now - l.self-inside.reached
