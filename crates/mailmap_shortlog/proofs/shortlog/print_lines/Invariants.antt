-- The lines so far were written, or are in the buffer.
use Rattle.std.proofs.Common.{◌++◌, drop, flat_map, map}
use Rattle.command_line.specs.Printing.{IsUnderway}
use Rattle.mailmap_shortlog.specs.Answers.{answer_counted}
use Rattle.mailmap_shortlog.specs.Shortlog.{counted_text}
use Rattle.mailmap_shortlog.proofs.shortlog.print_lines.Given as goal

abbrev pub invariant-loop-answer : goal.invariant-loop-answer
invariant-loop-answer g l = IsUnderway (l.initial.printer ++ flat_map counted_text (map answer_counted l.answers))
    (g.W.Write.contents l.initial.output) (g.W.Write.contents l.output)
    (l.printer ++ flat_map counted_text (map answer_counted (drop l.answer-index l.answers)))
