-- Some of the input was read, and the answers to its whole lines are written.
use Rattle.std.proofs.Common.{◌≡◌, List, Option, ℕ}
use Rattle.std.specs.Io.KnownBytes.{Consumes}
use Rattle.command_line.proofs.AnsweredLines.{HasReadParts}
use Rattle.command_line.proofs.answering.answer_lines.Given as goal

abbrev pub invariant-loop : goal.invariant-loop
invariant-loop g l = ((unread : Option (List ℕ)) → Consumes unread (g.R.Read.remaining l.fn.input) l.fn.start
    → HasReadParts (g.A.LineAnswers.answers l.fn.answerer) (g.A.LineAnswers.partial l.answerer)
    unread (g.R.Read.remaining l.input) (g.W.Write.contents l.fn.output) (g.W.Write.contents l.output))
    × (g.A.LineAnswers.answers l.answerer ≡ g.A.LineAnswers.answers l.fn.answerer)
