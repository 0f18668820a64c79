-- The lines that were taken are answered, and their answers are written.
use Rattle.std.proofs.Common.{◌≡◌, ◌-◌, length, take}
use Rattle.std.specs.Io.KnownBytes.{Appends}
use Rattle.mailmap_grammar.specs.LineParts.{HasAnswered}
use Rattle.command_line.proofs.answering.answer_part.Given as goal

abbrev pub invariant-loop-taken : goal.invariant-loop-taken
invariant-loop-taken g l =
    HasAnswered (g.A.LineAnswers.answers l.fn.answerer) (g.A.LineAnswers.partial l.fn.answerer) (take l.taken l.part)
    (g.A.LineAnswers.partial l.answerer) (Appends (g.W.Write.contents l.fn.output) (g.W.Write.contents l.output))
    × (g.A.LineAnswers.answers l.answerer ≡ g.A.LineAnswers.answers l.fn.answerer)

abbrev pub decreases-loop-taken : goal.decreases-loop-taken
decreases-loop-taken g l = length l.part - l.taken
