-- The lines that were taken are answered.
use Rattle.std.proofs.Common.{◌≡◌, ◌++◌, ◌-◌, ◌<◌, ◌≤◌, length, take}
use Rattle.mailmap_grammar.specs.LineParts.{HasAnswered}
use Rattle.command_line.proofs.answering.push_lines.Given as goal

abbrev pub invariant-loop-taken : goal.invariant-loop-taken
invariant-loop-taken g l = (l.taken ≤ length l.part) × (0 < length l.part → 0 < l.taken)
    × HasAnswered (g.A.LineAnswers.answers l.fn.answerer) (g.A.LineAnswers.partial l.fn.answerer) (take l.taken l.part)
    (g.A.LineAnswers.partial l.answerer) (λ made. l.text.items ≡ l.fn.text.items ++ made)
    × (g.A.LineAnswers.answers l.answerer ≡ g.A.LineAnswers.answers l.fn.answerer)

abbrev pub decreases-loop-taken : goal.decreases-loop-taken
decreases-loop-taken g l = length l.part - l.taken
