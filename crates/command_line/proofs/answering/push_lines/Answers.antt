use Rattle.std.proofs.Common.{◌∙◌, ◌++◌, ap, append_assoc, arith, length, length-drop}
use Rattle.std.proofs.lemmas.List.{take_rest}
use Rattle.mailmap_grammar.proofs.LineParts.{more_answered, slices}
use Rattle.command_line.proofs.answering.push_lines.Goals as goal

pub loop-taken-preserved : goal.loop-taken-preserved
loop-taken-preserved g c =
    let h = c.loop-taken.invariant in
    let part = c.args.part.now in
    let taken = c.loop-taken.taken in
    let size = ap length (take_rest part taken) ∙ length-drop taken part in (
      omega (arith, size, c.in-Ok.ensures.takes.0),
      λ some. omega (arith, h.1 some),
      rw (← slices taken c.in-Ok.count part) (more_answered (g.A.LineAnswers.answers c.args.answerer.now) (g.met.A.LineAnswers.in_order c.args.answerer.now) h.2
          (λ made is. is ∙ ap (λ t. t ++ made) h.2.is_made ∙ append_assoc c.args.text.now.items h.2.made made) (rw h.3 at c.in-Ok.ensures.answers)),
      c.push-in-loop-taken.ensures.same ∙ h.3,
    )
