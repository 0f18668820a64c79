use Rattle.std.proofs.Common.{rules, ◌≡◌, ◌∙◌, ◌-◌, ◌++◌, Err, ap, arith, drop, length, refl, take, take_all, take-append-drop}
use Rattle.std.proofs.Math.Seq.{take-length}
use Rattle.std.proofs.lemmas.List.{nil_from_length, take_rest}
use Rattle.std.proofs.lemmas.Result.{IfErr-weaker}
use Rattle.std.proofs.KnownBytes.{Appends-kept, Appends-nil, Appends-trans}
use Rattle.mailmap_grammar.proofs.LineParts.{more_answered, nothing_answered, slices}
use Rattle.command_line.specs.Failures.{Memory}
use Rattle.command_line.proofs.AnsweredLines.{cut, stopped, stopped_before}
use Rattle.command_line.proofs.answering.answer_part.Goals as goal

pub loop-taken-init : goal.loop-taken-init
loop-taken-init g c =
    (nothing_answered (g.A.LineAnswers.answers c.args.answerer.now) (g.met.A.LineAnswers.in_order c.args.answerer.now) c.requires (Appends-nil (g.W.Write.contents c.args.output.now)), refl)

pub returns-in_err-taken-clause-err : goal.returns-in_err-taken-clause-err
returns-in_err-taken-clause-err g c =
    let taken = c.loop-taken.taken in
    let failed : c.from_residual.result ≡ Err Memory = search rules in
    rw failed (rw (take-append-drop taken c.args.part.now) at (stopped_before (g.A.LineAnswers.answers c.args.answerer.now) (g.met.A.LineAnswers.in_order c.args.answerer.now)
    (drop taken c.args.part.now) (g.W.Write.contents c.args.output.now) (g.W.Write.contents c.loop-taken.output) c.loop-taken.invariant.0))

pub loop-taken-preserved : goal.loop-taken-preserved
loop-taken-preserved g c =
    let h = c.loop-taken.invariant in (
      rw (← slices c.loop-taken.taken c.in_ok-taken.field-0 c.args.part.now) (more_answered (g.A.LineAnswers.answers c.args.answerer.now) (g.met.A.LineAnswers.in_order c.args.answerer.now) h.0
          (λ made is. Appends-trans (g.W.Write.contents c.args.output.now) (g.W.Write.contents c.loop-taken.output) (g.W.Write.contents c.write_unflushed.new.writer) h.0.made made h.0.is_made
          (rw (c.as_slice.ensures.value ∙ is ∙ ap (λ t. t ++ made) c.clear.ensures.items) at c.in_ok-write_unflushed.ensures.writes.ok))
          (rw h.1 at c.in_ok-taken.ensures.answers)),
      c.push_lines.ensures.same ∙ h.1,
    )

pub returns-in_err-write_unflushed-clause-err : goal.returns-in_err-write_unflushed-clause-err
returns-in_err-write_unflushed-clause-err g c =
    let h = c.loop-taken.invariant in
    let part = c.args.part.now in
    let taken = c.loop-taken.taken in
    let count = c.in_ok-taken.field-0 in
    let rest = take (length part - taken) (drop taken part) in
    let e = c.in_err-write_unflushed.field-0.0 in
    let answers = g.A.LineAnswers.answers c.args.answerer.now in
    let in_order = g.met.A.LineAnswers.in_order c.args.answerer.now in
    let between = g.W.Write.contents c.loop-taken.output in
    let after = g.W.Write.contents c.write_unflushed.new.writer in
    let failed : c.from_residual-in_err-write_unflushed.result ≡ Err e = search rules in
    let first = cut answers in_order (drop count rest) between after e c.in_err-write_unflushed.ensures.only c.clear.ensures.items c.as_slice.ensures.value
    (rw h.1 at c.in_ok-taken.ensures.answers) c.in_err-write_unflushed.ensures.writes.err in
    rw failed (rw (take_rest part taken, take-append-drop taken part) at (stopped answers in_order rest (g.W.Write.contents c.args.output.now) between after e h.0 (rw (take-append-drop count rest) at first)))

pub returns-clause-err : goal.returns-clause-err
returns-clause-err g c =
    let h = rw (take_all c.loop-taken.taken c.args.part.now (omega arith)) at c.loop-taken.invariant.0 in
    let written = Appends-kept (g.W.Write.contents c.args.output.now) (g.W.Write.contents c.loop-taken.output) (g.W.Write.contents c.flush.new.writer) h.made h.is_made c.flush.ensures.keeps in
    IfErr-weaker c.flush.result _ _ (λ e only. rw only (h.made, (g.A.LineAnswers.partial c.loop-taken.answerer, h.front), (length h.made, rw (take-length h.made) written))) c.flush.ensures.only

pub returns-then-is_empty-clause-ok : goal.returns-then-is_empty-clause-ok
returns-then-is_empty-clause-ok g c =
    let zero : length c.args.part.now ≡ 0 = search rules in
    let none = nil_from_length c.args.part.now zero in
    rw none (nothing_answered (g.A.LineAnswers.answers c.args.answerer.now) (g.met.A.LineAnswers.in_order c.args.answerer.now) c.requires (Appends-nil (g.W.Write.contents c.args.output.now)))
