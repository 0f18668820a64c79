use Rattle.std.proofs.Common.{rules, ◌≡◌, ◌∙◌, ◌++◌, Err, None, ap, subst, sym, take}
use Rattle.std.proofs.KnownBytes.{Keeps-refl}
use Rattle.command_line.specs.Failures.{IsOfInput, Memory}
use Rattle.command_line.proofs.AnsweredLines.{begun, ended, input_failed, memory_failed, one_more, part_failed}
use Rattle.command_line.proofs.answering.answer_lines.Goals as goal

pub loop-init : goal.loop-init
loop-init g c = (
  λ unread consumed. one_more (g.A.LineAnswers.answers c.args.answerer.now) (g.met.A.LineAnswers.in_order c.args.answerer.now) (begun (g.A.LineAnswers.answers c.args.answerer.now) (g.met.A.LineAnswers.in_order c.args.answerer.now) unread (g.W.Write.contents c.args.output.now) c.requires)
      (g.R.Read.remaining c.args.input.now) (g.W.Write.contents c.answer_part.new.output) c.args.start.now consumed c.in_ok-answer_part.ensures.ok,
  c.answer_part.ensures.same,
)

pub returns-in_err-answer_part-clause-leaves : goal.returns-in_err-answer_part-clause-leaves
returns-in_err-answer_part-clause-leaves g c =
    let e = c.in_err-answer_part.field-0.0 in
    let failed : c.from_residual.result ≡ Err e = search rules in
    λ unread consumed. rw failed (part_failed (g.A.LineAnswers.answers c.args.answerer.now) (g.met.A.LineAnswers.in_order c.args.answerer.now)
    (begun (g.A.LineAnswers.answers c.args.answerer.now) (g.met.A.LineAnswers.in_order c.args.answerer.now) unread (g.W.Write.contents c.args.output.now) c.requires) (g.R.Read.remaining c.args.input.now)
    (g.W.Write.contents c.answer_part.new.output) c.args.start.now consumed e c.in_err-answer_part.ensures.err)

pub returns-in_err-count-clause-leaves : goal.returns-in_err-count-clause-leaves
returns-in_err-count-clause-leaves g c =
    let e = c.in_err-count.field-0.0 in
    let failed : c.from_residual-in_err-count.result ≡ Err e = search rules in
    λ unread consumed. rw failed (input_failed (g.A.LineAnswers.answers c.args.answerer.now) (g.met.A.LineAnswers.in_order c.args.answerer.now) (c.loop.invariant.0 unread consumed) (g.R.Read.remaining c.read_part.new.reader) e c.in_err-count.ensures.only c.in_err-count.ensures.err)

pub returns-in_err-finish-clause-leaves : goal.returns-in_err-finish-clause-leaves
returns-in_err-finish-clause-leaves g c =
    let failed : c.from_residual-in_err-finish.result ≡ Err Memory = search rules in
    λ unread consumed. rw failed (memory_failed (g.A.LineAnswers.answers c.args.answerer.now) (g.met.A.LineAnswers.in_order c.args.answerer.now) (c.loop.invariant.0 unread consumed) (g.R.Read.remaining c.read_part.new.reader)
    (rw c.if-count-eq0.true at c.in_ok-count.ensures.part))

pub returns-then-count-eq0-clause-leaves : goal.returns-then-count-eq0-clause-leaves
returns-then-count-eq0-clause-leaves g c = λ unread consumed_start.
    let h = c.loop.invariant.0 unread consumed_start in
    let partial = g.A.LineAnswers.partial c.loop.answerer in
    let answers = g.A.LineAnswers.answers c.args.answerer.now in
    let said : c.as_slice.result.now ≡ answers partial = c.as_slice.ensures.value ∙ c.in_ok-finish.ensures
    ∙ ap (λ t. t ++ g.A.LineAnswers.answers c.loop.answerer partial) c.clear.ensures.items ∙ ap (λ f. f partial) c.loop.invariant.1 in
    ended answers (g.met.A.LineAnswers.in_order c.args.answerer.now) h (g.R.Read.remaining c.read_part.new.reader) (g.W.Write.contents c.write_all.new.writer) c.write_all.result
    (rw c.if-count-eq0.true at c.in_ok-count.ensures.part) (c.in_ok-count.ensures.end c.if-count-eq0.true (search rules)) c.write_all.ensures.only (rw said at c.write_all.ensures.writes.ok) (rw said at c.write_all.ensures.writes.err)

pub returns-in_err-answer_part-2-clause-leaves : goal.returns-in_err-answer_part-2-clause-leaves
returns-in_err-answer_part-2-clause-leaves g c =
    let e = c.in_err-answer_part-2.field-0.0 in
    let failed : c.from_residual-in_err-answer_part-2.result ≡ Err e = search rules in
    λ unread consumed. rw failed (part_failed (g.A.LineAnswers.answers c.args.answerer.now) (g.met.A.LineAnswers.in_order c.args.answerer.now) (c.loop.invariant.0 unread consumed) (g.R.Read.remaining c.read_part.new.reader)
    (g.W.Write.contents c.answer_part-in-loop.new.output) (take c.in_ok-count.count c.read_part.new.buffer) c.in_ok-count.ensures.part e (rw c.loop.invariant.1 at c.in_err-answer_part-2.ensures.err))

pub returns-clause-leaves : goal.returns-clause-leaves
returns-clause-leaves g c = λ unread consumed.
    input_failed (g.A.LineAnswers.answers c.args.answerer.now) (g.met.A.LineAnswers.in_order c.args.answerer.now) (c.loop.invariant.0 unread consumed) (g.R.Read.remaining c.loop.input) c.endless.result (subst IsOfInput (sym c.endless.ensures) tt) (Keeps-refl (g.R.Read.remaining c.loop.input))

pub loop-preserved : goal.loop-preserved
loop-preserved g c = (
  λ unread consumed. one_more (g.A.LineAnswers.answers c.args.answerer.now) (g.met.A.LineAnswers.in_order c.args.answerer.now) (c.loop.invariant.0 unread consumed) (g.R.Read.remaining c.read_part.new.reader)
      (g.W.Write.contents c.answer_part-in-loop.new.output) (take c.in_ok-count.count c.read_part.new.buffer) c.in_ok-count.ensures.part (rw c.loop.invariant.1 at c.in_ok-answer_part-2.ensures.ok),
  c.answer_part-in-loop.ensures.same ∙ c.loop.invariant.1,
)

pub finish-requires : goal.finish-requires
finish-requires g c = (c.loop.invariant.0 None tt).answered.no_feed

pub answer_part-requires-in-loop : goal.answer_part-requires-in-loop
answer_part-requires-in-loop g c = (c.loop.invariant.0 None tt).answered.no_feed
