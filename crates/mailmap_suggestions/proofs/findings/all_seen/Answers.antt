use Rattle.mailmap_suggestions.proofs.Seeing.{seen_more}
use Rattle.mailmap_suggestions.proofs.findings.all_seen.Goals as goal

pub loop-answer-preserved : goal.loop-answer-preserved
loop-answer-preserved c = seen_more c.args.answers.now c.loop-answer.answer-index _ c.loop-answer.seen c.in_ok-seen_too.field-0
    c.loop-answer-test.true c.in_ok-seen_too.ensures c.loop-answer.invariant
