use Rattle.std.proofs.Common.{rules, ap, flat_map, map}
use Rattle.std.proofs.lemmas.List.{drop_all, drop_more}
use Rattle.std.proofs.lemmas.Result.{on_err_weaker, on_ok_weaker}
use Rattle.mailmap_entries.proofs.Results.{on_err}
use Rattle.command_line.proofs.Printed.{item-broken, item-printed, items-printed, underway-broken, underway-none, underway-whole}
use Rattle.mailmap_shortlog.specs.Answers.{answer_counted}
use Rattle.mailmap_shortlog.specs.Shortlog.{counted_text}
use Rattle.mailmap_shortlog.proofs.shortlog.print_lines.Goals as goal

pub loop-answer-init : goal.loop-answer-init
loop-answer-init g c = underway-none

pub loop-answer-preserved : goal.loop-answer-preserved
loop-answer-preserved g c = item-printed counted_text c.loop-answer.printer
    (ap (map answer_counted) (drop_more c.args.answers.now c.loop-answer.answer-index _ c.loop-answer-test.true)) c.loop-answer.invariant c.in_ok-print_line.ensures.ok

pub returns-in_err-print_line-clause-writes : goal.returns-in_err-print_line-clause-writes
returns-in_err-print_line-clause-writes g c = record {
  ok = search rules;
  err = on_err c.from_residual.result _ (item-broken counted_text _ c.loop-answer.printer
      (ap (map answer_counted) (drop_more c.args.answers.now c.loop-answer.answer-index _ c.loop-answer-test.true))
      c.loop-answer.invariant c.in_err-print_line.ensures.err);
}

pub returns-clause-writes : goal.returns-clause-writes
returns-clause-writes g c =
    let none = ap (map answer_counted) (drop_all c.loop-answer.answer-index c.args.answers.now c.loop-answer-test.false) in
    record {
      ok = on_ok_weaker c.flush.result (underway-whole _
          (items-printed counted_text c.loop-answer.printer none c.loop-answer.invariant)) c.flush.ensures.writes.ok;
      err = on_err_weaker c.flush.result (underway-broken _ c.loop-answer.printer
          (flat_map counted_text (map answer_counted _)) c.loop-answer.invariant) c.flush.ensures.writes.err;
    }
