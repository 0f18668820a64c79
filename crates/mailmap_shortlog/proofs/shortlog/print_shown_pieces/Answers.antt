use Rattle.std.proofs.lemmas.List.{drop_all, drop_more}
use Rattle.mailmap_entries.proofs.Results.{on_err}
use Rattle.command_line.proofs.Printed.{item-broken, item-printed, items-printed, underway-none}
use Rattle.shown_text.specs.Shown.{shown}
use Rattle.mailmap_shortlog.proofs.shortlog.print_shown_pieces.Goals as goal

pub loop-piece-init : goal.loop-piece-init
loop-piece-init g c = underway-none

pub loop-piece-preserved : goal.loop-piece-preserved
loop-piece-preserved g c = item-printed (λ p. shown p.now) c.loop-piece.printer
    (drop_more c.args.pieces.now c.loop-piece.piece-index _ c.loop-piece-test.true) c.loop-piece.invariant c.in_ok-print_shown.ensures.ok

pub returns-in_err-print_shown-clause-err : goal.returns-in_err-print_shown-clause-err
returns-in_err-print_shown-clause-err g c = on_err c.from_residual.result _ (item-broken (λ p. shown p.now) _ c.loop-piece.printer
    (drop_more c.args.pieces.now c.loop-piece.piece-index _ c.loop-piece-test.true) c.loop-piece.invariant c.in_err-print_shown.ensures.err)

pub returns-clause-ok : goal.returns-clause-ok
returns-clause-ok g c =
    items-printed (λ p. shown p.now) c.loop-piece.printer (drop_all c.loop-piece.piece-index c.args.pieces.now c.loop-piece-test.false) c.loop-piece.invariant
