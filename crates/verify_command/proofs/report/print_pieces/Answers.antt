use Rattle.std.proofs.Common.{rules, ◌≡◌, ◌∙◌, ◌++◌, ◌∷◌, [], Bool, ap, arith, false, if◌then◌else◌, length, Ok, refl, subst, sym, true}
use Rattle.std.specs.Prelude.{◌||◌}
use Rattle.std.proofs.KnownBytes.{Appends-nil}
use Rattle.std.specs.List.{list_any}
use Rattle.mailmap_entries.proofs.Results.{on_err}
use Rattle.command_line.specs.Printing.{IsUnderway}
use Rattle.command_line.specs.declared.outcome.Outcome.{Outcome}
use Rattle.command_line.specs.declared.outcome.Outcome.TheVariants.{Found}
use Rattle.command_line.proofs.Printed.{item-broken, item-printed, items-printed, underway-broken, underway-none, underway-whole}
use Rattle.mailmap_report.specs.Report.{Piece, piece_of, text_of}
use Rattle.verify_command.proofs.Leaving.{left_pieces}
use Rattle.verify_command.proofs.report.print_pieces.Goals as goal

-- the outcome after one more piece, before those that are left
counts_more : (first rest : Bool) (o : Outcome) → (if (first || rest) then Found else o) ≡ (if rest then Found else (if first then Found else o))
counts_more true true o = refl
counts_more true false o = refl
counts_more false rest o = refl

pub loop-printer-init : goal.loop-printer-init
loop-printer-init g c =
    let all = text_of (g.S.Pieces.left c.args.pieces) in
    let a = g.W.Write.contents c.args.output.now in
    (subst (λ p. IsUnderway all a a (p ++ all)) (sym c.in_ok-printer.ensures) underway-none, refl)

pub loop-printer-preserved : goal.loop-printer-preserved
loop-printer-preserved g c =
    let piece = piece_of c.in-Some.piece in
    let rest = g.S.Pieces.left c.next_piece.new.self in
    let step : g.S.Pieces.left c.loop-printer.pieces ≡ piece ∷ rest = search rules in
    let counts = list_any (λ (p : Piece). p.counts) rest in (
      item-printed (λ (p : Piece). p.text) c.loop-printer.printer step c.loop-printer.invariant.0
          (subst (λ t. IsUnderway (c.loop-printer.printer ++ t) (g.W.Write.contents c.loop-printer.output) (g.W.Write.contents c.print.new.output) c.print.new.self) c.as_slice.ensures.value c.in_ok-print.ensures.ok),
      c.loop-printer.invariant.1 ∙ ap (λ ps. if list_any (λ (p : Piece). p.counts) ps then Found else c.loop-printer.outcome) step
          ∙ counts_more piece.counts counts c.loop-printer.outcome ∙ ap (λ o. if counts then Found else o) (sym c.outcome_with-outcome.ensures),
    )

pub loop-printer-smaller : goal.loop-printer-smaller
loop-printer-smaller g c =
    let step : g.S.Pieces.left c.loop-printer.pieces ≡ piece_of c.in-Some.piece ∷ g.S.Pieces.left c.next_piece.new.self = search rules in
    omega (arith, ap length step)

pub returns-in_err-print-clause-leaves : goal.returns-in_err-print-clause-leaves
returns-in_err-print-clause-leaves g c =
    let step : g.S.Pieces.left c.loop-printer.pieces ≡ piece_of c.in-Some.piece ∷ g.S.Pieces.left c.next_piece.new.self = search rules in
    let part = item-broken (λ (p : Piece). p.text) (g.W.Write.contents c.print.new.output) c.loop-printer.printer step c.loop-printer.invariant.0 (rw c.as_slice.ensures.value at c.in_err-print.ensures.err) in
    left_pieces (g.S.Pieces.left c.args.pieces) c.from_residual-in_err-print.result (search rules) (on_err _ _ part) (search rules)

pub returns-in_err-piece-clause-leaves : goal.returns-in_err-piece-clause-leaves
returns-in_err-piece-clause-leaves g c =
    let left = text_of (g.S.Pieces.left c.loop-printer.pieces) in
    let part = underway-broken (g.W.Write.contents c.loop-printer.output) c.loop-printer.printer left c.loop-printer.invariant.0 (0, Appends-nil (g.W.Write.contents c.loop-printer.output)) in
    left_pieces (g.S.Pieces.left c.args.pieces) c.from_residual-in_err-piece.result (search rules) (on_err _ _ part) (search rules)

pub returns-in_err-flush-clause-leaves : goal.returns-in_err-flush-clause-leaves
returns-in_err-flush-clause-leaves g c =
    let left = text_of (g.S.Pieces.left c.loop-printer.pieces) in
    let part = underway-broken (g.W.Write.contents c.flush.new.output) c.loop-printer.printer left c.loop-printer.invariant.0 c.in_err-flush.ensures.writes.err in
    left_pieces (g.S.Pieces.left c.args.pieces) c.from_residual-in_err-flush.result (search rules) (on_err _ _ part) (search rules)

pub returns-clause-leaves : goal.returns-clause-leaves
returns-clause-leaves g c =
    let none : g.S.Pieces.left c.loop-printer.pieces ≡ [] = search rules in
    left_pieces (g.S.Pieces.left c.args.pieces) (Ok c.loop-printer.outcome) (
      sym (c.loop-printer.invariant.1 ∙ ap (λ ps. if list_any (λ (p : Piece). p.counts) ps then Found else c.loop-printer.outcome) none),
      underway-whole _ (items-printed (λ (p : Piece). p.text) c.loop-printer.printer none c.loop-printer.invariant.0) c.in_ok-flush.ensures.writes.ok,
    ) tt tt
