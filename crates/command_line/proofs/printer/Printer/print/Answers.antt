use Rattle.std.proofs.Common.{rules, ◌≡◌, ◌++◌, ◌∙◌, [], ap, append-nil, sym}
use Rattle.std.proofs.lemmas.Result.{on_err_weaker, on_ok_weaker}
use Rattle.std.proofs.KnownBytes.{Appends-trans}
use Rattle.mailmap_entries.proofs.Results.{on_err}
use Rattle.command_line.proofs.Printed.{Appends-both, underway-broken, underway-none}
use Rattle.command_line.proofs.printer.Printer.print.Goals as goal

pub returns-in_err-written-clause-err : goal.returns-in_err-written-clause-err
returns-in_err-written-clause-err g c =
    let same : c.as_slice.result.now ≡ c.args.self.now = search rules in
    on_err c.from_residual.result _ (underway-broken _ c.args.self.now c.args.piece.now underway-none (rw same at c.in_err-written.ensures.writes.err))

pub returns-clause-ok : goal.returns-clause-ok
returns-clause-ok g c =
    let text = c.args.self.now ++ c.args.piece.now in
    let same : c.as_slice.result.now ≡ c.args.self.now = search rules in
    let none : c.hold-2.new.self ≡ [] = search rules in
    let held = rw same at c.in_ok-written.ensures.writes.ok in
    on_ok_weaker c.write_unflushed.result
    (λ piece. record { written = text; appended = Appends-trans _ _ _ c.args.self.now c.args.piece.now held piece; whole = sym (append-nil text) ∙ ap (λ t. text ++ t) (sym none) })
    c.write_unflushed.ensures.writes.ok

pub returns-clause-err : goal.returns-clause-err
returns-clause-err g c =
    let same : c.as_slice.result.now ≡ c.args.self.now = search rules in
    let held = rw same at c.in_ok-written.ensures.writes.ok in
    on_err_weaker c.write_unflushed.result
    (λ broken. Appends-both _ _ _ c.args.self.now c.args.piece.now broken.0 held broken.1) c.write_unflushed.ensures.writes.err
