use Rattle.std.proofs.Common.{rules, ◌≡◌, ◌++◌, [], append-nil}
use Rattle.mailmap_entries.proofs.Results.{on_err}
use Rattle.command_line.proofs.Printed.{text-broken, text-printed}
use Rattle.shown_text.specs.Parts.{part_text}
use Rattle.mailmap_shortlog.proofs.shortlog.print_shown.Goals as goal

pub loop-part-preserved : goal.loop-part-preserved
loop-part-preserved g c =
    let part = part_text c.in-Some.part in
    let step : c.loop-part.left ≡ part ++ c.next_part.new.self = search rules in
    text-printed c.loop-part.printer part c.next_part.new.self (rw step at c.loop-part.invariant) (rw c.as_slice.ensures at c.in_ok-print.ensures.ok)

pub returns-in_err-print-clause-err : goal.returns-in_err-print-clause-err
returns-in_err-print-clause-err g c =
    let part = part_text c.in-Some.part in
    let step : c.loop-part.left ≡ part ++ c.next_part.new.self = search rules in
    on_err c.from_residual.result _ (text-broken _ c.loop-part.printer part c.next_part.new.self (rw step at c.loop-part.invariant) (rw c.as_slice.ensures at c.in_err-print.ensures.err))

pub returns-clause-ok : goal.returns-clause-ok
returns-clause-ok g c =
    let none : c.loop-part.left ≡ [] = search rules in
    rw (none, append-nil) at c.loop-part.invariant
