use Rattle.std.proofs.Common.{◌≡◌, ◌∙◌, ◌++◌, ◌+◌, ◌-◌, ◌/◌, ◌%◌, ap, append_assoc, arith, false, nat_lt, sym}
use Rattle.std.proofs.lemmas.Bool.{cond-false}
use Rattle.std.proofs.lemmas.Bool.Decides.{nat_tests}
use Rattle.std.proofs.lemmas.Result.{on_ok_weaker}
use Rattle.mailmap_report.specs.Escapes.{code_unit}
use Rattle.mailmap_report.proofs.escapes.push_char.Goals as goal

pub returns : goal.returns
returns c =
    let line = c.args.line.now.items in
    let far : nat_lt c.args.code 65536 ≡ false = grind (arith, nat_tests, c.if-code-lt65536.false) in
    let high = code_unit (55296 + (c.args.code - 65536) / 1024) in
    let low = code_unit (56320 + c.args.code % 1024) in
    on_ok_weaker c.push_code_unit-3.result (λ is. is ∙ ap (λ t. t ++ low) c.in_ok-push_code_unit.ensures ∙ append_assoc line high low
    ∙ ap (λ t. line ++ t) (sym (cond-false _ _ _ far))) c.push_code_unit-3.ensures
