-- The first line of what is left is the line at the cursor.
use Rattle.std.proofs.Common.{◌≡◌, ◌∷◌, ◌∙◌, [], drop, length-drop, refl, sym, ap, arith}
use Rattle.std.proofs.lemmas.List.{drop_all, take_rest}
use Rattle.bstr.specs.Text.{lines_of}
use Rattle.bstr.proofs.lemmas.LineLemmas.{lines-nil}
use Rattle.gix_mailmap_c.proofs.LinesAfter.{first_line, first_part, parsed_more, parsed_none}
use Rattle.gix_mailmap_c.proofs.parsing.next_line.Goals as goal

pub returns-in_err-rest-clause-left : goal.returns-in_err-rest-clause-left
returns-in_err-rest-clause-left c =
    let text = c.args.text.now in
    let at = c.args.at in
    let none : drop at.start text ≡ [] = drop_all at.start text (omega (arith, c.in_err-rest.ensures.lookup.0)) in
    rw c.from_residual.ensures (parsed_none text at.start at.lines (ap lines_of none ∙ lines-nil))

pub returns-in_err-line-clause-left : goal.returns-in_err-line-clause-left
returns-in_err-line-clause-left c =
    let text = c.args.text.now in
    let at = c.args.at in
    let rest : c.in_ok-rest.rest.now ≡ drop at.start text = c.in_ok-rest.ensures.lookup.0.2 ∙ take_rest text at.start in
    rw c.from_residual-in_err-line.ensures
    (parsed_none text at.start at.lines (ap lines_of (sym rest) ∙ sym c.lines_with_terminator.ensures.value ∙ c.in_err-line.ensures.steps.0))

pub returns-clause-left : goal.returns-clause-left
returns-clause-left c =
    let text = c.args.text.now in
    let at = c.args.at in
    let rest : c.in_ok-rest.rest.now ≡ drop at.start text = c.in_ok-rest.ensures.lookup.0.2 ∙ take_rest text at.start in
    let lines : lines_of (drop at.start text) ≡ c.in_ok-line.line.now ∷ c.next.new.self =
    ap lines_of (sym rest) ∙ sym c.lines_with_terminator.ensures.value ∙ c.in_ok-line.ensures.steps in
    rw c.saturating_add.ensures (parsed_more text at.start at.lines c.in_ok-line.line.now c.next.new.self lines)

pub returns-clause-next : goal.returns-clause-next
returns-clause-next c =
    let text = c.args.text.now in
    let at = c.args.at in
    let line = c.in_ok-line.line.now in
    let rest : c.in_ok-rest.rest.now ≡ drop at.start text = c.in_ok-rest.ensures.lookup.0.2 ∙ take_rest text at.start in
    let lines : lines_of (drop at.start text) ≡ line ∷ c.next.new.self =
    ap lines_of (sym rest) ∙ sym c.lines_with_terminator.ensures.value ∙ c.in_ok-line.ensures.steps in
    let first = first_line (drop at.start text) line c.next.new.self lines in
    let within = c.in_ok-rest.ensures.lookup.0.0 in
    (refl, omega (arith, first.some), omega (arith, first.within, length-drop at.start text, within))

pub returns-clause-line : goal.returns-clause-line
returns-clause-line c =
    let text = c.args.text.now in
    let at = c.args.at in
    let line = c.in_ok-line.line.now in
    let rest : c.in_ok-rest.rest.now ≡ drop at.start text = c.in_ok-rest.ensures.lookup.0.2 ∙ take_rest text at.start in
    let lines : lines_of (drop at.start text) ≡ line ∷ c.next.new.self =
    ap lines_of (sym rest) ∙ sym c.lines_with_terminator.ensures.value ∙ c.in_ok-line.ensures.steps in
    first_part text at.start line c.next.new.self c.in_ok-rest.ensures.lookup.0.0 lines
