use Rattle.std.proofs.Common.{◌++◌, ◌∷◌, ◌∙◌, [], ap, append-nil, append_assoc, sym}
use Rattle.mailmap_contacts.proofs.counter.ContactCounter.add_lines.Goals as goal

pub loop-line-init : goal.loop-line-init
loop-line-init c = λ lines counted.
    (lines, ap (λ ls. lines ++ ls) (sym (c.into_iter-line-iterator.ensures.into_iter_gives ∙ c.lines_with_terminator-line-items.ensures.value)), counted)

pub loop-line-preserved : goal.loop-line-preserved
loop-line-preserved c = λ lines counted.
    let h = c.loop-line.invariant lines counted in
    let line = c.in-Some.line.now ∷ [] in (
      h.0 ++ line,
      h.1 ∙ ap (λ ls. h.0 ++ ls) c.in-Some.ensures.steps ∙ sym (append_assoc h.0 line c.next.new.self),
      c.in_ok-add_line.ensures h.0 h.2,
    )

pub returns : goal.returns
returns c = λ lines counted.
    let h = c.loop-line.invariant lines counted in
    rw (h.1, c.in-None.ensures.steps.0, append-nil) h.2
