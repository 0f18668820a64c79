use Rattle.std.proofs.Common.{◌++◌, ◌∷◌, ◌∙◌, [], ap, append-nil, append_assoc, map, subst, sym}
use Rattle.mailmap_findings.proofs.WholeLines.{lines-whole}
use Rattle.mailmap_suggestions.specs.RememberedViews.{Remembers, without_feed}
use Rattle.mailmap_suggestions.proofs.Remembering.{lines_pieces}
use Rattle.mailmap_suggestions.proofs.remembered.Remembered.add_lines.Goals as goal

pub loop-line-init : goal.loop-line-init
loop-line-init c = λ lines are.
    (lines, ap (λ ls. lines ++ map without_feed ls) (sym (c.into_iter-line-iterator.ensures.into_iter_gives ∙ c.lines_with_terminator-line-items.ensures.value)), are)

pub loop-line-preserved : goal.loop-line-preserved
loop-line-preserved c = λ lines are.
    let h = c.loop-line.invariant lines are in
    let line = without_feed c.in-Some.line.now ∷ [] in (
      h.0 ++ line,
      h.1 ∙ ap (λ ls. h.0 ++ map without_feed ls) c.in-Some.ensures.steps ∙ sym (append_assoc h.0 line (map without_feed c.next.new.self)),
      subst (λ l. Remembers (h.0 ++ l ∷ []) c.add_line.new.self) c.without_feed.ensures (c.in_ok-add_line.ensures h.0 h.2),
    )

pub returns : goal.returns
returns c = λ lines are.
    let h = c.loop-line.invariant lines are in
    subst (λ l. Remembers l c.loop-line.self)
    (sym (h.1 ∙ ap (λ ls. h.0 ++ map without_feed ls) c.in-None.ensures.steps.0 ∙ append-nil h.0)
    ∙ ap (λ ls. lines ++ map without_feed ls) (lines-whole c.args.buffer.now) ∙ ap (λ ls. lines ++ ls) (lines_pieces c.args.buffer.now)) h.2
