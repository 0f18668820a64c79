use Rattle.std.proofs.Common.{◌≡◌, ◌∙◌, [], ap, sym}
use Rattle.std.proofs.lemmas.Bool.{eqb-true}
use Rattle.std.proofs.lemmas.List.{nil_from_length}
use Rattle.shown_text.specs.Shown.{shown_after}
use Rattle.shown_text.proofs.Escapes.{nothing_shown}
use Rattle.shown_text.proofs.shown.Shown.next_part.Goals as goal

pub returns-then-is_empty : goal.returns-then-is_empty
returns-then-is_empty c =
    let s = c.self.inside in
    let none : s.rest.now ≡ [] = nil_from_length s.rest.now (eqb-true _ 0 (sym c.is_empty.ensures ∙ c.if-is_empty.true)) in
    sym c.self.view_is ∙ ap (shown_after s.after_one s.after_two) none ∙ nothing_shown s.after_one s.after_two
