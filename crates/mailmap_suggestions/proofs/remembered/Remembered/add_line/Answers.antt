use Rattle.std.proofs.Common.{◌∙◌, ◌++◌, ◌∷◌, [], ap, subst, sym}
use Rattle.mailmap_suggestions.specs.RememberedViews.{Remembers, is_marked}
use Rattle.mailmap_suggestions.proofs.Remembering.{remember_more}
use Rattle.mailmap_suggestions.proofs.remembered.Remembered.add_line.Goals as goal

pub returns-in_ok-insert : goal.returns-in_ok-insert
returns-in_ok-insert c = λ lines are.
    subst (λ l. Remembers (lines ++ l ∷ []) (record { lines = c.insert.new.self })) c.in_ok-line.ensures.items
    (remember_more lines c.args.self.now (record { lines = c.insert.new.self }) c.in_ok-line.line
    (ap is_marked c.in_ok-line.ensures.items ∙ sym c.is_marked.ensures ∙ c.if-is_marked.true) are c.in_ok-insert.ensures.updates.0)
