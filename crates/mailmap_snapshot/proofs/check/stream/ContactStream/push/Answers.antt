-- The contract of `take_lines`, about the parts of the stream.
use Rattle.std.proofs.Common.{List, ap, refl, subst, sym, ℕ, ◌∙◌}
use Rattle.mailmap_entries.proofs.Results.{on_err}
use Rattle.mailmap_grammar.specs.Lines.{HoldsNo}
use Rattle.mailmap_snapshot.proofs.check.stream.ContactStream.push.Goals as goal

pub invariant_of-self : goal.invariant_of-self
invariant_of-self c = (c.take_lines.ensures.cache, subst (λ (l : List ℕ). HoldsNo 10 l) (sym c.in_err-taken.ensures.err.0) c.self.invariant.1)

pub returns-clause-answers : goal.returns-clause-answers
returns-clause-answers c = let h = c.in_ok-taken.ensures.ok.answered in rw (← c.self.view_is) (h.made, h.is_made, h.front)

pub returns-clause-keeps : goal.returns-clause-keeps
returns-clause-keeps c = rw (← c.self.view_is) ((λ _. c.in_ok-taken.ensures.ok.answered.no_feed), refl)

pub returns-in_err-taken-clause-err : goal.returns-in_err-taken-clause-err
returns-in_err-taken-clause-err c =
    let same = c.in_err-taken.ensures.err in
    on_err c.from_residual.result _ (ap (λ (l : List ℕ). record { mappings = c.self.inside.snapshot; partial = l }) same.0 ∙ c.self.view_is, same.1)
