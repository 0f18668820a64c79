use Rattle.std.proofs.Common.{◌≡◌, ◌∙◌, ◌∷◌, [], ap, filter, map, not, refl, subst, sym}
use Rattle.std.proofs.lemmas.Iterator.Consumers.{YieldsList-from_first, YieldsList-end}
use Rattle.std.proofs.lemmas.List.{map-append}
use Rattle.mailmap_findings.specs.Positions.{whole_lines}
use Rattle.mailmap_findings.proofs.WholeLines.{lines-whole}
use Rattle.mailmap_grammar.specs.Lines.{contact_in}
use Rattle.mailmap_findings.specs.Needs.{any_needs, contact_needs}
use Rattle.mailmap_findings.proofs.ContactNeeds.{unneeded_more, unneeded_none}
use Rattle.mailmap_findings.proofs.needs.Needs.add_all.Goals as goal

pub loop-line-init : goal.loop-line-init
loop-line-init c = (refl, unneeded_none c.args.self.now.kept c.args.self.now.left)

pub loop-line-preserved : goal.loop-line-preserved
loop-line-preserved c =
    let s = c.args.self.now in
    let ls = map (λ y. y.now) c.loop-line.yielded in
    let line = c.in-Some.line.now in
    let before = c.loop-line.self in (
      c.add_line.ensures.kept ∙ c.loop-line.invariant.0,
      c.add_line.ensures.left
          ∙ ap (λ k. filter (λ p. not (contact_needs k (contact_in line) p)) before.left) c.loop-line.invariant.0
          ∙ ap (filter (λ p. not (contact_needs s.kept (contact_in line) p))) c.loop-line.invariant.1
          ∙ unneeded_more s.kept ls line s.left
          ∙ ap (λ l. filter (λ p. not (any_needs s.kept l p)) s.left) (sym (map-append (λ y. y.now) c.loop-line.yielded (c.in-Some.line ∷ []))),
    )

pub returns : goal.returns
returns c =
    let s = c.args.self.now in
    let text = c.args.contacts.now in
    let road = YieldsList-from_first (λ y. y.now) (λ s. s) (whole_lines text) (c.into_iter-line-iterator.ensures.into_iter_gives ∙ c.lines_with_terminator-line-items.ensures.value ∙ lines-whole text) in
    subst (λ ls. c.loop-line.self.left ≡ filter (λ p. not (any_needs s.kept ls p)) s.left)
    (YieldsList-end road c.loop-line.yielded c.loop-line.line-iterator c.loop-line.yielded_by c.next.result c.next.new.self c.in-None.is c.next.ensures.steps).0
    c.loop-line.invariant.1
