use Rattle.std.proofs.Common.{◌∙◌, Ok, subst, sym}
use Rattle.std.specs.BTreeSet.{IsFromIterResult}
use Rattle.std.specs.List.Sorted.{IsStrictlySortedBy}
use Rattle.std.proofs.lemmas.Iterator.Adapters.{YieldsList-from_vec, fact_from_collect}
use Rattle.mailmap_entries.proofs.Ascending.{same_keys}
use Rattle.mailmap_redundancy.specs.Redundancy.{AreEffective, position_cmp}
use Rattle.mailmap_redundancy.proofs.Positions.{positions_exact, positions_total}
use Rattle.mailmap_findings.proofs.Lines.{kept_ascend}
use Rattle.mailmap_findings.proofs.needs.Needs.new.Goals as goal

pub returns-clause-left : goal.returns-clause-left
returns-clause-left c =
    let kept = c.in_ok-explanations.explanations.kept in
    let lines = c.in_ok-lines.field-0 in
    let left = c.in_ok-left.left in
    let made : IsFromIterResult position_cmp lines.items left =
    fact_from_collect {E = Unit {0}} (IsFromIterResult position_cmp) (Ok left) c.in_ok-left.ensures.ran
    (YieldsList-from_vec lines.items c.into_iter.ensures.rest (c.into_iter.ensures.len ∙ lines.ok.0)) in
    let ascend : IsStrictlySortedBy position_cmp lines.items =
    subst (IsStrictlySortedBy position_cmp) (sym c.in_ok-lines.ensures)
    (kept_ascend c.args.mailmaps.now kept (subst (λ xs. AreEffective xs kept) c.in_ok-explanations.ensures.history c.in_ok-explanations.ensures.effective)) in
    same_keys positions_total positions_exact left.keys lines.items made.1 ascend made.0 ∙ c.in_ok-lines.ensures
