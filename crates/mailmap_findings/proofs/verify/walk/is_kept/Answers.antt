use Rattle.std.proofs.Common.{ap, map, of_calls, rules, subst, sym, ◌∙◌}
use Rattle.std.specs.List.Sorted.{IsStrictlySortedBy}
use Rattle.std.proofs.lemmas.Fn.{always_returns_same}
use Rattle.mailmap_redundancy.specs.Redundancy.{position_cmp}
use Rattle.mailmap_findings.specs.Positions.{has_entry_at}
use Rattle.mailmap_findings.proofs.Lines.{found_at}
use Rattle.mailmap_findings.proofs.verify.walk.is_kept.Goals as goal

pub returns : goal.returns
returns c =
    let up = subst (λ xs. IsStrictlySortedBy position_cmp (map (λ x. x.position) xs)) (sym c.kept.ensures) c.requires in
    let found = c.binary_search_by-found.ensures.position (λ e. position_cmp e.now.position c.args.position)
    (always_returns_same _ _ _ (λ a r f called. search (rules, of_calls))) in
    c.is_ok.ensures.value ∙ found_at c.kept.result.now c.args.position up c.binary_search_by-found.result
    c.binary_search_by-found.ensures.bound found ∙ ap (λ xs. has_entry_at xs c.args.position) c.kept.ensures
