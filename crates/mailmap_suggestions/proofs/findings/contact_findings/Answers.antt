use Rattle.std.proofs.Common.{◌∙◌, Bor, List, ℕ, ap, map, subst}
use Rattle.std.specs.List.Sorted.{IsPermutation}
use Rattle.mailmap_suggestions.specs.ContactFindings.{ContactFinding, findings_about}
use Rattle.mailmap_suggestions.specs.FindingViews.{finding_view}
use Rattle.mailmap_suggestions.specs.Histories.{histories_of}
use Rattle.mailmap_suggestions.specs.Views.{suggestion_of}
use Rattle.mailmap_suggestions.proofs.findings.contact_findings.Goals as goal

pub returns : goal.returns
returns c = λ lines are.
    let made = c.in_ok-suggestions.ensures lines are in
    let h = histories_of (map (λ (b : Bor (List ℕ)). b.now) c.args.buffers.now) in
    let found = ap (map suggestion_of) c.deref.ensures.value ∙ made.2 in
    let whole = c.in_ok-findings.ensures lines are ∙ ap (λ s. findings_about s h lines) found in
    record {
      classes = made.0;
      are_classes = made.1;
      whole = subst (λ (l : List ContactFinding). IsPermutation l (map finding_view c.sort_by_places.new.findings.items)) whole c.sort_by_places.ensures.whole;
      in_order = c.sort_by_places.ensures.in_order;
    }
