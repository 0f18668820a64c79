use Rattle.std.proofs.Common.{rules, ◌≡◌}
use Rattle.std.proofs.lemmas.List.Sorted.{IsPermutation-map, answers_always}
use Rattle.mailmap_contacts.proofs.Steps.{sorted_mapped}
use Rattle.mailmap_suggestions.specs.ContactFindings.{finding_place, place_cmp}
use Rattle.mailmap_suggestions.specs.FindingViews.{finding_view}
use Rattle.mailmap_suggestions.specs.declared.findings.ContactFinding.TheVariants.{NoContact}
use Rattle.mailmap_suggestions.proofs.findings.sort_by_places.Goals as goal

pub returns-clause-whole : goal.returns-clause-whole
returns-clause-whole c = search (rules, IsPermutation-map)

pub returns-clause-in_order : goal.returns-clause-in_order
returns-clause-in_order c =
    let computes = answers_always _ (λ a r. r ≡ finding_place (finding_view a.0.now)) _
    (λ f a r f' k. let e : r ≡ finding_place (finding_view a.0.now) = search rules in e) in
    sorted_mapped finding_view finding_place place_cmp c.sort_unstable_by_key.new.self.items (NoContact 0)
    (c.sort_unstable_by_key.ensures.sorted (λ f. finding_place (finding_view f)) computes)
