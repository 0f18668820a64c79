-- The groups so far.
use Rattle.std.proofs.Common.{◌≡◌, ◌++◌, flat_map, map, take}
use Rattle.mailmap_suggestions.specs.ContactFindings.{group_findings}
use Rattle.mailmap_suggestions.specs.FindingViews.{finding_view}
use Rattle.mailmap_suggestions.specs.Views.{suggestion_of}
use Rattle.mailmap_suggestions.proofs.findings.push_groups.Given as goal

abbrev pub invariant-loop-suggestion : goal.invariant-loop-suggestion
invariant-loop-suggestion l = map finding_view l.findings.items ≡ map finding_view l.fn.findings.items
    ++ flat_map (group_findings l.seen) (map suggestion_of (take l.suggestion-index l.suggestions))
