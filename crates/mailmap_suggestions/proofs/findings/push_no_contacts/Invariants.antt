-- The lines so far.
use Rattle.std.proofs.Common.{◌≡◌, ◌++◌, map, take}
use Rattle.mailmap_suggestions.specs.ContactFindings.{no_contact}
use Rattle.mailmap_suggestions.specs.FindingViews.{finding_view}
use Rattle.mailmap_suggestions.proofs.findings.push_no_contacts.Given as goal

abbrev pub invariant-loop-line : goal.invariant-loop-line
invariant-loop-line l =
    map finding_view l.findings.items ≡ map finding_view l.fn.findings.items ++ map no_contact (take l.line-index l.lines_without_contact)
