-- The words so far, with the findings that are left, are all of them.
use Rattle.std.proofs.Common.{◌≡◌, drop, map}
use Rattle.mailmap_report.specs.Report.{contact_notice}
use Rattle.mailmap_suggestions.specs.FindingViews.{finding_view}
use Rattle.gix_mailmap_c.specs.Notices.{with_notices, words_of}
use Rattle.gix_mailmap_c.proofs.notices.push_contact_findings.Given as goal

abbrev pub invariant-loop-finding : goal.invariant-loop-finding
invariant-loop-finding l =
    with_notices (words_of l.words) (map (contact_notice l.file) (map finding_view (drop l.finding-index l.findings)))
    ≡ with_notices (words_of l.fn.words) (map (contact_notice l.file) (map finding_view l.findings))
