-- The words so far, with the findings that are left, are all of them.
use Rattle.std.proofs.Common.{◌≡◌, map}
use Rattle.mailmap_report.specs.Report.{finding_notice}
use Rattle.gix_mailmap_c.specs.Notices.{with_notices, words_of}
use Rattle.gix_mailmap_c.proofs.notices.push_findings.Given as goal

abbrev pub invariant-loop-finding : goal.invariant-loop-finding
invariant-loop-finding l =
    with_notices (words_of l.words) (map (finding_notice (map (λ name. name.items) l.names)) l.finding-iterator)
    ≡ with_notices (words_of l.fn.words) (map (finding_notice (map (λ name. name.items) l.names)) l.fn.findings)
