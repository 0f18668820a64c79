-- The findings so far and the remaining ones are all findings.
use Rattle.std.proofs.Common.{◌≡◌, ◌++◌, drop, map}
use Rattle.mailmap_findings.specs.Findings.{finding_of}
use Rattle.gix_mailmap_c.specs.Findings.{c_finding}
use Rattle.gix_mailmap_c.proofs.texts.findings_of.Given as goal

abbrev pub invariant-loop-finding : goal.invariant-loop-finding
invariant-loop-finding l =
    l.each.items ++ map c_finding (map finding_of (drop l.finding-index l.finding-items)) ≡ map c_finding (map finding_of l.finding-items)
