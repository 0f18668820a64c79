-- The others of the answers so far.
use Rattle.std.proofs.Common.{◌≡◌, ◌++◌, Some, map, take}
use Rattle.mailmap_contacts.specs.Answers.{tally_of}
use Rattle.mailmap_suggestions.specs.ContactFindings.{others_like}
use Rattle.mailmap_suggestions.specs.FindingViews.{finding_view}
use Rattle.mailmap_suggestions.proofs.findings.push_others.Given as goal

abbrev pub invariant-loop-answer : goal.invariant-loop-answer
invariant-loop-answer l = map finding_view l.findings.items ≡ map finding_view l.fn.findings.items
    ++ others_like l.likeness (Some (tally_of l.best)) (map tally_of (take l.answer-index l.answers))
