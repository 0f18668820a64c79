-- The answers so far.
use Rattle.std.proofs.Common.{◌≡◌, ◌++◌, map, take}
use Rattle.mailmap_contacts.specs.Answers.{tally_of}
use Rattle.mailmap_suggestions.specs.ContactFindings.{git_answers}
use Rattle.mailmap_suggestions.specs.FindingViews.{finding_view}
use Rattle.mailmap_suggestions.proofs.findings.push_git_answers.Given as goal

abbrev pub invariant-loop-answer : goal.invariant-loop-answer
invariant-loop-answer l = map finding_view l.findings.items
    ≡ map finding_view l.fn.findings.items ++ map git_answers (map tally_of (take l.answer-index l.git_answers))
