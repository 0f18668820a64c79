-- Those of the answers so far.
use Rattle.std.proofs.Common.{◌≡◌, map, take}
use Rattle.mailmap_contacts.specs.Answers.{tally_of}
use Rattle.mailmap_suggestions.specs.ContactFindings.{seen_among}
use Rattle.mailmap_suggestions.proofs.findings.seen_among.Given as goal

abbrev pub invariant-loop-answer : goal.invariant-loop-answer
invariant-loop-answer l = map tally_of l.found.items
    ≡ seen_among l.seen (map tally_of (take l.answer-index l.answers))
