-- Those of the answers so far.
use Rattle.std.proofs.Common.{◌≡◌, map, take}
use Rattle.mailmap_contacts.specs.Answers.{tally_of}
use Rattle.mailmap_suggestions.specs.GroupEntries.{of_one_person}
use Rattle.mailmap_suggestions.proofs.counted.of_one_person.Given as goal

abbrev pub invariant-loop-answer : goal.invariant-loop-answer
invariant-loop-answer l = map tally_of l.found.items ≡ of_one_person l.shared (map tally_of (take l.answer-index l.answers))
