-- The proper one of the answers so far.
use Rattle.std.proofs.Common.{◌≡◌, map, option_map, take}
use Rattle.mailmap_contacts.specs.Answers.{tally_at, tally_of}
use Rattle.mailmap_contacts.specs.Proper.{proper}
use Rattle.mailmap_contacts.proofs.proper.proper_of.Given as goal

abbrev pub invariant-loop-answer : goal.invariant-loop-answer
invariant-loop-answer l = option_map tally_at l.best ≡ proper (map tally_of (take l.answer-index l.answers))
