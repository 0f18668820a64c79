-- The occurrences of the answers so far.
use Rattle.std.proofs.Common.{◌≡◌, map, take, true}
use Rattle.mailmap_contacts.specs.Answers.{tally_of}
use Rattle.mailmap_contacts.specs.Contacts.{seen_where}
use Rattle.mailmap_suggestions.proofs.findings.all_seen.Given as goal

abbrev pub invariant-loop-answer : goal.invariant-loop-answer
invariant-loop-answer l = l.seen ≡ seen_where (λ c. true) (map tally_of (take l.answer-index l.answers))
