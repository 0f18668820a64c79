-- The answers to the contacts so far.
use Rattle.std.proofs.Common.{map, take}
use Rattle.std.specs.List.Sorted.{IsStrictlySortedBy}
use Rattle.std.specs.Map.{keys_of}
use Rattle.mailmap_contacts.specs.Answers.{answer_key, answer_key_tally, tally_of}
use Rattle.mailmap_contacts.specs.Contacts.{answered}
use Rattle.mailmap_contacts.specs.Counts.{SameTallies}
use Rattle.mailmap_contacts.proofs.Entries.{key_cmp}
use Rattle.mailmap_suggestions.proofs.findings.seen_answers.Given as goal

abbrev pub invariant-loop-contact : goal.invariant-loop-contact
invariant-loop-contact l = record {
  ordered : IsStrictlySortedBy (key_cmp answer_key) (keys_of l.by_answer.entries);
  same : SameTallies (map answer_key_tally l.by_answer.entries) (map (answered l.answers.ours) (map tally_of (take l.contact-index l.contacts)));
}
