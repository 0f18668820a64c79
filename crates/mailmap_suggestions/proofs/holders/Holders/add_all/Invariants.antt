-- The keys so far were added.
use Rattle.std.proofs.Common.{◌++◌, List}
use Rattle.mailmap_contacts.specs.Answers.{tally_of}
use Rattle.mailmap_contacts.specs.Contacts.{Contact}
use Rattle.mailmap_entries.specs.Folding.{Text}
use Rattle.mailmap_suggestions.specs.LinkViews.{HoldersOf, mark_texts, with_answer}
use Rattle.mailmap_suggestions.proofs.holders.Holders.add_all.Given as goal

abbrev pub invariant-loop-key : goal.invariant-loop-key
invariant-loop-key l = (pairs : List (Text × Contact)) → HoldersOf pairs l.fn.self → HoldersOf (pairs ++ with_answer (tally_of l.answer).contact (mark_texts l.yielded)) l.self
