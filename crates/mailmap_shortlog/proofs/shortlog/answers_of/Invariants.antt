-- The answers to the contacts so far, added up.
use Rattle.std.proofs.Common.{map}
use Rattle.mailmap_contacts.specs.Contacts.{read_by, trimmed}
use Rattle.mailmap_contacts.specs.Counts.{SameTallies}
use Rattle.mailmap_contacts.proofs.Entries.{item_tally}
use Rattle.mailmap_shortlog.specs.Answers.{answer_tally, text_tally}
use Rattle.mailmap_shortlog.proofs.shortlog.answers_of.Given as goal

abbrev pub invariant-loop-name : goal.invariant-loop-name
invariant-loop-name l = SameTallies (map answer_tally l.answers.entries)
    (map (λ t. text_tally l.with_email l.snapshot (read_by trimmed t)) (map item_tally l.yielded))
