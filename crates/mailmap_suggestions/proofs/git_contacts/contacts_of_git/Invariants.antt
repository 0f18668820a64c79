-- The contacts so far, as git reads them.
use Rattle.std.proofs.Common.{map}
use Rattle.mailmap_contacts.specs.Answers.{answer_key_tally}
use Rattle.mailmap_contacts.specs.Contacts.{read_by}
use Rattle.mailmap_contacts.specs.Counts.{SameTallies}
use Rattle.mailmap_contacts.proofs.Entries.{item_tally}
use Rattle.mailmap_suggestions.specs.GitContacts.{read_by_git}
use Rattle.mailmap_suggestions.proofs.git_contacts.contacts_of_git.Given as goal

abbrev pub invariant-loop-name : goal.invariant-loop-name
invariant-loop-name l = SameTallies (map answer_key_tally l.tallies.entries) (map (read_by read_by_git) (map item_tally l.yielded))
