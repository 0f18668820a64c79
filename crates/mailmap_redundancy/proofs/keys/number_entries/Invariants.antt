use Rattle.mailmap_redundancy.proofs.Numbered.{IsWalk}
use Rattle.mailmap_redundancy.proofs.keys.number_entries.Given as goal

abbrev pub invariant-loop-at : goal.invariant-loop-at
invariant-loop-at l = IsWalk l.entries l.at-items l.at-index l.keys.keys.items l.keys.email_number l.rows
