use Rattle.std.proofs.Common.{◌≡◌, ◌++◌, map, take, drop}
use Rattle.mailmap_tables.specs.Rows.{raised}
use Rattle.mailmap_tables.proofs.tables.raise_starts.Given as goal

abbrev pub invariant-loop-email : goal.invariant-loop-email
invariant-loop-email l =
    l.email-items ≡ map raised (take l.email-index l.fn.emails) ++ drop l.email-index l.fn.emails
