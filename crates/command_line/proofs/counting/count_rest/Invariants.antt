-- Some of the rest was read, and what was read before and of it is counted up to its last line feed.
use Rattle.std.proofs.Common.{List, ℕ, ◌++◌}
use Rattle.std.specs.Io.KnownBytes.{Consumes}
use Rattle.command_line.specs.Counted.{HasCountedRead}
use Rattle.command_line.proofs.counting.count_rest.Given as goal

abbrev pub invariant-loop : goal.invariant-loop
invariant-loop g l = (rest : List ℕ) × Consumes (g.R.Read.remaining l.fn.input) (g.R.Read.remaining l.input) rest
    × ((read : List ℕ) → HasCountedRead read l.fn.partial.items l.fn.contacts → HasCountedRead (read ++ rest) l.partial.items l.contacts)
