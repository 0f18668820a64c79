-- What was read so far has no line feed.
use Rattle.std.proofs.Common.{◌≡◌, false}
use Rattle.std.specs.Io.KnownBytes.{Consumes}
use Rattle.command_line.specs.GitLog.{has_feed}
use Rattle.command_line.proofs.start.read_first_line.Given as goal

abbrev pub invariant-loop : goal.invariant-loop
invariant-loop g l = Consumes (g.R.Read.remaining l.fn.input) (g.R.Read.remaining l.input) l.start.items × (has_feed l.start.items ≡ false)
