-- Nothing was read so far.
use Rattle.std.specs.Io.KnownBytes.{Keeps}
use Rattle.command_line.proofs.streams.read_part.Given as goal

abbrev pub invariant-loop : goal.invariant-loop
invariant-loop g l = Keeps (g.R.Read.remaining l.initial.reader) (g.R.Read.remaining l.reader)
