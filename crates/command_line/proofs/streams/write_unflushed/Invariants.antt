-- What was written so far is the beginning of the text.
use Rattle.std.proofs.Common.{◌≤◌, length, take}
use Rattle.std.specs.Io.KnownBytes.{Appends}
use Rattle.command_line.proofs.streams.write_unflushed.Given as goal

abbrev pub invariant-loop : goal.invariant-loop
invariant-loop g l = (l.written ≤ length l.text) × Appends (g.W.Write.contents l.initial.writer) (g.W.Write.contents l.writer) (take l.written l.text)
