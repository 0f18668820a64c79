-- The list holds the bytes of each file so far.
use Rattle.std.proofs.Common.{◌≡◌, map, take}
use Rattle.command_line.proofs.files.list_of.Given as goal

abbrev pub invariant-loop-file : goal.invariant-loop-file
invariant-loop-file l = map (λ buffer. buffer.now) l.buffers.items ≡ map (λ file. file.items) (take l.file-index l.contents)
