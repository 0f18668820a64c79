-- The lines of the buffers so far.
use Rattle.std.proofs.Common.{map, take}
use Rattle.mailmap_suggestions.specs.RememberedViews.{Remembers}
use Rattle.mailmap_suggestions.specs.Suggestions.{lines_in}
use Rattle.mailmap_suggestions.proofs.remembered.Remembered.read.Given as goal

abbrev pub invariant-loop-buffer : goal.invariant-loop-buffer
invariant-loop-buffer l = Remembers (lines_in (map (λ b. b.now) (take l.buffer-index l.buffers))) l.remembered
