-- The buffers so far were read.
use Rattle.std.proofs.Common.{◌≡◌, map, take}
use Rattle.mailmap_suggestions.specs.Forms.{Histories}
use Rattle.mailmap_suggestions.specs.Histories.{histories_of}
use Rattle.mailmap_suggestions.proofs.histories.Histories.read.Given as goal

abbrev pub invariant-loop-buffer : goal.invariant-loop-buffer
invariant-loop-buffer l =
    let read : Histories = record { ours = l.histories-inside.ours; gits = l.histories-inside.gits } in read ≡ histories_of (map (λ b. b.now) (take l.buffer-index l.buffers))
