-- The mailmaps so far are pruned.
use Rattle.std.proofs.Common.{map, take}
use Rattle.mailmap_entries.specs.Texts.{texts}
use Rattle.verify_command.specs.InPlace.{Prunes}
use Rattle.verify_command.proofs.in_place.replace_all.Given as goal

abbrev pub invariant-loop-index : goal.invariant-loop-index
invariant-loop-index g l =
    Prunes g.D.Replacer.has_replaced (texts l.paths) (take l.index (map (λ b. b.now) l.buffers)) l.fn.folder l.folder
