-- The mailmaps so far were merged.
use Rattle.std.proofs.Common.{map, take}
use Rattle.gix_mailmap.specs.Semantics.{IsNormal}
use Rattle.caller_promises.specs.Suggested.{mappings_in}
use Rattle.caller_promises.proofs.suggesting.merged.Given as goal

abbrev pub invariant-loop-mailmap : goal.invariant-loop-mailmap
invariant-loop-mailmap l = IsNormal (mappings_in (map (λ b. b.now) (take l.mailmap-index l.mailmaps))) l.snapshot
