use Rattle.std.proofs.Common.{[], take}
use Rattle.std.specs.List.{flat_map}
use Rattle.caller_promises.specs.Calls.{sources_of}
use Rattle.gix_mailmap.specs.Sources.{IsMarked}
use Rattle.caller_promises.proofs.calls.build.Given as goal

abbrev pub invariant-loop-call : goal.invariant-loop-call
invariant-loop-call l = IsMarked [] (flat_map sources_of (take l.call-index l.calls)) l.made.items l.snapshot
