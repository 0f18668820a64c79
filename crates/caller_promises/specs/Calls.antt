-- The sources of calls that merge.
use Rattle.std.specs.Prelude.{List, [], ◌∷◌}
use Rattle.mailmap_snapshot.specs.declared.snapshot.sources.Source.{Source}
use Rattle.caller_promises.specs.declared.calls.Call.{Call}
use Rattle.caller_promises.specs.declared.calls.Call.TheVariants.{Merge, MergeSources, MergeSnapshot}

abbrev pub sources_of : Call → List Source
sources_of (Merge s) = s.now ∷ []
sources_of (MergeSources sources) = sources.now
sources_of (MergeSnapshot s) = s.now ∷ []
