use Rattle.std.proofs.Common.{length}
use Rattle.mailmap_grammar.specs.Lines.{Skips}
use Rattle.mailmap_grammar.proofs.skip.skip_each.Given as goal

abbrev pub invariant-loop-feed : goal.invariant-loop-feed
invariant-loop-feed l = Skips l.bytes l.rest l.count

abbrev pub decreases-loop-feed : goal.decreases-loop-feed
decreases-loop-feed l = length l.rest
