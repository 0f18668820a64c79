use Rattle.std.proofs.Common.{◌-◌, length}
use Rattle.mailmap_grammar.proofs.Skipped.{AreBlank}
use Rattle.mailmap_grammar.proofs.skip.blank_feed.Given as goal

abbrev pub invariant-loop-end : goal.invariant-loop-end
invariant-loop-end l = AreBlank l.bytes l.end

abbrev pub decreases-loop-end : goal.decreases-loop-end
decreases-loop-end l = length l.bytes - l.end
