-- Each recursive call has one part less.
use Rattle.std.proofs.Common.{◌+◌, length}
use Rattle.mailmap_shortlog.proofs.answer.+compare_parts.Given as goal

abbrev pub decreases-compare_parts : goal.decreases-compare_parts
decreases-compare_parts l = length l.xs.now + length l.ys.now
