-- Those of the members so far.
use Rattle.std.proofs.Common.{take}
use Rattle.mailmap_suggestions.specs.LinkViews.{AreUnnamed}
use Rattle.mailmap_suggestions.proofs.members.unnamed.Given as goal

abbrev pub invariant-loop-member : goal.invariant-loop-member
invariant-loop-member l = AreUnnamed (take l.member-index l.members) l.unnamed
