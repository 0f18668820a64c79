-- The set has the emails so far.
use Rattle.std.proofs.Common.{take}
use Rattle.mailmap_suggestions.specs.SharedViews.{IsIndexOf}
use Rattle.mailmap_suggestions.proofs.shared.index_of.Given as goal

abbrev pub invariant-loop-email : goal.invariant-loop-email
invariant-loop-email l = IsIndexOf (take l.email-index l.emails) l.index
