-- The spellings of the members so far.
use Rattle.std.proofs.Common.{take}
use Rattle.mailmap_suggestions.proofs.Participating.{emails_in}
use Rattle.mailmap_suggestions.proofs.Spelled.{AreSpelled}
use Rattle.mailmap_suggestions.proofs.members.respelled.Given as goal

abbrev pub invariant-loop-member : goal.invariant-loop-member
invariant-loop-member l = AreSpelled (emails_in (take l.member-index l.members)) l.spellings l.respelled
