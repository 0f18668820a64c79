-- The members so far.
use Rattle.std.proofs.Common.{map, take}
use Rattle.mailmap_contacts.specs.Answers.{tally_of}
use Rattle.mailmap_suggestions.specs.LinkViews.{AreMembers}
use Rattle.mailmap_suggestions.proofs.Participating.{AreFirsts}
use Rattle.mailmap_suggestions.proofs.members.members_of.Given as goal

abbrev pub invariant-loop-index : goal.invariant-loop-index
invariant-loop-index l = AreMembers l.answers (map tally_of (take l.index l.contacts)) l.members.items × AreFirsts l.members.items l.firsts
