-- Those of the members so far.
use Rattle.std.proofs.Common.{◌≡◌, List, filter, take}
use Rattle.mailmap_contacts.specs.Contacts.{Tally}
use Rattle.mailmap_suggestions.specs.Forms.{Histories}
use Rattle.mailmap_suggestions.specs.LinkViews.{AreMembers, answer_in}
use Rattle.mailmap_suggestions.specs.Links.{takes_part}
use Rattle.mailmap_suggestions.proofs.members.participants.Given as goal

abbrev pub invariant-loop-member : goal.invariant-loop-member
invariant-loop-member l = (h : Histories) (ts : List Tally) → AreMembers h ts l.members
    → l.found.items ≡ filter (λ m. takes_part l.shared h ts (answer_in m)) (take l.member-index l.members)
