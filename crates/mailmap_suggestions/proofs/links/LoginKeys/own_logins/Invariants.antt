-- Those of the members so far.
use Rattle.std.proofs.Common.{◌≡◌, List, map, take}
use Rattle.std.specs.Option.{option_copied}
use Rattle.mailmap_contacts.specs.Contacts.{Tally}
use Rattle.mailmap_suggestions.specs.FirstLogins.{own_login}
use Rattle.mailmap_suggestions.specs.Forms.{Histories}
use Rattle.mailmap_suggestions.specs.LinkViews.{AreLoginKeys}
use Rattle.mailmap_suggestions.proofs.links.LoginKeys.own_logins.Given as goal

abbrev pub invariant-loop-member : goal.invariant-loop-member
invariant-loop-member l = (h : Histories) (ts : List Tally) → AreLoginKeys l.shared h ts l.self
    → map option_copied l.found.items ≡ map (own_login l.shared h ts) (take l.member-index l.group)
