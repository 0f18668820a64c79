-- With those of the members so far.
use Rattle.std.proofs.Common.{◌≡◌, List, fold, map, take}
use Rattle.std.specs.Option.{option_copied}
use Rattle.mailmap_contacts.specs.Contacts.{Tally}
use Rattle.mailmap_suggestions.specs.FirstLogins.{with_login}
use Rattle.mailmap_suggestions.specs.Forms.{Histories}
use Rattle.mailmap_suggestions.specs.LinkViews.{AreLoginKeys}
use Rattle.mailmap_suggestions.proofs.links.LoginKeys.with_contact_logins.Given as goal

abbrev pub invariant-loop-member : goal.invariant-loop-member
invariant-loop-member l = (h : Histories) (ts : List Tally) → AreLoginKeys l.shared h ts l.self
    → map option_copied l.found.items ≡ fold (with_login l.shared h ts) (map option_copied l.initial.found.items) (take l.member-index l.group)
