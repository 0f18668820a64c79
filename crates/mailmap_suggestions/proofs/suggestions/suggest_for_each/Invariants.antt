-- The suggestions for the groups so far, if they are groups of these contacts, whose logins have these keys.
use Rattle.std.proofs.Common.{◌≡◌, List, map, take}
use Rattle.mailmap_contacts.specs.Contacts.{Contact, Tally}
use Rattle.mailmap_entries.specs.Folding.{Text}
use Rattle.mailmap_suggestions.specs.GroupEntries.{groups}
use Rattle.mailmap_suggestions.specs.Private.{tallies_in}
use Rattle.mailmap_suggestions.specs.Stages.{HasKeysOf, kind_by}
use Rattle.mailmap_suggestions.specs.Suggestions.{suggestion}
use Rattle.mailmap_suggestions.specs.Views.{suggestion_of}
use Rattle.mailmap_suggestions.proofs.suggestions.suggest_for_each.Given as goal

abbrev pub invariant-loop-group : goal.invariant-loop-group
invariant-loop-group l = (ts : List Tally) (class : Contact → Text) → HasKeysOf l.common l.shared l.answers ts
    → map tallies_in l.grouped ≡ groups class l.answers ts → map suggestion_of l.found.items
    ≡ map (λ g. suggestion l.shared l.base l.answers (kind_by l.common l.shared l.answers ts (tallies_in g)) (tallies_in g)) (take l.group-index l.grouped)
