-- The remaining contacts decide.
use Rattle.std.proofs.Common.{◌≡◌, drop}
use Rattle.std.specs.List.{list_all}
use Rattle.mailmap_contacts.specs.Answers.{tally_of}
use Rattle.mailmap_suggestions.specs.Private.{are_enough}
use Rattle.mailmap_suggestions.proofs.changes.Changes.are_enough_for_all.Given as goal

abbrev pub invariant-loop-contact : goal.invariant-loop-contact
invariant-loop-contact l = let enough = are_enough l.self l.answers (tally_of l.to).contact in list_all enough (drop l.contact-index l.contacts) ≡ list_all enough l.contacts
