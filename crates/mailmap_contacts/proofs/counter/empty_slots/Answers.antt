use Rattle.std.proofs.lemmas.List.Elements.{recursion_from_All}
use Rattle.mailmap_entries.proofs.Parts.{all_weaker}
use Rattle.mailmap_contacts.proofs.Counting.{empty_line, none_in_slots}
use Rattle.mailmap_contacts.proofs.counter.empty_slots.Goals as goal

pub returns-clause-none : goal.returns-clause-none
returns-clause-none c = none_in_slots _ (recursion_from_All _ _ c.loop.invariant.0)

pub returns-clause-contacts : goal.returns-clause-contacts
returns-clause-contacts c = all_weaker _ empty_line (recursion_from_All _ _ c.loop.invariant.0)
