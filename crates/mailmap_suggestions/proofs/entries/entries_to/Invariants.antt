-- The entries so far and those for the remaining parts are the whole.
use Rattle.std.proofs.Common.{◌≡◌, ◌++◌, drop, flat_map, map}
use Rattle.mailmap_entries.specs.Entries.{mapping_of}
use Rattle.mailmap_contacts.specs.Answers.{tally_of}
use Rattle.mailmap_suggestions.proofs.Forms.{part_entries}
use Rattle.mailmap_suggestions.proofs.entries.entries_to.Given as goal

abbrev pub invariant-loop-part : goal.invariant-loop-part
invariant-loop-part l = let entries_of = part_entries l.shared l.answers (tally_of l.to).contact in
    map mapping_of l.entries.items ++ flat_map entries_of (drop l.part-index l.part-items) ≡ flat_map entries_of l.part-items
