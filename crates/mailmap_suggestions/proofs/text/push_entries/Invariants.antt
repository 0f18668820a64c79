-- The text so far and the lines of the remaining entries are the whole.
use Rattle.std.proofs.Common.{◌≡◌, ◌++◌, drop, map}
use Rattle.mailmap_entries.specs.Entries.{mapping_of}
use Rattle.mailmap_suggestions.specs.SuggestedText.{entry_lines}
use Rattle.mailmap_suggestions.proofs.text.push_entries.Given as goal

abbrev pub invariant-loop-entry : goal.invariant-loop-entry
invariant-loop-entry l =
    l.out.items ++ entry_lines l.need_review (map mapping_of (drop l.entry-index l.entries)) ≡ l.fn.out.items ++ entry_lines l.need_review (map mapping_of l.entries)
