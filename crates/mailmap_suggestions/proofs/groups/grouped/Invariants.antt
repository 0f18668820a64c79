-- The groups of the contacts so far.
use Rattle.std.proofs.Common.{map, take}
use Rattle.mailmap_suggestions.specs.Private.{keyed_of}
use Rattle.mailmap_suggestions.proofs.Numbered.{AreGrouped}
use Rattle.mailmap_suggestions.proofs.groups.grouped.Given as goal

abbrev pub invariant-loop-key : goal.invariant-loop-key
invariant-loop-key l = AreGrouped (map keyed_of (take l.key-index l.keyed)) l.numbers l.groups.items
