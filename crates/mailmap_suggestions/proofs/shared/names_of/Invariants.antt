-- The names so far, each once.
use Rattle.std.proofs.Common.{map, take}
use Rattle.mailmap_suggestions.specs.Private.{contacts_of}
use Rattle.mailmap_suggestions.specs.SharedViews.{AreDistinct}
use Rattle.mailmap_suggestions.proofs.shared.names_of.Given as goal

abbrev pub invariant-loop-answer : goal.invariant-loop-answer
invariant-loop-answer l = AreDistinct (map (λ c. c.name) (contacts_of (take l.answer-index l.group))) l.seen l.names.items
