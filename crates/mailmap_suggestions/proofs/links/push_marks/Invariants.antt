-- The links of the marks so far.
use Rattle.std.proofs.Common.{◌≡◌, ◌++◌}
use Rattle.mailmap_suggestions.specs.Forests.{links_of}
use Rattle.mailmap_suggestions.specs.LinkViews.{links_to, mark_texts}
use Rattle.mailmap_suggestions.proofs.links.push_marks.Given as goal

abbrev pub invariant-loop-mark : goal.invariant-loop-mark
invariant-loop-mark l = links_of l.links.items ≡ links_of l.initial.links.items ++ links_to l.item (mark_texts l.yielded)
