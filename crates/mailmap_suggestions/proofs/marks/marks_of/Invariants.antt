-- The texts so far are marks.
use Rattle.std.proofs.Common.{◌≡◌}
use Rattle.mailmap_entries.specs.Texts.{texts}
use Rattle.mailmap_suggestions.specs.LinkViews.{mark_texts}
use Rattle.mailmap_suggestions.proofs.marks.marks_of.Given as goal

abbrev pub invariant-loop-text : goal.invariant-loop-text
invariant-loop-text l = mark_texts l.marks.items ≡ texts l.yielded
