-- The text so far and the text for the remaining lines are the whole text.
use Rattle.std.proofs.Common.{◌≡◌, ◌++◌}
use Rattle.std.specs.List.{flat_map}
use Rattle.mailmap_report.specs.Explained.{each_line, explained_line}
use Rattle.gix_mailmap_c.proofs.several.explained_by.Given as goal

abbrev pub invariant-loop-line : goal.invariant-loop-line
invariant-loop-line l = l.text.items ++ flat_map (explained_line l.explainer) l.line-iterator ≡ each_line (explained_line l.explainer) l.fn.contacts
