-- The entries so far were added.
use Rattle.std.proofs.Common.{◌≡◌, ◌++◌}
use Rattle.mailmap_entries.specs.Semantics.{accepted}
use Rattle.mailmap_findings.specs.Git.{git_entries}
use Rattle.mailmap_suggestions.proofs.histories.History.read_line_as_git.Given as goal

abbrev pub invariant-loop-entry : goal.invariant-loop-entry
invariant-loop-entry l = l.self ++ accepted l.entry-iterator ≡ l.initial.self ++ git_entries l.fn.line
