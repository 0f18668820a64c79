-- The entries so far and those of the remaining lines are the whole.
use Rattle.std.proofs.Common.{◌≡◌, ◌++◌}
use Rattle.std.specs.List.{flat_map}
use Rattle.mailmap_findings.specs.Git.{git_entries}
use Rattle.mailmap_findings.specs.GitAnswers.{git_mappings}
use Rattle.mailmap_suggestions.proofs.histories.History.read_as_git.Given as goal

abbrev pub invariant-loop-line : goal.invariant-loop-line
invariant-loop-line l = l.self ++ flat_map git_entries l.line-iterator ≡ l.initial.self ++ git_mappings l.fn.buffer
