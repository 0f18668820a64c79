use Rattle.std.proofs.Common.{◌≡◌, length}
use Rattle.mailmap_findings.specs.Git.{git_entries}
use Rattle.mailmap_findings.proofs.git.GitEntriesIterator.next.Given as goal

abbrev pub invariant-loop-self : goal.invariant-loop-self
invariant-loop-self l = git_entries l.self-inside.rest.now ≡ l.fn.self

abbrev pub decreases-loop-self : goal.decreases-loop-self
decreases-loop-self l = length l.self-inside.rest.now
