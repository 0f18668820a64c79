use Rattle.std.proofs.Common.{◌∙◌, ◌++◌, ap, flat_map}
use Rattle.mailmap_findings.proofs.WholeLines.{lines-whole}
use Rattle.mailmap_findings.specs.Git.{git_entries}
use Rattle.mailmap_suggestions.proofs.histories.History.read_as_git.Goals as goal

pub loop-line-init : goal.loop-line-init
loop-line-init c = ap (λ ls. c.args.self.now ++ flat_map git_entries ls) (c.into_iter-line-iterator.ensures.into_iter_gives ∙ c.lines_with_terminator-line-items.ensures.value ∙ lines-whole c.args.buffer.now)
