use Rattle.std.proofs.Common.{refl}
use Rattle.mailmap_findings.proofs.WholeLines.{lines-whole}
use Rattle.gix_mailmap_c.proofs.several.explained_by.Goals as goal

pub loop-line-init : goal.loop-line-init
loop-line-init c = rw (c.new-text.ensures.items, c.into_iter-line-iterator.ensures.into_iter_gives, c.lines_with_terminator-line-items.ensures.value, lines-whole) refl
