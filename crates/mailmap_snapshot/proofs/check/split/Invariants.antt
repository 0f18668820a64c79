use Rattle.mailmap_snapshot.proofs.Dividers.{HasPassed}
use Rattle.mailmap_snapshot.proofs.check.split.Given as goal

abbrev pub invariant-loop-line : goal.invariant-loop-line
invariant-loop-line l = HasPassed l.input l.index l.lines
