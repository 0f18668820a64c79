use Rattle.std.proofs.Common.{refl}
use Rattle.mailmap_grammar.proofs.SplitOnce.{split_once-none, split_once-some}
use Rattle.mailmap_findings.proofs.git.split_once.Goals as goal

pub returns-in-None : goal.returns-in-None
returns-in-None c = rw (split_once-none c.args.byte c.args.text.now c.in-None.ensures) refl

pub returns-in-Some : goal.returns-in-Some
returns-in-Some c = rw (split_once-some c.args.byte c.args.text.now c.in-Some.index c.in-Some.ensures) refl
