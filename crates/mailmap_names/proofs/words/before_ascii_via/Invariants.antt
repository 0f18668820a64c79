use Rattle.std.proofs.Common.{◌≡◌, ◌++◌, take, drop}
use Rattle.mailmap_names.specs.Words.{before_via}
use Rattle.mailmap_names.proofs.words.before_ascii_via.Given as goal

abbrev pub invariant-loop-i : goal.invariant-loop-i
invariant-loop-i l = before_via l.text ≡ take l.i l.text ++ before_via (drop l.i l.text)
