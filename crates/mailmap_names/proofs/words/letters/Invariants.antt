use Rattle.std.proofs.Common.{◌≡◌, take}
use Rattle.mailmap_names.specs.Words.{letters}
use Rattle.mailmap_names.proofs.words.letters.Given as goal

abbrev pub invariant-loop-c : goal.invariant-loop-c
invariant-loop-c l = l.found.items ≡ letters (take l.c-index l.text)
