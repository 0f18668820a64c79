use Rattle.std.proofs.Common.{◌≡◌, ◌≤◌, length, take}
use Rattle.mailmap_grammar.specs.Trimming.{trim}
use Rattle.mailmap_grammar.proofs.contacts.trim_end_blanks.Given as goal

abbrev pub invariant-loop-end : goal.invariant-loop-end
invariant-loop-end l = (l.end ≤ length l.text) × (trim (take l.end l.text) ≡ trim l.text)

abbrev pub decreases-loop-end : goal.decreases-loop-end
decreases-loop-end l = l.end
