-- Whatever lines were counted before, the lines so far are counted after them.
use Rattle.std.proofs.Common.{◌≡◌, ◌++◌, List, ℕ}
use Rattle.bstr.specs.Text.{lines_of}
use Rattle.mailmap_contacts.specs.Counts.{HasCounted}
use Rattle.mailmap_contacts.proofs.counter.ContactCounter.add_lines.Given as goal

abbrev pub invariant-loop-line : goal.invariant-loop-line
invariant-loop-line l = (lines : List (List ℕ)) → HasCounted lines l.fn.self
    → (all : List (List ℕ)) × (lines ++ lines_of l.fn.text ≡ all ++ l.line-iterator) × HasCounted all l.self
