-- Whatever lines were remembered before, those so far are, too.
use Rattle.std.proofs.Common.{◌≡◌, ◌++◌, List, map}
use Rattle.bstr.specs.Text.{lines_of}
use Rattle.mailmap_entries.specs.Folding.{Text}
use Rattle.mailmap_suggestions.specs.RememberedViews.{Remembers, without_feed}
use Rattle.mailmap_suggestions.proofs.remembered.Remembered.add_lines.Given as goal

abbrev pub invariant-loop-line : goal.invariant-loop-line
invariant-loop-line l = (lines : List Text) → Remembers lines l.fn.self
    → (all : List Text) × (lines ++ map without_feed (lines_of l.fn.buffer) ≡ all ++ map without_feed l.line-iterator) × Remembers all l.self
