-- Owned texts by their bytes.
use Rattle.std.specs.Prelude.{ℕ, List, map}
use Rattle.std.specs.Global.{Vec}
use Rattle.mailmap_entries.specs.Folding.{Text}

-- the bytes of each
abbrev pub texts : List (Vec ℕ) → List Text
texts vectors = map (λ v. v.items) vectors
