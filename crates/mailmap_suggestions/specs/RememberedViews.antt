-- The lines with `#?` that mailmaps have, as the code has them.
use Rattle.std.specs.Prelude.{◌≡◌, ◌==◌, ◌&&◌, ℕ, Bool, false, if◌then◌else◌, List, [], ◌∷◌, bytes_eq}
use Rattle.std.specs.BTreeSet.{contains}
use Rattle.std.specs.Global.{Vec}
use Rattle.std.specs.List.{list_any}
use Rattle.mailmap_entries.specs.Folding.{Text}
use Rattle.mailmap_suggestions.specs.LinkViews.{vec_cmp}
use Rattle.mailmap_suggestions.specs.declared.remembered.Remembered.{Remembered}

-- whether a line begins with `#?`
abbrev pub is_marked : Text → Bool
is_marked [] = false
is_marked (b ∷ []) = false
is_marked (b ∷ c ∷ s) = b == 35 && c == 63

-- those of these lines that begin with `#?`
abbrev pub Remembers : List Text → Remembered → Type 0
Remembers lines found = (line : Vec ℕ) → contains vec_cmp found.lines line
    ≡ (is_marked line.items && list_any (bytes_eq line.items) lines)

-- a line without its line feed
abbrev pub without_feed : Text → Text
without_feed [] = []
without_feed (b ∷ []) = if b == 10 then [] else b ∷ []
without_feed (b ∷ c ∷ s) = b ∷ without_feed (c ∷ s)
