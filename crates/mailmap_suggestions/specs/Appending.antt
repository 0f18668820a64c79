-- Texts to which lines are appended.
use Rattle.std.specs.Prelude.{◌==◌, Bool, true, [], ◌∷◌}
use Rattle.mailmap_entries.specs.Folding.{Text}

-- whether a text is empty or ends with a line feed
abbrev pub ends_line : Text → Bool
ends_line [] = true
ends_line (b ∷ []) = b == 10
ends_line (b ∷ c ∷ s) = ends_line (c ∷ s)
