-- The text of suggestions in pieces.
use Rattle.std.specs.Prelude.{false, List, [], ◌∷◌, ◌++◌}
use Rattle.mailmap_entries.specs.Folding.{Text}
use Rattle.mailmap_report.specs.Report.{Piece}
use Rattle.mailmap_suggestions.specs.SuggestedText.{suggestion_text}
use Rattle.mailmap_suggestions.specs.Suggestions.{Suggestion, needs_review}

-- the lines of a suggestion, after a text; they are no finding
abbrev pub suggestion_piece : Text → Suggestion → Piece
suggestion_piece start s = record { text = start ++ suggestion_text (needs_review s.kind) s; counts = false }

-- one for each suggestion, the first after this text
abbrev pub suggestion_pieces : Text → List Suggestion → List Piece
suggestion_pieces start [] = []
suggestion_pieces start (s ∷ rest) = suggestion_piece start s ∷ suggestion_pieces [] rest
