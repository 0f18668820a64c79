-- Lines that arrive in parts, and the answers to them.
use Rattle.std.specs.Prelude.{◌≡◌, ◌⊎◌, [], ◌∷◌, ◌++◌}
use Rattle.mailmap_entries.specs.Folding.{Text}
use Rattle.mailmap_grammar.specs.Lines.{HoldsNo}

-- whole lines: no bytes, or bytes that end in a line feed
abbrev pub EndsLine : Text → Type 0
EndsLine bytes = (bytes ≡ []) ⊎ ((front : Text) × (bytes ≡ front ++ 10 ∷ []))

-- the answers to whole lines come before those to the lines after them
abbrev pub AreInOrder : (Text → Text) → Type 0
AreInOrder answers = (whole more : Text) → EndsLine whole → answers (whole ++ more) ≡ answers whole ++ answers more

-- the text answers whole lines at the start of the bytes, which `rest` follows
pub record AnswersFront (answers : Text → Text) (bytes text rest : Text) : Type 0 where
  pub whole : Text
  pub ends : EndsLine whole
  pub bytes_are : bytes ≡ whole ++ rest
  pub text_is : text ≡ answers whole

-- After a partial line, more bytes have arrived. What was made answers all lines that ended in them, and the rest is
-- left.
pub record HasAnswered (answers : Text → Text) (partial bytes left : Text) (IsMade : Text → Type 0) : Type 0 where
  pub made : Text
  pub front : AnswersFront answers (partial ++ bytes) made left
  pub no_feed : HoldsNo 10 left
  pub is_made : IsMade made
