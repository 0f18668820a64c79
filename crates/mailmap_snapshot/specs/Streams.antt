-- Contacts that arrive in parts: the answers so far, and the partial line.
use Rattle.std.specs.Prelude.{◌≡◌, ◌<◌, ◌≤◌, ℕ, List, [], ◌∷◌, ◌++◌, length, take}
use Rattle.std.specs.List.{All}
use Rattle.mailmap_entries.specs.Entries.{Mapping}
use Rattle.mailmap_entries.specs.Folding.{Text}
use Rattle.mailmap_grammar.specs.CachedLines.{CachedLine}
use Rattle.mailmap_grammar.specs.LineParts.{AnswersFront, HasAnswered}
use Rattle.mailmap_snapshot.specs.Contacts.{answers}

-- a stream of contacts: the listing of the snapshot that it answers with, and the start of a line that hasn't ended yet
pub record Stream : Type 0 where
  pub mappings : List Mapping
  pub partial : Text

-- the parts arrive one after another, after a partial line: the text has the answers to whole lines at the start of all
-- these bytes, and `rest` is what follows them
abbrev pub AnswersParts : List Mapping → Text → List Text → Text → Text → Type 0
AnswersParts mappings partial [] text rest = (text ≡ []) × (rest ≡ partial)
AnswersParts mappings partial (part ∷ parts) text rest =
    (made next later : Text) × (text ≡ made ++ later) × AnswersFront (answers mappings) (partial ++ part) made next
    × AnswersParts mappings next parts later rest

-- at least one byte of a part is taken, if it has any: the lines that ended are answered after `before`
pub record HasTaken (mappings : List Mapping) (partial part before : Text) (taken : ℕ) (left after : Text)
    : Type 0 where
  pub within : taken ≤ length part
  pub some : 0 < length part → 0 < taken
  pub answered : HasAnswered (answers mappings) partial (take taken part) left (λ made. after ≡ before ++ made)

-- all of these are lines and their answers
abbrev pub AreCachedAnswers : List Mapping → List CachedLine → Type 0
AreCachedAnswers mappings rows = All (λ row. row.answer ≡ answers mappings row.line) rows
