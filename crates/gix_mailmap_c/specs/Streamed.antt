-- The calls on a stream of contacts.
use Rattle.std.specs.Prelude.{◌≡◌, ◌<◌, ◌≤◌, ◌++◌, ◌⊎◌, ◌∷◌, ℕ, List, [], length, take, drop}
use Rattle.mailmap_entries.specs.Entries.{Mapping}
use Rattle.mailmap_entries.specs.Folding.{Text}
use Rattle.mailmap_grammar.specs.LineParts.{AnswersFront}
use Rattle.mailmap_grammar.specs.Lines.{HoldsNo}
use Rattle.mailmap_snapshot.specs.Contacts.{answers, answers_by}

-- the mappings of a stream, the start of a line that hasn't ended yet, and the answers that haven't been read yet
pub record Pending : Type 0 where
  pub mappings : List Mapping
  pub partial : Text
  pub unread : Text

-- a stream without contacts yet, which answers as the mailmap does
pub record IsNew (mailmap : Text) (new : Pending) : Type 0 where
  pub partial : new.partial ≡ []
  pub unread : new.unread ≡ []
  pub same : (contacts : Text) → answers new.mappings contacts ≡ answers_by (mailmap ∷ []) contacts

-- bytes are read from the front of the part, at least one if there is one: the lines that ended are answered, and the
-- rest is the partial line
pub record HasTakenOf (part : Text) (taken : ℕ) (old new : Pending) : Type 0 where
  pub within : taken ≤ length part
  pub some : 0 < length part → 0 < taken
  pub made : Text
  pub mappings : new.mappings ≡ old.mappings
  pub unread : new.unread ≡ old.unread ++ made
  pub front : AnswersFront (answers old.mappings) (old.partial ++ take taken part) made new.partial
  pub partial : HoldsNo 10 old.partial → HoldsNo 10 new.partial

-- the partial line is answered
abbrev pub ended : Pending → Pending
ended p = record { mappings = p.mappings; partial = []; unread = p.unread ++ answers p.mappings p.partial }

-- the first `count` bytes of the unread answers are read
abbrev pub past : ℕ → Pending → Pending
past count p = record p { unread = drop count p.unread }

-- all unread answers, or as many bytes as fit, are at the front of the buffer, and the rest of it is unchanged
pub record AreTaken (old new : Pending) (before after : Text) (count : ℕ) : Type 0 where
  pub unread : count ≤ length old.unread
  pub fits : count ≤ length before
  pub all : (count ≡ length old.unread) ⊎ (count ≡ length before)
  pub written : after ≡ take count old.unread ++ drop count before
  pub left : new ≡ past count old
