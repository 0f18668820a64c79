-- Output that is written, in full or in part.
use Rattle.std.specs.Prelude.{◌≡◌, ◌++◌, ℕ, List, IfSome, OnErr, OnOk, Option, Result, take}
use Rattle.std.specs.Io.KnownBytes.{Appends, IsAtEnd}
use Rattle.std.specs.Result.{IsErr, IsErrOf}
use Rattle.command_line.specs.Failures.{Failure, Output}

-- the output has grown by a prefix of the text
abbrev pub AppendsFront : Option (List ℕ) → Option (List ℕ) → List ℕ → Type 0
AppendsFront old new text = (count : ℕ) × Appends old new (take count text)

-- all of the text was written, or a prefix of it before an error
pub record WritesText {W T E : Type 0} (text : List ℕ) (contents : W → Option (List ℕ)) (old new : W)
    (result : Result T E) : Type 0 where
  pub ok : OnOk result (Appends (contents old) (contents new) text)
  pub err : OnErr result (AppendsFront (contents old) (contents new) text)

-- the output has grown by such a text
abbrev pub Prints : (List ℕ → Type 0) → Option (List ℕ) → Option (List ℕ) → Type 0
Prints IsText old new = (text : List ℕ) × IsText text × Appends old new text

-- the output has grown by a prefix of such a text
abbrev pub PrintsFront : (List ℕ → Type 0) → Option (List ℕ) → Option (List ℕ) → Type 0
PrintsFront IsText old new = (text : List ℕ) × IsText text × AppendsFront old new text

-- a prefix of the text is written, and the rest is held
pub record IsUnderway (text : List ℕ) (old new : Option (List ℕ)) (held : List ℕ) : Type 0 where
  pub written : List ℕ
  pub appended : Appends old new written
  pub whole : text ≡ written ++ held

-- ---- runs that write one text at their end

-- The text is made of all of the input; if that is unknown, of some bytes.
abbrev pub FromInput : (List ℕ → List ℕ → Type 0) → Option (List ℕ) → List ℕ → Type 0
FromInput IsMade input text = (bytes : List ℕ) × IfSome input (λ known. bytes ≡ known) × IsMade bytes text

-- all of the text is written, or a prefix if writing fails, and after any other failure nothing
pub record LeavesText {W T : Type 0} (IsText : List ℕ → Type 0) (contents : W → Option (List ℕ))
    (old new : W) (result : Result T Failure) : Type 0 where
  pub prints : OnOk result (Prints IsText (contents old) (contents new))
  pub breaks_off : IsErrOf result Output → PrintsFront IsText (contents old) (contents new)
  pub silent : IsErr result → ¬ IsErrOf result Output → new ≡ old

-- all of the input is read before anything is written
pub record ReadsAll {T : Type 0} (left : Option (List ℕ)) (result : Result T Failure) : Type 0 where
  pub all : OnOk result (IsAtEnd left)
  pub first : IsErrOf result Output → IsAtEnd left
