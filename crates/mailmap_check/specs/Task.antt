-- What the arguments of `mailmap_check` ask for, and what it writes.
use Rattle.std.specs.Prelude.{◌≡◌, ◌⊎◌, ⊤, List, [], ◌∷◌, if◌then◌else◌, Option, None, Some, Result, Err, IfErr, codes, map, option_map}
use Rattle.std.specs.Borrow.{Bor}
use Rattle.std.specs.Str.{bytes_eq}
use Rattle.mailmap_snapshot.specs.Contacts.{answers_by}
use Rattle.mailmap_snapshot.specs.Folding.{Text}
use Rattle.mailmap_snapshot.specs.Parts.{IsSplit}
use Rattle.mailmap_snapshot.specs.Writing.{IsCompacted}
use Rattle.command_line.specs.Answering.{LeavesLines}
use Rattle.command_line.specs.Failures.{IsOfFile}
use Rattle.command_line.specs.declared.failure.Failure.{Failure}
use Rattle.command_line.specs.declared.failure.Failure.TheVariants.{File, GitLog, Input, Memory}
use Rattle.command_line.specs.Files.{AreRead, AtPath, NamesFile}
use Rattle.command_line.specs.Printing.{FromInput, LeavesText, ReadsAll}
use Rattle.mailmap_check.specs.declared.task.Mode.{Mode}
use Rattle.mailmap_check.specs.declared.task.Mode.TheVariants.{Answer, Compact}

-- The mode and the paths, by all arguments, of which the first is the program's own name.
abbrev pub asked : List Text → Mode × List Text
asked (program ∷ first ∷ paths) = if bytes_eq first (codes "--compact") then (Compact, paths) else (Answer, first ∷ paths)
asked _ = (Answer, [])

-- the bytes of the files, if there are files
abbrev pub file_bytes : Option (Bor (List (Bor Text))) → Option (List Text)
file_bytes files = option_map (λ given. map (λ file. file.now) given.now) files

-- the text answers the contacts after the mailmap in these bytes
abbrev pub AnswersSplit : Text → Text → Type 0
AnswersSplit bytes text =
    (mailmap contacts : Text) × IsSplit bytes mailmap contacts × (text ≡ answers_by (mailmap ∷ []) contacts)

-- What each mode leaves. With files, it answers the lines of the input as they come, or writes the files as one mailmap
-- and reads no input. Without, it reads all of the input, which has the mailmap, and then writes.
abbrev pub Leaves : {R W T : Type 0} → Mode → Option (List Text) → (R → Option Text) → (W → Option Text)
    → R → R → W → W → Result T Failure → Type 0
Leaves Answer (Some files) remaining contents input left old new result =
    LeavesLines (answers_by files) (remaining input) (remaining left) (contents old) (contents new) result
Leaves Compact (Some files) remaining contents input left old new result =
    (left ≡ input) × LeavesText (IsCompacted files) contents old new result
Leaves Answer None remaining contents input left old new result = ReadsAll (remaining left) result
    × LeavesText (FromInput AnswersSplit (remaining input)) contents old new result
Leaves Compact None remaining contents input left old new result = ReadsAll (remaining left) result
    × LeavesText (FromInput (λ bytes. IsCompacted (bytes ∷ [])) (remaining input)) contents old new result

-- A file can't be read, or memory runs out, before anything else is read or written.
pub record StopsAtFiles {R W T : Type 0} (input left : R) (old new : W) (result : Result T Failure) : Type 0 where
  pub failure : Failure
  pub fails : result ≡ Err failure
  pub at_files : IsOfFile failure ⊎ (failure ≡ Memory)
  pub unread : left ≡ input
  pub silent : new ≡ old

-- what a task leaves, by its mode and the paths of its files
abbrev pub LeavesBy : {R W T : Type 0} → (Text → AtPath) → Mode → List Text → (R → Option Text) → (W → Option Text)
    → R → R → W → W → Result T Failure → Type 0
LeavesBy at mode [] remaining contents input left old new result =
    Leaves mode None remaining contents input left old new result
LeavesBy at mode (path ∷ paths) remaining contents input left old new result = StopsAtFiles input left old new result
    ⊎ ((files : List Text) × AreRead at (path ∷ paths) files × IfErr result (λ e. ¬ IsOfFile e)
    × Leaves mode (Some files) remaining contents input left old new result)

-- A mode can fail in this way, with files or without. The file that is named is the first that can't be read.
abbrev pub FailsFor : (Text → AtPath) → Mode → List Text → Failure → Type 0
FailsFor at mode paths (File number cause) = NamesFile at paths (File number cause)
FailsFor at mode paths (Input cause) = (mode ≡ Answer) ⊎ (paths ≡ [])
FailsFor at mode paths GitLog = ⊥
FailsFor at mode paths _ = ⊤
