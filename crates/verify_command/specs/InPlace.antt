-- Which files are replaced when mailmaps are pruned in place, and how that can fail.
use Rattle.std.specs.Prelude.{◌≡◌, ◌+◌, ◌++◌, ◌⊎◌, ℕ, ⊤, if◌then◌else◌, List, [], ◌∷◌, None, Some, IfErr, OnErr, OnOk, Result, slice_index_or, take}
use Rattle.std.specs.Str.{bytes_eq}
use Rattle.mailmap_entries.specs.Folding.{Text}
use Rattle.mailmap_findings.specs.Findings.{IsPruned, first_read_otherwise}
use Rattle.command_line.specs.Files.{AreRead, AtPath, NamesFile}
use Rattle.command_line.specs.declared.failure.Failure.TheVariants.{File, Memory}
use Rattle.verify_command.specs.declared.failure.TaskFailure.{TaskFailure}
use Rattle.verify_command.specs.declared.failure.TaskFailure.TheVariants.{ReadOtherwise, Run, Unreplaced}

-- a file that was replaced, and its new text
pub record Replaced : Type 0 where
  pub path : Text
  pub text : Text

-- a file is replaced unless its text stays the same
abbrev pub unless_same : Text → Text → Text → List Replaced
unless_same path old new = if bytes_eq new old then [] else record { path = path; text = new } ∷ []

-- The files of these mailmaps, the first of which is at the path with this index, are replaced by the mailmaps without
-- their lines that have no effect.
abbrev pub ArePruned : List Text → ℕ → List Text → List Replaced → Type 0
ArePruned paths index [] replaced = replaced ≡ []
ArePruned paths index (mailmap ∷ mailmaps) replaced = (text : Text) × (rest : List Replaced) × IsPruned mailmap text
    × ArePruned paths (index + 1) mailmaps rest
    × (replaced ≡ unless_same (slice_index_or paths index []) mailmap text ++ rest)

-- Memory runs out, or the file at the path with this index can't be replaced.
abbrev pub FailsToReplace : ℕ → TaskFailure → Type 0
FailsToReplace index (Run Memory) = ⊤
FailsToReplace index (Unreplaced at cause) = at ≡ index
FailsToReplace index _ = ⊥

-- Exactly these mailmaps are pruned in their files. `Has` says which files were replaced.
abbrev pub Prunes : {D : Type 0} → (D → List Replaced → Type 0) → List Text → List Text → D → D → Type 0
Prunes Has paths mailmaps old new = (before : List Replaced) → Has old before
    → (replaced : List Replaced) × ArePruned paths 0 mailmaps replaced × Has new (before ++ replaced)

-- All of these mailmaps are pruned in their files; after a failure those before it.
pub record PrunesAll {D T : Type 0} (Has : D → List Replaced → Type 0) (paths mailmaps : List Text) (old new : D)
    (result : Result T TaskFailure) : Type 0 where
  pub ok : OnOk result (Prunes Has paths mailmaps old new)
  pub err : IfErr result (λ e. (count : ℕ) × FailsToReplace count e × Prunes Has paths (take count mailmaps) old new)

-- The mailmaps are at these paths, and git reads each of their lines alike.
abbrev pub AreAlike : (Text → AtPath) → List Text → List Text → Type 0
AreAlike at paths mailmaps = AreRead at paths mailmaps × (first_read_otherwise mailmaps ≡ None)

-- The mailmaps at the paths are pruned in their files. After a failure the first of them are, or no file is replaced.
pub record PrunesFiles {D T : Type 0} (Has : D → List Replaced → Type 0) (at : Text → AtPath) (paths : List Text)
    (old new : D) (result : Result T TaskFailure) : Type 0 where
  pub ok : OnOk result ((mailmaps : List Text) × AreAlike at paths mailmaps × PrunesAll Has paths mailmaps old new result)
  pub err : OnErr result ((new ≡ old)
      ⊎ ((mailmaps : List Text) × AreAlike at paths mailmaps × PrunesAll Has paths mailmaps old new result))

-- Pruning in place can fail in this way. The position is that of the first line that git reads in another way.
abbrev pub FailsInPlace : (Text → AtPath) → List Text → TaskFailure → Type 0
FailsInPlace at paths (Run (File number cause)) = NamesFile at paths (File number cause)
FailsInPlace at paths (ReadOtherwise position) =
    (mailmaps : List Text) × AreRead at paths mailmaps × (first_read_otherwise mailmaps ≡ Some position)
FailsInPlace at paths failure = (count : ℕ) × FailsToReplace count failure
