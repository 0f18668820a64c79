-- What a file system holds, and the results of reading its files.
use Rattle.std.specs.Prelude.{◌≡◌, ◌≢◌, ◌⊎◌, ◌-◌, ℕ, suc, ◌<◌, ◌≤◌, ⊤, List, [], ◌∷◌, Option, Some, EachIndex, codes, length}
use Rattle.std.specs.Prelude.{slice_index_or}
use Rattle.std.specs.declared.io.ErrorKind.{ErrorKind}
use Rattle.std.specs.declared.io.ErrorKind.TheVariants.{NotFound, OutOfMemory}
use Rattle.command_line.specs.Failures.{Failure, File, Memory}

-- What is at a path: a file with these bytes, no file that can be opened, for this cause, or nobody knows.
pub data AtPath : Type 0 where
  Bytes : List ℕ → AtPath
  Fails : ErrorKind → AtPath
  Unknown : AtPath

-- opening a file there can give a reader that has these bytes left
abbrev pub Opens : AtPath → Option (List ℕ) → Type 0
Opens (Bytes bytes) left = left ≡ Some bytes
Opens (Fails cause) left = ⊥
Opens Unknown left = ⊤

-- opening or reading it can fail for this cause
abbrev pub FailsWith : AtPath → ErrorKind → Type 0
FailsWith (Bytes bytes) cause = ⊥
FailsWith (Fails known) cause = cause ≡ known
FailsWith Unknown cause = ⊤

-- reading it to its end can give these contents
abbrev pub Gives : AtPath → List ℕ → Type 0
Gives (Bytes bytes) contents = contents ≡ bytes
Gives (Fails cause) contents = ⊥
Gives Unknown contents = ⊤

-- reading it can succeed
abbrev pub MayRead : AtPath → Type 0
MayRead (Bytes bytes) = ⊤
MayRead (Fails cause) = ⊥
MayRead Unknown = ⊤

-- the contents of all files, in the order of their paths
abbrev pub AreRead : (List ℕ → AtPath) → List (List ℕ) → List (List ℕ) → Type 0
AreRead at paths contents = (length contents ≡ length paths)
    × EachIndex paths (λ k. Gives (at (slice_index_or paths k [])) (slice_index_or contents k []))

-- The file with this number, from 1, is the first that can't be read, for this cause. Too little memory is no cause.
pub record IsFirstUnread (at : List ℕ → AtPath) (paths : List (List ℕ)) (number : ℕ) (cause : ErrorKind) : Type 0 where
  pub from_one : 0 < number
  pub within : number ≤ length paths
  pub fails : FailsWith (at (slice_index_or paths (number - 1) [])) cause
  pub before : (k : ℕ) → suc k < number → MayRead (at (slice_index_or paths k []))
  pub no_memory : cause ≢ OutOfMemory

-- A failure of a file is that of the first that can't be read.
abbrev pub NamesFile : (List ℕ → AtPath) → List (List ℕ) → Failure → Type 0
NamesFile at paths (File number cause) = IsFirstUnread at paths number cause
NamesFile at paths _ = ⊤

-- The file with this number can't be read, given what is at its path, or memory ran out.
abbrev pub IsOfNumber : AtPath → ℕ → Failure → Type 0
IsOfNumber held number (File named cause) = (named ≡ number) × FailsWith held cause × (cause ≢ OutOfMemory)
IsOfNumber held number Memory = ⊤
IsOfNumber held number _ = ⊥

-- ---- the default mailmap

-- where git looks for a mailmap, in the current folder
abbrev pub default_path : List ℕ
default_path = codes ".mailmap"

-- the content of the file there; none if there is no file
abbrev pub IsDefault : AtPath → List (List ℕ) → Type 0
IsDefault held contents = ((file : List ℕ) × Gives held file × (contents ≡ file ∷ []))
    ⊎ (FailsWith held NotFound × (contents ≡ []))

-- The file is there and can't be read, or memory ran out.
abbrev pub FailsForDefault : AtPath → Failure → Type 0
FailsForDefault held (File number cause) = IsOfNumber held 1 (File number cause) × (cause ≢ NotFound)
FailsForDefault held Memory = ⊤
FailsForDefault held _ = ⊥
