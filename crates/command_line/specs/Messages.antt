-- Error messages of the programs.
use Rattle.std.specs.Prelude.{ℕ, ◌-◌, List, [], ◌∷◌, ◌++◌, Result, Ok, Err, codes, slice_index_or}
use Rattle.std.specs.Global.{Vec}
use Rattle.std.specs.declared.io.ErrorKind.{ErrorKind}
use Rattle.std.specs.declared.io.ErrorKind.TheVariants as kind
use Rattle.shown_text.specs.Shown.{shown}
use Rattle.command_line.specs.Failures.{Failure, File, GitLog, Input, Memory, Output}

abbrev pub cause_text : ErrorKind → List ℕ
cause_text cause = elim cause [
  | kind.NotFound ↦ codes "No such file or directory"
  | kind.PermissionDenied ↦ codes "Permission denied"
  | kind.IsADirectory ↦ codes "Is a directory"
  | kind.NotADirectory ↦ codes "Not a directory"
  | kind.InvalidFilename ↦ codes "File name too long"
  | kind.FilesystemLoop ↦ codes "Too many levels of symbolic links"
  | kind.OutOfMemory ↦ codes "out of memory"
  | kind.InvalidData ↦ codes "the name is not UTF-8"
  | _ ↦ codes "cannot be read"
]

-- a file is named by its path, with escapes
abbrev pub failure_text : List (List ℕ) → Failure → List ℕ
failure_text paths (File number cause) = shown (slice_index_or paths (number - 1) []) ++ codes ": " ++ cause_text cause
failure_text paths (Input cause) = codes "standard input: " ++ cause_text cause
failure_text paths GitLog = codes "the contacts are git log's own format: use git log --format='%an <%ae>'"
failure_text paths Memory = codes "out of memory"
failure_text paths Output = codes "cannot write output"

-- a program's message
abbrev pub program_message : List ℕ → List ℕ → List ℕ
program_message program text = program ++ codes ": " ++ text ++ 10 ∷ []

-- the messages, or the other text if there was no memory to make them
abbrev pub messages_or : {E : Type 0} → Result (Vec ℕ) E → List ℕ → List ℕ
messages_or (Ok lines) without = lines.items
messages_or (Err e) without = without
