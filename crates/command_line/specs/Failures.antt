-- Failures by what they concern.
use Rattle.std.specs.Prelude.{◌≡◌, ⊤, Result, Ok, Err}
use Rattle.std.specs.IoError.{error_kind}
use Rattle.std.specs.declared.io.Error.{Error}
use Rattle.std.specs.declared.io.ErrorKind.TheVariants.{BrokenPipe}
pub use Rattle.command_line.specs.declared.failure.Failure.{Failure}
pub use Rattle.command_line.specs.declared.failure.Failure.TheVariants.{File, GitLog, Input, Memory, Output}

abbrev pub IsOfInput : Failure → Type 0
IsOfInput (Input cause) = ⊤
IsOfInput _ = ⊥

abbrev pub IsOfFile : Failure → Type 0
IsOfFile (File number cause) = ⊤
IsOfFile _ = ⊥

-- nobody reads the other end of a pipe
abbrev pub IsBroken : {T : Type 0} → Result T Error → Type 0
IsBroken (Ok value) = ⊥
IsBroken (Err e) = error_kind e ≡ BrokenPipe
