-- The exit status of a program.
use Rattle.std.specs.Prelude.{ℕ, Result, Ok, Err}
use Rattle.command_line.specs.declared.outcome.Outcome.{Outcome}
use Rattle.command_line.specs.declared.outcome.Outcome.TheVariants.{Clean, Found}

-- 0 if nothing is wrong, 1 if there are findings, and 2 after a failure
abbrev pub status_of : {E : Type 0} → Result Outcome E → ℕ
status_of (Ok Clean) = 0
status_of (Ok Found) = 1
status_of (Err failure) = 2
