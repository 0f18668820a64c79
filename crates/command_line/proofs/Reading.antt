-- An input that was read to its end.
use Rattle.std.proofs.Common.{◌≡◌, ◌∙◌, ℕ, List, ◌++◌, Option, None, Some, IfSome, ap, append-nil, sym}
use Rattle.std.specs.Io.KnownBytes.{Consumes, IsAtEnd}

-- at the end, everything was read
pub all_given : (before now : Option (List ℕ)) (bytes : List ℕ) → Consumes before now bytes → IsAtEnd now → IfSome before (λ all. bytes ≡ all)
all_given None now bytes consumed end = tt
all_given (Some x) None bytes consumed end = absurd consumed
all_given (Some x) (Some y) bytes consumed end = sym (consumed ∙ ap (λ l. bytes ++ l) end ∙ append-nil bytes)
