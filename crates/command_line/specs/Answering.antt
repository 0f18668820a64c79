-- Answers to the lines of an input, which are written while it is read.
use Rattle.std.specs.Prelude.{◌≡◌, ◌++◌, ℕ, List, Option, Result, IfErr, OnOk}
use Rattle.std.specs.Io.KnownBytes.{Consumes, IsAtEnd}
use Rattle.std.specs.Result.{IsErrOf}
use Rattle.mailmap_grammar.specs.LineParts.{AnswersFront, EndsLine}
use Rattle.mailmap_grammar.specs.Lines.{HoldsNo}
use Rattle.command_line.specs.Failures.{Failure, IsOfInput, Memory, Output}
use Rattle.command_line.specs.Printing.{FromInput, Prints, PrintsFront}

-- the text answers whole lines at the start of the bytes, whatever follows them
abbrev pub AnswersSome : (List ℕ → List ℕ) → List ℕ → List ℕ → Type 0
AnswersSome answers bytes text = (rest : List ℕ) × AnswersFront answers bytes text rest

-- What answering these bytes has written at a failure: if memory runs out the answers to the first lines, and if writing
-- fails a prefix of such answers.
abbrev pub StopsIn : (List ℕ → List ℕ) → List ℕ → Option (List ℕ) → Option (List ℕ) → Failure → Type 0
StopsIn answers bytes old new Memory = Prints (AnswersSome answers bytes) old new
StopsIn answers bytes old new Output = PrintsFront (AnswersSome answers bytes) old new
StopsIn answers bytes old new _ = ⊥

-- the text answers all lines of the input
abbrev pub AnswersAll : (List ℕ → List ℕ) → Option (List ℕ) → List ℕ → Type 0
AnswersAll answers = FromInput (λ lines text. text ≡ answers lines)

-- the text answers whole lines at the start of what was read from the input
abbrev pub AnswersRead : (List ℕ → List ℕ) → Option (List ℕ) → Option (List ℕ) → List ℕ → Type 0
AnswersRead answers unread left text = (read : List ℕ) × Consumes unread left read × AnswersSome answers read text

-- whole lines were read, and after them a partial line
pub record HasRead (unread left : Option (List ℕ)) (lines partial : List ℕ) : Type 0 where
  pub consumed : Consumes unread left (lines ++ partial)
  pub ends : EndsLine lines
  pub no_feed : HoldsNo 10 partial

-- the text answers all whole lines that were read
abbrev pub AnswersAllRead : (List ℕ → List ℕ) → Option (List ℕ) → Option (List ℕ) → List ℕ → Type 0
AnswersAllRead answers unread left text = (lines rest : List ℕ) × HasRead unread left lines rest × (text ≡ answers lines)

-- A run that answers while it reads has written all answers, and has read all of the input. If writing fails, it has
-- written a prefix of them; if reading fails, the answers to all whole lines that were read; if memory runs out, to the
-- first of them.
pub record LeavesLines {T : Type 0} (answers : List ℕ → List ℕ) (unread left old new : Option (List ℕ))
    (result : Result T Failure) : Type 0 where
  pub prints : OnOk result (Prints (AnswersAll answers unread) old new)
  pub reads_all : OnOk result (IsAtEnd left)
  pub breaks_off : IsErrOf result Output → PrintsFront (AnswersAll answers unread) old new
  pub input_fails : IfErr result (λ e. IsOfInput e → Prints (AnswersAllRead answers unread left) old new)
  pub memory_fails : IsErrOf result Memory → Prints (AnswersRead answers unread left) old new
