-- What each request makes `mailmap_verify` print, and how it can fail.
use Rattle.std.specs.Prelude.{◌≡◌, ◌⊎◌, ◌<◌, ⊤, Bool, true, false, length, List, [], ◌∷◌, ◌++◌, Option, Some, None, IfErr, IfOk, IfSome, Result, codes, if◌then◌else◌}
use Rattle.std.specs.List.{list_any}
use Rattle.std.specs.Result.{IsErr, IsErrOf}
use Rattle.std.specs.declared.io.ErrorKind.{ErrorKind}
use Rattle.mailmap_entries.specs.Folding.{Text}
use Rattle.mailmap_findings.specs.Findings.{AreFindings, IsPruned, Finding, first_read_otherwise}
use Rattle.mailmap_findings.specs.Positions.{whole_lines}
use Rattle.mailmap_findings.specs.Remarks.{AreRemarks, Remark}
use Rattle.mailmap_suggestions.specs.ContactFindings.{AreContactFindings, ContactFinding}
use Rattle.mailmap_suggestions.specs.Printed.{IsSuggested}
use Rattle.command_line.specs.Answering.{AnswersAll, AnswersAllRead, AnswersRead}
use Rattle.command_line.specs.Failures.{IsOfFile}
use Rattle.command_line.specs.declared.failure.Failure.{Failure}
use Rattle.command_line.specs.declared.failure.Failure.TheVariants.{File, GitLog, Input, Memory, Output}
use Rattle.command_line.specs.Files.{AreRead, AtPath, Bytes, Fails, FailsForDefault, Gives, IsDefault, NamesFile, Unknown, default_path}
use Rattle.command_line.specs.Printing.{Prints, PrintsFront}
pub use Rattle.command_line.specs.GitLog.{IsLog, is_git_log}
use Rattle.command_line.specs.declared.TheConstants.{VERSION}
use Rattle.command_line.specs.declared.outcome.Outcome.{Outcome}
use Rattle.command_line.specs.declared.outcome.Outcome.TheVariants.{Clean, Found}
pub use Rattle.verify_command.specs.Arguments.{Wanted, contacts_name, is_dash, reads_contacts, reads_default, reads_mailmap, takes_contacts, wanted_of}
use Rattle.mailmap_report.specs.Explained.{Explains}
use Rattle.mailmap_report.specs.Report.{Piece, pieces_beside, report_pieces, text_of}
use Rattle.mailmap_report.specs.Settings.{mailmap_names}
use Rattle.verify_command.specs.declared.failure.TaskFailure.{TaskFailure}
use Rattle.verify_command.specs.declared.failure.TaskFailure.TheVariants.{Run, Contacts as NoContacts, TooManyFiles, ReadOtherwise, Unreplaced}
use Rattle.verify_command.specs.InPlace.{FailsInPlace, PrunesFiles, Replaced}
use Rattle.verify_command.specs.declared.asked.Mode.{Mode}
use Rattle.verify_command.specs.declared.asked.Mode.TheVariants.{Help, Version, Verify, Prune, PruneInPlace, Explain, Contacts, Suggest}
use Rattle.verify_command.specs.declared.asked.TheConstants.{USAGE}

-- ---- what is read

-- standard input has the contacts or the one mailmap
abbrev pub ReadsInput : Wanted → Type 0
ReadsInput w = (reads_contacts w.mode w.contacts ≡ true) ⊎ (reads_mailmap w ≡ true)

-- The mailmaps are the contents of the files at the paths; by default, with contacts, that of the file there, if there is
-- one.
abbrev pub AreInFiles : (Text → AtPath) → Wanted → List Text → Type 0
AreInFiles at w mailmaps = (reads_default w ≡ false → AreRead at w.paths mailmaps)
    × (reads_default w ≡ true → IsDefault (at default_path) mailmaps)

-- The mailmaps are in files, or all of the input is the one mailmap.
abbrev pub AreMailmaps : (Text → AtPath) → Option Text → Wanted → List Text → Type 0
AreMailmaps at input w mailmaps = (reads_mailmap w ≡ false → AreInFiles at w mailmaps)
    × (reads_mailmap w ≡ true → (mailmap : Text) × (mailmaps ≡ mailmap ∷ []) × IfSome input (λ bytes. mailmap ≡ bytes))

-- The text is the content of the file of contacts, or the input.
abbrev pub AreContacts : (Text → AtPath) → Text → Option Text → Text → Type 0
AreContacts at contacts input text = (is_dash contacts ≡ true → IfSome input (λ bytes. text ≡ bytes))
    × (is_dash contacts ≡ false → Gives (at contacts) text)

-- whether the contacts of a file, if they are known, are git log's own format
abbrev pub IsLogIn : AtPath → Bool → Type 0
IsLogIn (Bytes bytes) is_log = is_git_log bytes ≡ is_log
IsLogIn (Fails cause) is_log = ⊥
IsLogIn Unknown is_log = ⊤

-- the same of the contacts in a file or on the input
abbrev pub AreLog : (Text → AtPath) → Text → Option Text → Bool → Type 0
AreLog at contacts input is_log = (is_dash contacts ≡ true → IsLog input is_log)
    × (is_dash contacts ≡ false → IsLogIn (at contacts) is_log)

-- the same of the contacts of a mode, if it has some
abbrev pub HasLog : Mode → (Text → AtPath) → Text → Option Text → Bool → Type 0
HasLog Explain at contacts input = IsLog input
HasLog Contacts at contacts input = AreLog at contacts input
HasLog Suggest at contacts input = AreLog at contacts input
HasLog mode at contacts input = λ is_log. is_log ≡ false

-- ---- the text of each mode, with its outcome

-- this text, in which nothing is found
abbrev pub IsKnown : Text → Outcome → Text → Type 0
IsKnown known outcome text = (text ≡ known) × (outcome ≡ Clean)

abbrev pub version_line : Text
version_line = codes "mailmap_verify " ++ VERSION.now ++ 10 ∷ []

-- `Found` if a piece counts
abbrev pub outcome_of : List Piece → Outcome
outcome_of pieces = if list_any (λ p. p.counts) pieces then Found else Clean

-- this is the text of the pieces, and their outcome
abbrev pub Says : Outcome → Text → List Piece → Type 0
Says outcome text pieces = (text ≡ text_of pieces) × (outcome ≡ outcome_of pieces)

-- The text has a line for each finding in the mailmaps that is reported, and nothing else, and the outcome tells
-- whether one of them counts.
abbrev pub IsReport : Wanted → List Text → Outcome → Text → Type 0
IsReport w mailmaps outcome text = (findings : List Finding) × AreFindings mailmaps findings
    × Says outcome text (report_pieces w.choices (mailmap_names w.choices w.paths) findings)

-- The text is the report of the mailmaps with these contacts, followed by the findings about the contacts.
abbrev pub IsReportBeside : Wanted → List Text → Text → Outcome → Text → Type 0
IsReportBeside w mailmaps contacts outcome text = (remarks : List Remark) × (found : List ContactFinding)
    × AreRemarks mailmaps contacts remarks × AreContactFindings mailmaps (whole_lines contacts) found
    × Says outcome text (pieces_beside w.choices (mailmap_names w.choices w.paths) (contacts_name w) remarks found)

-- The text is the one mailmap without its lines that have no effect; git reads each of its lines alike.
abbrev pub IsPrunedFrom : List Text → Outcome → Text → Type 0
IsPrunedFrom mailmaps outcome text = (mailmap : Text) × (mailmaps ≡ mailmap ∷ []) × IsPruned mailmap text
    × (first_read_otherwise mailmaps ≡ None) × (outcome ≡ Clean)

-- the text is made from the mailmaps
abbrev pub FromMailmaps : (List Text → Outcome → Text → Type 0) → (Text → AtPath) → Option Text → Wanted → Outcome → Text
    → Type 0
FromMailmaps IsMade at input w outcome text =
    (mailmaps : List Text) × AreMailmaps at input w mailmaps × IsMade mailmaps outcome text

-- the text is made from the contacts
abbrev pub FromContacts : (Text → Outcome → Text → Type 0) → (Text → AtPath) → Text → Option Text → Outcome → Text → Type 0
FromContacts IsMade at contacts input outcome text =
    (lines : Text) × AreContacts at contacts input lines × IsMade lines outcome text

-- the text is made from the mailmaps and the contacts
abbrev pub WithContacts : (List Text → Text → Outcome → Text → Type 0) → (Text → AtPath) → Option Text → Wanted → Outcome
    → Text → Type 0
WithContacts IsMade at input w =
    FromMailmaps (λ mailmaps. FromContacts (IsMade mailmaps) at w.contacts input) at input w

-- The text has the lines that the mailmaps lack for the contacts, and can be appended to the last mailmap.
abbrev pub AreSuggested : List Text → Text → Outcome → Text → Type 0
AreSuggested mailmaps lines outcome text = IsSuggested mailmaps (whole_lines lines) text × (outcome ≡ Clean)

-- The text is made of explanations with the mailmaps in the files at these paths.
abbrev pub ExplainsBy : (Text → AtPath) → List Text → ((Text → Text) → Text → Type 0) → Text → Type 0
ExplainsBy at paths IsText text = (mailmaps : List Text) × AreRead at paths mailmaps × Explains paths mailmaps IsText text

-- ---- failures

-- a file of a mailmap can't be read
abbrev pub IsOfMailmap : TaskFailure → Type 0
IsOfMailmap (Run failure) = IsOfFile failure
IsOfMailmap _ = ⊥

-- memory runs out, or writing fails
abbrev pub EndsPrinting : TaskFailure → Type 0
EndsPrinting (Run Memory) = ⊤
EndsPrinting (Run Output) = ⊤
EndsPrinting _ = ⊥

-- Explaining the contacts on the input can fail in this way.
abbrev pub FailsToExplain : Option Text → TaskFailure → Type 0
FailsToExplain input (Run (Input cause)) = ⊤
FailsToExplain input (Run GitLog) = IsLog input true
FailsToExplain input failure = EndsPrinting failure

-- if the file is known to fail, this is the cause
abbrev pub HasCause : AtPath → ErrorKind → Type 0
HasCause (Fails known) cause = cause ≡ known
HasCause _ cause = ⊤

-- The failure is that of the first file of a mailmap that can't be read. The default one may be missing with contacts.
abbrev pub NamesMailmap : (Text → AtPath) → Wanted → Failure → Type 0
NamesMailmap at w failure = (reads_default w ≡ false → NamesFile at w.paths failure)
    × (reads_default w ≡ true → FailsForDefault (at default_path) failure)

-- Reading the mailmaps can fail in this way.
abbrev pub FailsToRead : (Text → AtPath) → Wanted → Failure → Type 0
FailsToRead at w (File number cause) = (reads_mailmap w ≡ false) × NamesMailmap at w (File number cause)
FailsToRead at w (Input cause) = reads_mailmap w ≡ true
FailsToRead at w Memory = ⊤
FailsToRead at w _ = ⊥

-- Reading the contacts can fail in this way.
abbrev pub FailsForContacts : (Text → AtPath) → Text → Option Text → TaskFailure → Type 0
FailsForContacts at contacts input (Run (Input cause)) = is_dash contacts ≡ true
FailsForContacts at contacts input (Run GitLog) = AreLog at contacts input true
FailsForContacts at contacts input (Run Memory) = ⊤
FailsForContacts at contacts input (NoContacts cause) = (is_dash contacts ≡ false) × HasCause (at contacts) cause
FailsForContacts at contacts input _ = ⊥

-- Pruning the mailmap can fail in this way. The position is that of the first line that git reads in another way.
abbrev pub FailsToPrune : List Text → TaskFailure → Type 0
FailsToPrune mailmaps (ReadOtherwise position) =
    (length mailmaps ≡ 1) × (first_read_otherwise mailmaps ≡ Some position)
FailsToPrune mailmaps failure = EndsPrinting failure

-- Such a request can fail in this way. A file that can't be read is named by its number among the paths, from 1. The
-- contacts are read after the mailmaps.
abbrev pub FailsFor : (Text → AtPath) → Option Text → Wanted → TaskFailure → Type 0
FailsFor at input w (Run (File number cause)) = NamesMailmap at w (File number cause)
FailsFor at input w (Run (Input cause)) = ReadsInput w
FailsFor at input w (Run GitLog) = HasLog w.mode at w.contacts input true
FailsFor at input w (Run _) = ⊤
FailsFor at input w TooManyFiles = (w.mode ≡ Prune) × (1 < length w.paths)
FailsFor at input w (NoContacts cause) = (mailmaps : List Text) × AreMailmaps at input w mailmaps
    × (takes_contacts w.mode ≡ true) × FailsForContacts at w.contacts input (NoContacts cause)
FailsFor at input w (ReadOtherwise position) = ((w.mode ≡ PruneInPlace) × FailsInPlace at w.paths (ReadOtherwise position))
    ⊎ ((mailmaps : List Text) × AreMailmaps at input w mailmaps
    × (w.mode ≡ Prune) × FailsToPrune mailmaps (ReadOtherwise position))
FailsFor at input w (Unreplaced index cause) = w.mode ≡ PruneInPlace

-- ---- what a run has written

-- a prefix of a text
abbrev pub BreaksOff : (Outcome → Text → Type 0) → Option Text → Option Text → Type 0
BreaksOff IsText before after = (outcome : Outcome) × PrintsFront (IsText outcome) before after

-- What a run has written when it ends: a text with its outcome. If writing fails, that is a prefix of one; so it may be
-- if memory runs out, if the text is printed in pieces. After any other failure nothing is written.
pub record Leaves {W : Type 0} (in_pieces : Bool) (IsText : Outcome → Text → Type 0) (contents : W → Option Text)
    (old new : W) (result : Result Outcome TaskFailure) : Type 0 where
  pub prints : IfOk result (λ outcome. Prints (IsText outcome) (contents old) (contents new))
  pub breaks_off : IsErrOf result (Run Output) → BreaksOff IsText (contents old) (contents new)
  pub memory : IsErrOf result (Run Memory)
      → (new ≡ old) ⊎ ((in_pieces ≡ true) × BreaksOff IsText (contents old) (contents new))
  pub silent : IsErr result → ¬ IsErrOf result (Run Output) → ¬ IsErrOf result (Run Memory) → new ≡ old

-- What explaining contacts has written: all explanations, or a prefix of them if writing fails. If the input fails, that
-- is the explanations of all whole lines that were read; if memory runs out, of the first of them. `unread` is the input
-- before, and `left` after.
pub record LeavesExplained {W : Type 0} (at : Text → AtPath) (paths : List Text) (unread left : Option Text)
    (contents : W → Option Text) (old new : W) (result : Result Outcome TaskFailure) : Type 0 where
  pub prints : IfOk result (λ outcome. Prints (ExplainsBy at paths (λ answers. AnswersAll answers unread))
      (contents old) (contents new) × (outcome ≡ Clean))
  pub breaks_off : IsErrOf result (Run Output)
      → PrintsFront (ExplainsBy at paths (λ answers. AnswersAll answers unread)) (contents old) (contents new)
  pub input_fails : (cause : ErrorKind) → IsErrOf result (Run (Input cause))
      → Prints (ExplainsBy at paths (λ answers. AnswersAllRead answers unread left)) (contents old) (contents new)
  pub memory_fails : IsErrOf result (Run Memory) → (new ≡ old)
      ⊎ Prints (ExplainsBy at paths (λ answers. AnswersRead answers unread left)) (contents old) (contents new)
  pub silent : IfErr result (λ e. IsOfMailmap e ⊎ (e ≡ Run GitLog) → new ≡ old)

-- What a run in each mode has written. `unread` is standard input before, and `left` after.
abbrev pub LeavesFor : {W : Type 0} → Mode → (Text → AtPath) → Option Text → Option Text → Wanted → (W → Option Text)
    → W → W → Result Outcome TaskFailure → Type 0
LeavesFor Help at unread left w = Leaves false (IsKnown USAGE.now)
LeavesFor Version at unread left w = Leaves false (IsKnown version_line)
LeavesFor Verify at unread left w = Leaves true (FromMailmaps (IsReport w) at unread w)
LeavesFor Prune at unread left w = Leaves false (FromMailmaps IsPrunedFrom at unread w)
LeavesFor PruneInPlace at unread left w = Leaves false (IsKnown [])
LeavesFor Explain at unread left w = LeavesExplained at w.paths unread left
LeavesFor Contacts at unread left w = Leaves true (WithContacts (IsReportBeside w) at unread w)
LeavesFor Suggest at unread left w = Leaves true (WithContacts AreSuggested at unread w)

-- Which files a run in each mode has replaced: `has` says which were replaced.
abbrev pub ReplacesFor : {D : Type 0} → Mode → (D → List Replaced → Type 0) → (Text → AtPath) → Wanted → D → D
    → Result Outcome TaskFailure → Type 0
ReplacesFor PruneInPlace has at w old new result = PrunesFiles has at w.paths old new result
ReplacesFor mode has at w old new result = new ≡ old
