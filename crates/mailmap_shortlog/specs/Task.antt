-- The arguments of `mailmap_shortlog`, and what each task prints.
use Rattle.std.specs.Prelude.{◌==◌, ◌&&◌, ◌||◌, ⊤, ℕ, Bool, true, false, if◌then◌else◌, nat_lt, IsTrue, List, [], ◌∷◌, ◌++◌, Option, Result, Ok, Err, IfErr, IfSome, IsFalse, None, Some, ◌+◌, ◌≡◌, codes, decimal, drop, length, not, slice_index}
use Rattle.std.specs.List.{list_all, list_any}
use Rattle.std.specs.Str.{bytes_eq}
use Rattle.bstr.specs.Text.{lines_of}
use Rattle.mailmap_snapshot.specs.Folding.{Text}
use Rattle.command_line.specs.Files.{AreRead, AtPath, FailsForDefault, IsDefault, NamesFile, default_path}
use Rattle.mailmap_entries.specs.Texts.{texts}
use Rattle.command_line.specs.declared.TheConstants.{VERSION}
use Rattle.command_line.specs.Failures.{IsOfFile}
use Rattle.command_line.specs.declared.failure.Failure.{Failure}
use Rattle.command_line.specs.declared.failure.Failure.TheVariants.{File, GitLog, Input}
use Rattle.command_line.specs.Printing.{FromInput, ReadsAll}
use Rattle.mailmap_contacts.specs.Contacts.{no_contacts_from}
use Rattle.command_line.specs.GitLog.{IsLog}
use Rattle.mailmap_shortlog.specs.Shortlog.{IsShortlog, answers_counted}
use Rattle.mailmap_shortlog.specs.declared.task.Mode.{Mode}
use Rattle.mailmap_shortlog.specs.declared.task.Mode.TheVariants.{Help, Version, Shortlog}
use Rattle.mailmap_shortlog.specs.declared.task.Options.{Options}
use Rattle.mailmap_shortlog.specs.declared.task.Skipped.{Skipped}
use Rattle.mailmap_shortlog.specs.declared.task.Task.{Task}
use Rattle.mailmap_shortlog.specs.declared.task.UnknownOption.{UnknownOption}
use Rattle.mailmap_shortlog.specs.declared.task.TheConstants.{USAGE}

-- ---- parsing arguments

-- the mode and the paths, or the unknown option
abbrev pub asked_of : Result Task UnknownOption → Result (Mode × List Text) Text
asked_of (Ok t) = Ok (t.mode, texts t.paths.now)
asked_of (Err option) = Err option.0.now

-- an argument that starts with `-` and is longer than that
abbrev pub is_dashed : Text → Bool
is_dashed argument = slice_index argument 0 == 45 && nat_lt 1 (length argument)

-- `n`, `e` or `s`
abbrev pub is_option : ℕ → Bool
is_option letter = letter == 110 || letter == 101 || letter == 115

abbrev pub no_options : Options
no_options = record { by_count = false; with_email = false }

-- adds the options in an argument: `-n` sorts by count, and `-e` counts by emails, too
abbrev pub options_with : Options → Text → Options
options_with options argument = record {
  by_count = options.by_count || list_any (λ letter. letter == 110) argument;
  with_email = options.with_email || list_any (λ letter. letter == 101) argument;
}

-- what these arguments ask for, after earlier ones that gave the options
abbrev pub asked : Options → List Text → Result (Mode × List Text) Text
asked options [] = Ok (Shortlog options, [])
asked options (argument ∷ rest) = if bytes_eq argument (codes "--") then Ok (Shortlog options, rest)
    else if bytes_eq argument (codes "-h") || bytes_eq argument (codes "--help") then Ok (Help, [])
    else if bytes_eq argument (codes "--version") then Ok (Version, [])
    else if not (is_dashed argument) then Ok (Shortlog options, argument ∷ rest)
    else if list_all is_option (drop 1 argument) then asked (options_with options argument) rest
    else Err argument

-- ---- the output of a task

-- contacts are counted, so the mailmaps and standard input are read
abbrev pub counts_contacts : Mode → Bool
counts_contacts Help = false
counts_contacts Version = false
counts_contacts (Shortlog options) = true

-- the contents of the files at the paths, or without a path that of the default mailmap, if it is there
abbrev pub AreMailmaps : (Text → AtPath) → List Text → List Text → Type 0
AreMailmaps at [] mailmaps = IsDefault (at default_path) mailmaps
AreMailmaps at paths mailmaps = AreRead at paths mailmaps

-- the shortlog of all contacts on the input, using the mailmaps at these paths, the usage, or the version
abbrev pub IsAnswer : (Text → AtPath) → Option Text → Mode → List Text → Text → Type 0
IsAnswer at input Help paths text = text ≡ USAGE.now
IsAnswer at input Version paths text = text ≡ codes "mailmap_shortlog " ++ VERSION.now ++ 10 ∷ []
IsAnswer at input (Shortlog options) paths text = (mailmaps : List Text) × AreMailmaps at paths mailmaps
    × FromInput (λ contacts. IsShortlog options.by_count (answers_counted options.with_email mailmaps contacts)) input text

-- For a shortlog all of the input is read, unless a mailmap can't be, and else nothing of it.
pub record Reads {R T : Type 0} (mode : Mode) (remaining : R → Option Text) (input left : R) (result : Result T Failure) : Type 0 where
  pub all : IsTrue (counts_contacts mode) → ReadsAll (remaining left) result
  pub none : IsFalse (counts_contacts mode) → left ≡ input
  pub at_files : IfErr result (λ e. IsOfFile e → left ≡ input)

-- how many lines these are, and the first of them
abbrev pub skipped_of : List ℕ → Option Skipped
skipped_of [] = None
skipped_of (first ∷ rest) = Some (record { count = length rest + 1; first = first })

-- the lines of the input that are neither blank nor contacts, if it is known and not git log's own format
abbrev pub IsSkipped : Option Text → Mode → Option Skipped → Type 0
IsSkipped input (Shortlog options) skipped = IsLog input false
    × IfSome input (λ bytes. skipped ≡ skipped_of (no_contacts_from 1 (lines_of bytes)))
IsSkipped input mode skipped = skipped ≡ None

abbrev pub skipped_line : Skipped → Text
skipped_line s = codes "mailmap_shortlog: lines without a contact: " ++ decimal s.count
    ++ codes "; the first is line " ++ decimal s.first ++ 10 ∷ []

-- The file of this failure is the first mailmap that can't be read. The default one may be missing.
abbrev pub NamesMailmap : (Text → AtPath) → List Text → Failure → Type 0
NamesMailmap at [] failure = FailsForDefault (at default_path) failure
NamesMailmap at paths failure = NamesFile at paths failure

-- Such a task can fail in this way.
abbrev pub FailsFor : (Text → AtPath) → Option Text → Mode → List Text → Failure → Type 0
FailsFor at input mode paths (File number cause) =
    IsTrue (counts_contacts mode) × NamesMailmap at paths (File number cause)
FailsFor at input mode paths (Input cause) = IsTrue (counts_contacts mode)
FailsFor at input mode paths GitLog = IsTrue (counts_contacts mode) × IsLog input true
FailsFor at input mode paths _ = ⊤
