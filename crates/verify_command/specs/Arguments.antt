-- What the arguments of `mailmap_verify` ask for.
use Rattle.std.specs.Prelude.{◌==◌, ◌&&◌, ◌≡◌, ◌+◌, ⊤, ℕ, Bool, true, false, if◌then◌else◌, nat_lt, is_some, length, List, [], ◌∷◌, ◌++◌, Option, Some, None, Result, Ok, Err, codes, drop, not, slice_index, take, unwrap_or}
use Rattle.std.specs.Option.{option_map}
use Rattle.std.specs.Str.{bytes_eq}
use Rattle.bstr.specs.Text.{split_at}
use Rattle.bstr.specs.Find.{first_of, matches}
use Rattle.mailmap_entries.specs.Folding.{Text}
use Rattle.command_line.specs.Files.{default_path}
use Rattle.mailmap_entries.specs.Texts.{texts}
use Rattle.mailmap_report.specs.Kinds.{kind_named}
use Rattle.mailmap_report.specs.Settings.{Choices, choices_of, input_name, no_choices}
use Rattle.mailmap_report.specs.declared.settings.Format.{Format}
use Rattle.mailmap_report.specs.declared.settings.Format.TheVariants.{Gcc, Github, Json}
use Rattle.verify_command.specs.declared.asked.Mode.{Mode}
use Rattle.verify_command.specs.declared.asked.Mode.TheVariants.{Help, Version, Verify, Prune, PruneInPlace, Explain, Contacts, Suggest}
use Rattle.verify_command.specs.declared.asked.ParseError.{ParseError}
use Rattle.verify_command.specs.declared.asked.ParseError.TheVariants as error
use Rattle.verify_command.specs.declared.asked.Request.{Request}
use Rattle.verify_command.specs.declared.asked.Setting.{Setting}
use Rattle.verify_command.specs.declared.asked.Setting.TheVariants as setting
use Rattle.mailmap_report.specs.declared.kinds.Kind.{Kind}
use Rattle.mailmap_report.specs.declared.kinds.Level.{Level}
use Rattle.mailmap_report.specs.declared.kinds.Level.TheVariants.{Error, Note, Warning}
use Rattle.verify_command.specs.declared.request.Word.{Word}
use Rattle.verify_command.specs.declared.request.Word.TheVariants as word

-- ---- requests and errors

pub record Wanted : Type 0 where
  pub mode : Mode
  pub contacts : Text
  pub choices : Choices
  pub paths : List Text
  pub by_default : Bool
  pub in_place : Bool

-- an error in the arguments
pub data Wrong : Type 0 where
  unknown_option : Text → Wrong
  second_mode : Text → Wrong
  no_value : Setting → Text → Wrong
  unknown_value : Setting → Text → Wrong
  unused : Mode → Setting → Wrong
  in_place_alone : Wrong

-- the specification's views
abbrev pub wanted_of : Request → Wanted
wanted_of r = record {
  mode = r.mode;
  contacts = r.contacts.items;
  choices = choices_of r.settings;
  paths = texts r.paths.items;
  by_default = r.by_default;
  in_place = r.in_place;
}

-- Unless memory runs out, the result's value as `view` shows it, or its error, is this.
abbrev pub IsAnswer : {T V : Type 0} → (T → V) → Result T ParseError → Result V Wrong → Type 0
IsAnswer view (Ok value) asked = Ok (view value) ≡ asked
IsAnswer view (Err (error.UnknownOption option)) asked = Err (unknown_option option.items) ≡ asked
IsAnswer view (Err (error.SecondMode option)) asked = Err (second_mode option.items) ≡ asked
IsAnswer view (Err (error.NoValue setting option)) asked = Err (no_value setting option.items) ≡ asked
IsAnswer view (Err (error.UnknownValue setting value)) asked = Err (unknown_value setting value.items) ≡ asked
IsAnswer view (Err (error.Unused mode setting)) asked = Err (unused mode setting) ≡ asked
IsAnswer view (Err error.InPlaceAlone) asked = Err in_place_alone ≡ asked
IsAnswer view (Err error.Memory) asked = ⊤

abbrev pub IsAsked : Result Request ParseError → Result Wanted Wrong → Type 0
IsAsked = IsAnswer wanted_of

-- what no argument asks for
abbrev pub plain : Mode → Wanted
plain mode = record {
  mode = mode;
  contacts = [];
  choices = no_choices;
  paths = [];
  by_default = false;
  in_place = false;
}

-- ---- single arguments

-- an argument that starts with `-` and is longer than that
abbrev pub is_dashed : Text → Bool
is_dashed argument = slice_index argument 0 == 45 && nat_lt 1 (length argument)

-- an option with a value, by its long name
abbrev pub setting_named : Text → Option Setting
setting_named name = if bytes_eq name (codes "--contacts") then Some setting.Contacts
    else if bytes_eq name (codes "--suggest") then Some setting.Suggest
    else if bytes_eq name (codes "--severity") then Some setting.Severity
    else if bytes_eq name (codes "--exclude") then Some setting.Exclude
    else if bytes_eq name (codes "--format") then Some setting.Format
    else if bytes_eq name (codes "--stdin-name") then Some setting.StdinName else None

-- the index of the first `=`
abbrev pub equals_in : Text → Option ℕ
equals_in argument = first_of (matches argument (codes "=") 0)

-- the part before it; without one, all
abbrev pub name_in : Text → Text
name_in argument = unwrap_or (option_map (λ at. take at argument) (equals_in argument)) argument

-- the part after it
abbrev pub value_in : Text → Option Text
value_in argument = option_map (λ at. drop (at + 1) argument) (equals_in argument)

-- a long option with a value that may be in the same argument, as in `--format=json`, an unknown option, or a path
abbrev pub setting_word : Text → Word
setting_word argument = elim (setting_named (name_in argument)) [
  | Some setting ↦ if is_some (value_in argument) then word.Joined setting else word.Next setting
  | None ↦ if is_dashed argument then word.Unknown else word.Path
]

-- the kind of an argument where an option can stand
abbrev pub word_of : Text → Word
word_of argument = if bytes_eq argument (codes "--") then word.End
    else if bytes_eq argument (codes "-h") then word.Alone Help
    else if bytes_eq argument (codes "--help") then word.Alone Help
    else if bytes_eq argument (codes "--version") then word.Alone Version
    else if bytes_eq argument (codes "--prune") then word.Mode Prune
    else if bytes_eq argument (codes "--explain") then word.Mode Explain
    else if bytes_eq argument (codes "--in-place") then word.InPlace
    else if bytes_eq argument (codes "-S") then word.Next setting.Severity
    else if bytes_eq argument (codes "-e") then word.Next setting.Exclude
    else if bytes_eq argument (codes "-f") then word.Next setting.Format else setting_word argument

-- ---- what an option adds to a request

-- what comes after a step, unless it found an error
abbrev pub followed : {V : Type 0} → Result V Wrong → (V → Result Wanted Wrong) → Result Wanted Wrong
followed (Ok value) next = next value
followed (Err wrong) next = Err wrong

-- whether the mode prints findings
abbrev pub reports : Mode → Bool
reports Verify = true
reports Contacts = true
reports _ = false

-- whether messages of the mode can name a line of standard input
abbrev pub names_input : Mode → Bool
names_input Prune = true
names_input mode = reports mode

abbrev pub has_none : {X : Type 0} → List X → Bool
has_none xs = length xs == 0

-- the first option that the mode doesn't use
abbrev pub unused_setting : Wanted → Option Setting
unused_setting w = if is_some w.choices.severity && not (reports w.mode) then Some setting.Severity
    else if not (has_none w.choices.excluded) && not (reports w.mode) then Some setting.Exclude
    else if is_some w.choices.format && not (reports w.mode) then Some setting.Format
    else if is_some w.choices.stdin_name && not (names_input w.mode) then Some setting.StdinName else None

abbrev pub checked : Wanted → Result Wanted Wrong
checked w = elim (unused_setting w) [
  | None ↦ Ok w
  | Some setting ↦ Err (unused w.mode setting)
]

-- whether there is no mode yet: no option asks for the mode to verify
abbrev pub has_no_mode : Mode → Bool
has_no_mode Verify = true
has_no_mode _ = false

-- with this mode and this file of contacts, unless there is a mode
abbrev pub with_mode : Wanted → Mode → Text → Text → Result Wanted Wrong
with_mode w mode contacts option =
    if has_no_mode w.mode then checked (record w { mode = mode; contacts = contacts }) else Err (second_mode option)

abbrev pub level_named : Text → Option Level
level_named name = if bytes_eq name (codes "error") then Some Error
    else if bytes_eq name (codes "warning") then Some Warning else if bytes_eq name (codes "note") then Some Note
    else None

abbrev pub format_named : Text → Option Format
format_named name = if bytes_eq name (codes "gcc") then Some Gcc else if bytes_eq name (codes "json") then Some Json
    else if bytes_eq name (codes "github") then Some Github else None

-- the names between commas
abbrev pub names_in : Text → List Text
names_in value = split_at value 1 0 (matches value (44 ∷ []) 0)

-- the kinds with these names after others; the first name that is none is wrong
abbrev pub kinds_after : List Kind → List Text → Result (List Kind) Wrong
kinds_after kinds [] = Ok kinds
kinds_after kinds (name ∷ names) = elim (kind_named name) [
  | Some kind ↦ kinds_after (kinds ++ kind ∷ []) names
  | None ↦ Err (unknown_value setting.Exclude name)
]

abbrev pub with_setting : Wanted → Setting → Text → Text → Result Wanted Wrong
with_setting w setting.Contacts option value = with_mode w Contacts value option
with_setting w setting.Suggest option value = with_mode w Suggest value option
with_setting w setting.Severity option value = elim (level_named value) [
  | Some level ↦ checked (record w { choices = record w.choices { severity = Some level } })
  | None ↦ Err (unknown_value setting.Severity value)
]
with_setting w setting.Exclude option value = followed (kinds_after w.choices.excluded (names_in value))
    (λ kinds. checked (record w { choices = record w.choices { excluded = kinds } }))
with_setting w setting.Format option value = elim (format_named value) [
  | Some format ↦ checked (record w { choices = record w.choices { format = Some format } })
  | None ↦ Err (unknown_value setting.Format value)
]
with_setting w setting.StdinName option value =
    checked (record w { choices = record w.choices { stdin_name = Some value } })

-- the setting is also a mode
abbrev pub names_mode : Setting → Bool
names_mode setting.Contacts = true
names_mode setting.Suggest = true
names_mode _ = false

-- an option without its value is an error, which may be that of a second mode
abbrev pub without_value : Wanted → Setting → Text → Wrong
without_value w setting option =
    if names_mode setting && not (has_no_mode w.mode) then second_mode option else no_value setting option

-- ---- all arguments

-- `-` as a file means standard input
abbrev pub is_dash : Text → Bool
is_dash path = bytes_eq path (codes "-")

-- standard input has contacts, and so can't be the mailmap
abbrev pub reads_contacts : Mode → Text → Bool
reads_contacts Explain contacts = true
reads_contacts Contacts contacts = is_dash contacts
reads_contacts Suggest contacts = is_dash contacts
reads_contacts _ contacts = false

-- standard input can be the mailmap: it hasn't contacts, and lines are only suggested for files
abbrev pub can_be_mailmap : Mode → Text → Bool
can_be_mailmap Verify contacts = true
can_be_mailmap Prune contacts = true
can_be_mailmap Contacts contacts = not (is_dash contacts)
can_be_mailmap _ contacts = false

-- it is the mailmap if there is no path
abbrev pub reads_mailmap : Wanted → Bool
reads_mailmap w = can_be_mailmap w.mode w.contacts && has_none w.paths

-- the name of the file of contacts in messages
abbrev pub contacts_name : Wanted → Text
contacts_name w = if is_dash w.contacts then input_name w.choices else w.contacts

-- the mode has a file of contacts
abbrev pub takes_contacts : Mode → Bool
takes_contacts Contacts = true
takes_contacts Suggest = true
takes_contacts _ = false

abbrev pub is_only_dash : List Text → Bool
is_only_dash (path ∷ []) = is_dash path
is_only_dash _ = false

-- without a path the mode takes the default mailmap
abbrev pub takes_default : Mode → Bool
takes_default Verify = true
takes_default Prune = true
takes_default PruneInPlace = true
takes_default mode = takes_contacts mode

-- A single `-` is standard input if that can be the mailmap. Without a path, the mailmap is the default one.
abbrev pub finished : Wanted → Wanted
finished w = if can_be_mailmap w.mode w.contacts && is_only_dash w.paths then record w { paths = [] }
    else if takes_default w.mode && has_none w.paths then record w { paths = default_path ∷ []; by_default = true } else w

-- with contacts the default mailmap is read only if it is there
abbrev pub reads_default : Wanted → Bool
reads_default w = takes_contacts w.mode && w.by_default

abbrev pub is_prune : Mode → Bool
is_prune Prune = true
is_prune _ = false

-- What is asked for after all arguments. Pruning in place is a mode of its own.
abbrev pub ended : Wanted → Result Wanted Wrong
ended w = if w.in_place then (if is_prune w.mode then followed (checked (record w { mode = PruneInPlace })) (λ next. Ok (finished next))
    else Err in_place_alone) else Ok (finished w)

abbrev pub with_paths : Wanted → List Text → Wanted
with_paths w paths = record w { paths = w.paths ++ paths }

-- what a word adds, given the words after it and what they make of a request, or of one whose last option waits
abbrev pub on_word : Word → Text → List Text → Wanted → (Wanted → Option (Setting × Text) → Result Wanted Wrong)
    → Result Wanted Wrong
on_word word.End argument rest w more = ended (with_paths w rest)
on_word (word.Alone mode) argument rest w more = Ok (plain mode)
on_word (word.Mode mode) argument rest w more = followed (with_mode w mode [] argument) (λ next. more next None)
on_word (word.Next setting) argument rest w more = more w (Some (setting, argument))
on_word (word.Joined setting) argument rest w more =
    followed (with_setting w setting argument (unwrap_or (value_in argument) [])) (λ next. more next None)
on_word word.InPlace argument rest w more = more (record w { in_place = true }) None
on_word word.Unknown argument rest w more = Err (unknown_option argument)
on_word word.Path argument rest w more = more (with_paths w (argument ∷ [])) None

-- The arguments after those that gave a request, up to the first error. If an option waits for its value, the next one
-- is that, whatever it looks like.
abbrev pub asked_in : List Text → Wanted → Option (Setting × Text) → Result Wanted Wrong
asked_in [] w None = ended w
asked_in [] w (Some (setting, option)) = Err (without_value w setting option)
asked_in (argument ∷ rest) w None = on_word (word_of argument) argument rest w (asked_in rest)
asked_in (value ∷ rest) w (Some (setting, option)) =
    followed (with_setting w setting option value) (λ next. asked_in rest next None)

abbrev pub asked : List Text → Result Wanted Wrong
asked arguments = asked_in arguments (plain Verify) None
