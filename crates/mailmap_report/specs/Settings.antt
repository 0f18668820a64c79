-- Which findings are reported, how, and which of them count for the exit status.
use Rattle.std.specs.Prelude.{◌&&◌, ℕ, Bool, nat_le, List, [], ◌∷◌, Option, None, codes, not, option_to_list, unwrap_or}
use Rattle.std.specs.List.{list_any}
use Rattle.std.specs.Option.{option_map}
use Rattle.mailmap_entries.specs.Folding.{Text}
use Rattle.mailmap_report.specs.Kinds.{kind_level, same_kind}
use Rattle.mailmap_report.specs.declared.settings.Format.{Format}
use Rattle.mailmap_report.specs.declared.settings.Format.TheVariants.{Gcc}
use Rattle.mailmap_report.specs.declared.settings.Settings.{Settings}
use Rattle.mailmap_report.specs.declared.kinds.Kind.{Kind}
use Rattle.mailmap_report.specs.declared.kinds.Level.{Level}
use Rattle.mailmap_report.specs.declared.kinds.Level.TheVariants.{Error, Note, Warning}

pub record Choices : Type 0 where
  pub severity : Option Level
  pub excluded : List Kind
  pub format : Option Format
  pub stdin_name : Option Text

-- the specification's view of settings
abbrev pub choices_of : Settings → Choices
choices_of s = record {
  severity = s.severity;
  excluded = s.excluded.items;
  format = s.format;
  stdin_name = option_map (λ name. name.items) s.stdin_name;
}

abbrev pub no_choices : Choices
no_choices = record { severity = None; excluded = []; format = None; stdin_name = None }

-- ---- what is reported, and what counts

abbrev pub level_rank : Level → ℕ
level_rank Note = 0
level_rank Warning = 1
level_rank Error = 2

abbrev pub reaches : Level → Level → Bool
reaches level least = nat_le (level_rank least) (level_rank level)

-- findings of this kind are reported
abbrev pub is_reported : Choices → Kind → Bool
is_reported c kind = reaches (kind_level kind) (unwrap_or c.severity Note) && not (list_any (same_kind kind) c.excluded)

-- and count for the exit status: a note counts only if a level is chosen
abbrev pub counts : Choices → Kind → Bool
counts c kind = is_reported c kind && reaches (kind_level kind) (unwrap_or c.severity Warning)

-- how they are printed
abbrev pub format_of : Choices → Format
format_of c = unwrap_or c.format Gcc

-- ---- names in messages

abbrev pub input_name : Choices → Text
input_name c = unwrap_or c.stdin_name (codes "<stdin>")

-- The names of the mailmaps. None means that the one mailmap is standard input, and has its usual name.
abbrev pub mailmap_names : Choices → List Text → List Text
mailmap_names c (path ∷ paths) = path ∷ paths
mailmap_names c [] = option_to_list c.stdin_name
