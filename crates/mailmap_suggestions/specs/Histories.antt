-- The entries of mailmaps.
use Rattle.std.specs.Prelude.{List}
use Rattle.std.specs.List.{flat_map}
use Rattle.mailmap_entries.specs.Folding.{Text}
use Rattle.mailmap_findings.specs.GitAnswers.{git_mappings}
use Rattle.mailmap_grammar.specs.Lines.{mappings_of}
use Rattle.mailmap_suggestions.specs.Forms.{Histories}

-- as this library reads them, and as git does
abbrev pub histories_of : List Text → Histories
histories_of buffers = record { ours = flat_map mappings_of buffers; gits = flat_map git_mappings buffers }
