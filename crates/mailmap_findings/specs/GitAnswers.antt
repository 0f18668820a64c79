-- The answers that git gives with a mailmap.
use Rattle.std.specs.Prelude.{List, Option}
use Rattle.std.specs.List.{flat_map}
use Rattle.mailmap_entries.specs.Entries.{Mapping}
use Rattle.mailmap_entries.specs.Folding.{Text}
use Rattle.mailmap_entries.specs.Semantics.{Fields}
use Rattle.mailmap_redundancy.specs.Origins.{git_answer_from}
use Rattle.mailmap_findings.specs.Git.{git_entries}
use Rattle.mailmap_findings.specs.Positions.{whole_lines}

-- the entries that git reads from a text, line by line
abbrev pub git_mappings : Text → List Mapping
git_mappings text = flat_map git_entries (whole_lines text)

-- git's answer to a contact with a mailmap
abbrev pub git_answer : Text → Text → Text → Option Fields
git_answer text name email = git_answer_from (git_mappings text) name email
