-- What it means that a part of a line is ignored.
use Rattle.std.specs.Prelude.{◌≡◌, ◌++◌, ℕ, Some, Ok, []}
use Rattle.mailmap_entries.specs.Entries.{Mapping}
use Rattle.mailmap_entries.specs.Folding.{Text}
use Rattle.mailmap_grammar.specs.Lines.{strict_reading}
use Rattle.mailmap_grammar.specs.Trimming.{trim}
use Rattle.mailmap_findings.specs.Findings.{ignored}

-- the line is a front, the ignored text, and white space; without the ignored text it gives the same entry, and no text
-- is ignored
pub record ReadsWithoutIgnored (n : ℕ) (line : Text) (e : Mapping) : Type 0 where
  pub front : Text
  pub back : Text
  pub whole : line ≡ front ++ (ignored line ++ back)
  pub blank : trim back ≡ []
  pub reads : strict_reading n (front ++ back) ≡ Some (Ok e)
  pub none : ignored (front ++ back) ≡ []
