-- The findings of a mailmap as C sees them.
use Rattle.std.specs.Prelude.{◌≡◌, ◌∷◌, ℕ, List, [], map}
use Rattle.mailmap_entries.specs.Folding.{Text}
use Rattle.mailmap_grammar.specs.Lines.{FaultKind, no_email, missing_closing_bracket, empty_email, nothing_to_map, unclosed_second}
use Rattle.mailmap_findings.specs.Findings as library
use Rattle.mailmap_findings.specs.Findings.{AreFindings, FindingKind, byte_order_mark, comment_in_line, fault, ignored_text, git_reads, no_effect, itself_mapped}
use Rattle.gix_mailmap_c.specs.declared.texts.Finding.{Finding}

abbrev pub fault_number : FaultKind → ℕ
fault_number no_email = 1
fault_number missing_closing_bracket = 2
fault_number empty_email = 3
fault_number nothing_to_map = 4
fault_number unclosed_second = 5

-- the number of a kind of finding
abbrev pub kind_number : FindingKind → ℕ
kind_number (fault f) = fault_number f.kind
kind_number (ignored_text text) = 6
kind_number (no_effect beside is_same) = 7
kind_number (itself_mapped contact to line second) = 8
kind_number (git_reads reading) = 9
kind_number byte_order_mark = 10
kind_number comment_in_line = 11

-- for a line without effect, the last line with an effect for the same key; 0 for all other kinds
abbrev pub beside_line : FindingKind → ℕ
beside_line kind = elim kind [
  | no_effect beside is_same ↦ beside.line
  | _ ↦ 0
]

abbrev pub c_finding : library.Finding → Finding
c_finding f = record { line = f.position.line; kind = kind_number f.kind; beside = beside_line f.kind }

-- the findings of the one mailmap, in their order
pub record AreFindingsOf (mailmap : Text) (reported : List Finding) : Type 0 where
  pub found : List library.Finding
  pub whole : AreFindings (mailmap ∷ []) found
  pub each : reported ≡ map c_finding found
