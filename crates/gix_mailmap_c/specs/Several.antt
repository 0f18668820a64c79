-- Calls on several mailmaps, whose names and texts are in two buffers.
use Rattle.std.specs.Prelude.{◌≡◌, ◌==◌, ℕ, if◌then◌else◌, List, [], ◌∷◌, Option, None, Some, drop, map, take}
use Rattle.mailmap_entries.specs.Folding.{Text}
use Rattle.mailmap_findings.specs.Findings.{AreFindings, Finding}
use Rattle.mailmap_findings.specs.Needs.{AreUnneeded}
use Rattle.mailmap_findings.specs.Positions.{whole_lines}
use Rattle.mailmap_findings.specs.Remarks.{AreRemarks, Remark}
use Rattle.mailmap_redundancy.specs.declared.located.Position as library
use Rattle.mailmap_report.specs.Report.{pieces_beside, report, text_of}
use Rattle.mailmap_report.specs.Settings.{Choices, no_choices}
use Rattle.mailmap_report.specs.declared.settings.Format.{Format}
use Rattle.mailmap_report.specs.declared.settings.Format.TheVariants.{Github, Json}
use Rattle.mailmap_suggestions.specs.ContactFindings.{AreContactFindings, ContactFinding}
use Rattle.gix_mailmap_c.specs.declared.several.Lengths.{Lengths}
use Rattle.gix_mailmap_c.specs.declared.several.Position.{Position}

-- splits a buffer by lengths; the last parts are short or empty if there are too few bytes
abbrev pub cut_by : List ℕ → Text → List Text
cut_by [] bytes = []
cut_by (length ∷ lengths) bytes = take length bytes ∷ cut_by lengths (drop length bytes)

abbrev pub names_in : List Lengths → Text → List Text
names_in lengths names = cut_by (map (λ l. l.name) lengths) names

abbrev pub texts_in : List Lengths → Text → List Text
texts_in lengths texts = cut_by (map (λ l. l.text) lengths) texts

-- the format of this number: without one, findings are lines
abbrev pub format_in : ℕ → Option Format
format_in format = if format == 1 then Some Json else if format == 2 then Some Github else None

-- all findings are reported
abbrev pub choices_in : ℕ → Choices
choices_in format = record no_choices { format = format_in format }

-- the report has a line or an object for each finding in the mailmaps, in order, and nothing else
pub record IsReportOf (choices : Choices) (names mailmaps : List Text) (text : Text) : Type 0 where
  pub found : List Finding
  pub whole : AreFindings mailmaps found
  pub lines : text ≡ report choices names found

-- it has one for each finding in the mailmaps and for each line that no contact needs, in order, and after these one for
-- each finding about the contacts
pub record IsReportBesideOf (choices : Choices) (names mailmaps : List Text) (file contacts : Text) (text : Text) : Type 0 where
  pub remarks : List Remark
  pub are_remarks : AreRemarks mailmaps contacts remarks
  pub found : List ContactFinding
  pub about : AreContactFindings mailmaps (whole_lines contacts) found
  pub lines : text ≡ text_of (pieces_beside choices names file remarks found)

abbrev pub c_position : library.Position → Position
c_position p = record { buffer = p.buffer; line = p.line }

-- the lines of these mailmaps that have an effect but that no contact needs, in their order
pub record AreUnneededOf (mailmaps : List Text) (contacts : Text) (listed : List Position) : Type 0 where
  pub found : List library.Position
  pub whole : AreUnneeded mailmaps contacts found
  pub each : listed ≡ map c_position found
