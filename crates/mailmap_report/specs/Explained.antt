-- Explanations of contacts, line by line: what each maps to, and the mailmap lines behind it.
use Rattle.std.specs.Prelude.{◌≡◌, List, [], ◌∷◌, ◌++◌, Option, None, Some, codes}
use Rattle.std.specs.List.{All, flat_map}
use Rattle.mailmap_grammar.specs.CanonicalText.{contact_line, contact_with}
use Rattle.mailmap_findings.specs.Explanations.{origin_positions}
use Rattle.mailmap_entries.specs.Folding.{Text}
use Rattle.mailmap_redundancy.specs.Origins.{Origins, origins}
use Rattle.mailmap_entries.specs.Semantics.{Fields, answer_of}
use Rattle.mailmap_grammar.specs.Lines.{ParsedContact, Absent, Unclosed, Closed, contact_in}
use Rattle.mailmap_findings.specs.Positions.{located_lines, located, whole_lines}
use Rattle.mailmap_redundancy.specs.Redundancy.{AreEffective, LocatedMapping, entries}
use Rattle.mailmap_grammar.specs.Trimming.{trim}
use Rattle.mailmap_grammar.specs.CachedLines.{CachedLine}
use Rattle.mailmap_report.specs.Report.{positions_text, shown_line}

-- ---- one line

-- what explanations are made from: the paths of mailmaps, their entries, and the effective ones
pub record Grounds : Type 0 where
  pub paths : List Text
  pub history : List LocatedMapping
  pub kept : List LocatedMapping

-- the text after a contact: the contact with its new fields, and the lines behind them
abbrev pub mapped_text : List Text → Origins → Option Fields → Text → Text → Text
mapped_text paths g None name email = codes " is not mapped"
mapped_text paths g (Some f) name email =
    codes " is " ++ contact_with f name email ++ codes " by " ++ positions_text paths (origin_positions g f)

-- the explanation of a line that starts with this contact
abbrev pub contact_explained : Grounds → Text → ParsedContact → Text
contact_explained g line Absent = line ++ codes " is no contact"
contact_explained g line Unclosed = line ++ codes " is no contact"
contact_explained g line (Closed name email rest) = contact_line name email
    ++ mapped_text g.paths (origins g.kept name email) (answer_of (entries g.history) name email) name email

-- a line of output with escapes; a blank line has none
abbrev pub shown_unless_blank : Text → Text → Text
shown_unless_blank [] text = []
shown_unless_blank (b ∷ line) text = shown_line text

-- the line of output for a line of contacts
abbrev pub explained_line : Grounds → Text → Text
explained_line g line = shown_unless_blank (trim line) (contact_explained g (trim line) (contact_in line))

-- each row is a line with its explanation
abbrev pub ExplainsEach : Grounds → List CachedLine → Type 0
ExplainsEach g rows = All (λ row. row.answer ≡ explained_line g row.line) rows

-- the texts for lines, one after another
abbrev pub each_line : (Text → Text) → Text → Text
each_line answer text = flat_map answer (whole_lines text)

-- ---- explanations with mailmaps

-- g is made from mailmaps with these paths and texts
pub record AreGrounds (paths mailmaps : List Text) (g : Grounds) : Type 0 where
  pub paths_are : g.paths ≡ paths
  pub history_is : g.history ≡ located (located_lines mailmaps)
  pub effective : AreEffective g.history g.kept

-- The text is made of explanations with these mailmaps.
abbrev pub Explains : List Text → List Text → ((Text → Text) → Text → Type 0) → Text → Type 0
Explains paths mailmaps IsText text =
    (g : Grounds) × AreGrounds paths mailmaps g × IsText (each_line (explained_line g)) text

-- It explains all lines of these contacts.
abbrev pub ExplainsAll : List Text → List Text → Text → Text → Type 0
ExplainsAll paths mailmaps contacts text = Explains paths mailmaps (λ answers made. made ≡ answers contacts) text
