-- What is reported at a line, as an annotation of GitHub.
use Rattle.std.specs.Prelude.{◌==◌, ◌&&◌, ◌++◌, ℕ, Bool, if◌then◌else◌, [], ◌∷◌, codes, decimal, false, true}
use Rattle.std.specs.List.{flat_map}
use Rattle.shown_text.specs.Shown.{shown}
use Rattle.mailmap_entries.specs.Folding.{Text}
use Rattle.mailmap_report.specs.Json.{Notice}
use Rattle.mailmap_report.specs.Kinds.{kind_level, kind_name, level_name}
use Rattle.mailmap_report.specs.declared.kinds.Level.{Level}
use Rattle.mailmap_report.specs.declared.kinds.Level.TheVariants.{Note}

-- GitHub has no notes.
abbrev pub command_name : Level → Text
command_name Note = codes "notice"
command_name level = level_name level

-- a percent sign, a carriage return and a line feed are escaped, and in a property also a colon and a comma
abbrev pub escaped_byte : Bool → ℕ → Text
escaped_byte in_property b = if b == 37 then codes "%25" else if b == 13 then codes "%0D"
    else if b == 10 then codes "%0A" else if in_property && b == 58 then codes "%3A"
    else if in_property && b == 44 then codes "%2C" else b ∷ []

-- a text, first with escapes for terminals
abbrev pub escaped_text : Bool → Text → Text
escaped_text in_property text = flat_map (escaped_byte in_property) (shown text)

abbrev pub properties : Notice → Text
properties n = codes " file=" ++ escaped_text true n.place.file ++ codes ",line=" ++ decimal n.place.line
    ++ codes ",title=" ++ escaped_text true (kind_name n.kind)

abbrev pub annotation_line : Notice → Text
annotation_line n = codes "::" ++ command_name (kind_level n.kind) ++ properties n ++ codes "::"
    ++ escaped_text false n.message ++ 10 ∷ []
