-- The parts of shown texts, as the code has them.
use Rattle.std.specs.Prelude.{ℕ, List}
use Rattle.shown_text.specs.declared.shown.Part.{Part}
use Rattle.shown_text.specs.declared.shown.Part.TheVariants.{Same, Byte, Char, LongChar}

-- the text of a part
abbrev pub part_text : Part → List ℕ
part_text (Same bytes) = bytes.now
part_text (Byte escape) = escape
part_text (Char escape) = escape
part_text (LongChar escape) = escape
