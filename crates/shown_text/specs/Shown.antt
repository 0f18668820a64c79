-- Escapes for what a terminal, or GitHub in a log, takes for control.
use Rattle.std.specs.Prelude.{ℕ, ◌/◌, ◌%◌, ◌==◌, nat_lt, Bool, true, false, ◌||◌, ◌&&◌, if◌then◌else◌, List, [], ◌∷◌, ◌++◌, take, drop, Option, Some, None, codes, slice_index}
use Rattle.std.specs.List.{flat_map}
use Rattle.bstr.specs.Utf8.{Decoded, pieces}
use Rattle.ucd_category.specs.GeneralCategory.{general_category}
use Rattle.ucd_category.specs.declared.GeneralCategory.{GeneralCategory}
use Rattle.ucd_category.specs.declared.GeneralCategory.TheVariants.{Format, LineSeparator, ParagraphSeparator}

abbrev pub hex_digit : ℕ → ℕ
hex_digit value = slice_index (codes "0123456789abcdef") value

-- the two hexadecimal digits of a byte
abbrev pub hex_byte : ℕ → List ℕ
hex_byte byte = hex_digit (byte / 16) ∷ hex_digit (byte % 16) ∷ []

-- a control byte or control character: below 32, or from 127 to 159
abbrev pub is_control : ℕ → Bool
is_control code = nat_lt code 32 || (nat_lt 126 code && nat_lt code 160)

-- a byte that isn't printable ASCII, or `#`
abbrev pub is_special : ℕ → Bool
is_special byte = nat_lt byte 32 || (nat_lt 126 byte || byte == 35)

-- a character that can't be seen, or that turns the direction of text: one of the general categories Cf, Zl and Zp
abbrev pub is_hidden_category : GeneralCategory → Bool
is_hidden_category Format = true
is_hidden_category LineSeparator = true
is_hidden_category ParagraphSeparator = true
is_hidden_category _ = false

abbrev pub is_hidden : ℕ → Bool
is_hidden char = is_hidden_category (general_category char)

-- `\x` and two hexadecimal digits
abbrev pub escaped_byte : ℕ → List ℕ
escaped_byte byte = 92 ∷ 120 ∷ hex_byte byte

-- a control byte is escaped
abbrev pub shown_byte : ℕ → List ℕ
shown_byte byte = if is_control byte then escaped_byte byte else byte ∷ []

-- the last four hexadecimal digits of a code point
abbrev pub last_four : ℕ → List ℕ
last_four code = hex_byte (code / 256 % 256) ++ hex_byte (code % 256)

-- `\u` and four hexadecimal digits, or `\U` and eight
abbrev pub shown_code : ℕ → List ℕ
shown_code code = if nat_lt code 65536 then 92 ∷ 117 ∷ last_four code
    else 92 ∷ 85 ∷ 48 ∷ 48 ∷ hex_byte (code / 65536 % 256) ++ last_four code

-- A character that controls or that is hidden is escaped, and so is `[` after `##`, which GitHub takes for the beginning
-- of a command.
abbrev pub shown_char : Bool → ℕ → List ℕ → List ℕ
shown_char after_two char bytes = if nat_lt char 128
    then (if is_control char || (after_two && char == 91) then escaped_byte char else bytes)
    else (if is_control char || is_hidden char then shown_code char else bytes)

-- Outside of characters, control bytes are escaped.
abbrev pub shown_piece : Bool → Option ℕ → List ℕ → List ℕ
shown_piece after_two None bytes = flat_map shown_byte bytes
shown_piece after_two (Some char) bytes = shown_char after_two char bytes

abbrev pub is_hash : Option ℕ → Bool
is_hash None = false
is_hash (Some char) = char == 35

-- a text that begins with these pieces, one after another, after one `#` or after two
abbrev pub shown_pieces : Bool → Bool → List Decoded → List ℕ → List ℕ
shown_pieces after_one after_two [] text = []
shown_pieces after_one after_two (p ∷ ps) text = shown_piece after_two p.char (take p.size text)
    ++ shown_pieces (is_hash p.char) (after_one && is_hash p.char) ps (drop p.size text)

abbrev pub shown_after : Bool → Bool → List ℕ → List ℕ
shown_after after_one after_two text = shown_pieces after_one after_two (pieces text) text

abbrev pub shown : List ℕ → List ℕ
shown text = shown_after false false text
