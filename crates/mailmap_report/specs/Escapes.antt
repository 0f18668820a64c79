-- What JSON needn't escape, but controls a terminal or can't be seen.
use Rattle.std.specs.Prelude.{ℕ, ◌/◌, ◌%◌, ◌-◌, ◌+◌, nat_lt, Bool, ◌||◌, ◌&&◌, if◌then◌else◌, List, [], ◌∷◌, ◌++◌, take, drop, Option, Some, None}
use Rattle.bstr.specs.Utf8.{Decoded, pieces}
use Rattle.shown_text.specs.Shown.{is_hidden, last_four}

-- `\u` and four hexadecimal digits
abbrev pub code_unit : ℕ → List ℕ
code_unit code = 92 ∷ 117 ∷ last_four code

-- a character by its number, beyond U+FFFF as two surrogates
abbrev pub escaped_char : ℕ → List ℕ
escaped_char code = if nat_lt code 65536 then code_unit code
    else code_unit (55296 + (code - 65536) / 1024) ++ code_unit (56320 + code % 1024)

-- a control character from U+007F on, or one that can't be seen or turns the direction of text
abbrev pub is_escaped : ℕ → Bool
is_escaped char = nat_lt 126 char && (nat_lt char 160 || is_hidden char)

abbrev pub escaped_piece : Option ℕ → List ℕ → List ℕ
escaped_piece None bytes = bytes
escaped_piece (Some char) bytes = if is_escaped char then escaped_char char else bytes

-- a text that begins with these pieces, one after another
abbrev pub escaped_pieces : List Decoded → List ℕ → List ℕ
escaped_pieces [] text = []
escaped_pieces (p ∷ ps) text = escaped_piece p.char (take p.size text) ++ escaped_pieces ps (drop p.size text)

-- JSON, in whose strings alone such characters can be
abbrev pub escaped_json : List ℕ → List ℕ
escaped_json text = escaped_pieces (pieces text) text
