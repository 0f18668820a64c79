-- Names that look the same.
use Rattle.std.specs.Prelude.{◌&&◌, if◌then◌else◌, ℕ, Bool, List, [], bytes_eq, chars, codes, encode_utf8_all, filter, not}
use Rattle.std.specs.Str.{is_utf8}
use Rattle.shown_text.specs.Shown.{is_hidden}
use Rattle.mailmap_entries.specs.Folding.{Text}
use Rattle.mailmap_suggestions.specs.Shortened.{shortened}
use Rattle.unicode_normalization.specs.Forms.{nfc}

-- the characters that aren't hidden
abbrev pub visible : List ℕ → List ℕ
visible cs = filter (λ c. not (is_hidden c)) cs

-- what is seen of a text: its visible characters, composed (NFC)
abbrev pub seen : Text → Text
seen text = encode_utf8_all (nfc (visible (chars text)))

-- two texts in UTF-8 of which the same is seen
abbrev pub are_seen_alike : Text → Text → Bool
are_seen_alike a b = is_utf8 a && (is_utf8 b && bytes_eq (seen a) (seen b))

-- two different names that look the same, as they are shown
abbrev pub look_alike : Text → Text → Bool
look_alike a b = not (bytes_eq a b) && are_seen_alike (shortened a) (shortened b)

-- what a finding that shows two names ends with
unfoldable pub alike_text : Text → Text → Text
alike_text a b = if look_alike a b then codes " (they look the same)" else []
