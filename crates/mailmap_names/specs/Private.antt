-- What contracts of private functions cite: words as strings, and texts in order.
use Rattle.std.specs.Prelude.{ℕ, ◌==◌, Bool, ◌&&◌, ◌||◌, not, if◌then◌else◌, nat_le, nat_lt, List, ◌∷◌, String}
use Rattle.std.specs.Prelude.{filter, length, chars, string_bytes}
use Rattle.std.specs.Char.{is_ascii, is_ascii_alphanumeric}
use Rattle.std.specs.Global.{Global, Vec}
use Rattle.std.specs.List.{flat_map, slice_split}
use Rattle.std.specs.List.Sorted.{IsSortedByKey}
use Rattle.mailmap_entries.specs.Folding.{Text, text_cmp}

-- whether a string has more than n characters
abbrev pub is_longer : ℕ → String Global → Bool
is_longer n s = nat_lt n (length (chars (string_bytes s)))

-- the words of a name without those of one character, if at least two others stay
abbrev pub main_strings : List (String Global) → List (String Global)
main_strings words =
    if nat_le 2 (length (filter (is_longer 1) words)) then filter (is_longer 1) words else words

-- texts with a space before each
abbrev pub spaced : List Text → Text
spaced texts = flat_map (λ t. 32 ∷ t) texts

-- no text is smaller than the one before it
abbrev pub AreSorted : List (Vec ℕ) → Type 0
AreSorted texts = IsSortedByKey (λ t. t.items) text_cmp texts

-- a byte of ASCII that opens no aside
abbrev pub is_plain : ℕ → Bool
is_plain b = is_ascii b && not (b == 40 || b == 91 || b == 34)

-- the longest runs of letters and digits of ASCII
abbrev pub ascii_runs : Text → List Text
ascii_runs text = filter (λ run. not (length run == 0)) (slice_split (λ b. not (is_ascii_alphanumeric b)) text)
