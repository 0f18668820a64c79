-- Keys and marks of names, which alike names have in common, and what makes names related.
use Rattle.std.specs.Prelude.{ℕ, Bool, ◌||◌, if◌then◌else◌, nat_lt, nat_le, List, [], ◌∷◌, ◌++◌, length, map, filter}
use Rattle.std.specs.Prelude.{String, bytes_eq, chars, codes, encode_utf8_all, string_bytes}
use Rattle.std.specs.Global.{Global}
use Rattle.std.specs.List.{concat, join_with_byte, list_any}
use Rattle.std.specs.Ordering.{is_le}
use Rattle.mailmap_entries.specs.Folding.{Text, folded, text_cmp}
use Rattle.mailmap_names.specs.Words.{words}

-- ---- texts

-- the characters of strings
abbrev pub characters : List (String Global) → List (List ℕ)
characters strings = map (λ s. chars (string_bytes s)) strings

-- whether a text is one of some texts
abbrev pub is_among : List Text → Text → Bool
is_among texts text = list_any (λ t. bytes_eq t text) texts

-- whether one of some texts is also one of others
abbrev pub has_common : List Text → List Text → Bool
has_common texts others = list_any (is_among others) texts

-- a text among ascending ones, before the first that is not smaller
abbrev pub inserted : Text → List Text → List Text
inserted text [] = text ∷ []
inserted text (first ∷ rest) =
    if is_le (text_cmp text first) then text ∷ first ∷ rest else first ∷ inserted text rest

-- texts in ascending order
abbrev pub ascending : List Text → List Text
ascending [] = []
ascending (first ∷ rest) = inserted first (ascending rest)

-- ---- keys: of words, which are lists of characters

-- names that say nothing of a person, as one word
abbrev pub placeholders : List Text
placeholders = codes "root" ∷ codes "admin" ∷ codes "administrator" ∷ codes "unknown" ∷ codes "none" ∷ codes "nobody"
    ∷ codes "anonymous" ∷ codes "user" ∷ codes "me" ∷ codes "test" ∷ codes "ubuntu" ∷ codes "debian"
    ∷ codes "localhost" ∷ codes "git" ∷ []

-- the words put together
abbrev pub together : List (List ℕ) → Text
together ws = encode_utf8_all (concat ws)

unfoldable pub is_placeholder : Text → Bool
is_placeholder text = is_among placeholders text

-- whether the words put together have fewer than three characters, or are a placeholder
abbrev pub is_nobody : List (List ℕ) → Bool
is_nobody ws = nat_lt (length (concat ws)) 3 || is_placeholder (together ws)

-- the words of more than one character
abbrev pub long_words : List (List ℕ) → List (List ℕ)
long_words ws = filter (λ w. nat_lt 1 (length w)) ws

-- the words without those of one character, if at least two others stay
abbrev pub main_words : List (List ℕ) → List (List ℕ)
main_words ws = if nat_le 2 (length (long_words ws)) then long_words ws else ws

-- `w` and the words in ascending order by code points, which is that of their bytes, with a space between them
abbrev pub sorted_key : List (List ℕ) → Text
sorted_key ws = codes "w" ++ join_with_byte 32 (ascending (map encode_utf8_all ws))

-- `t` and the words put together
abbrev pub joined_key : List (List ℕ) → Text
joined_key ws = codes "t" ++ together ws

unfoldable pub keys_of : List (List ℕ) → List Text
keys_of ws = if is_nobody ws then [] else sorted_key (main_words ws) ∷ joined_key ws ∷ []

-- ---- names

unfoldable pub keys : Text → List Text
keys name = keys_of (words name)

-- what a name has in common with each name that is like it: `n` and the folded name, and its keys; an empty name is
-- like none. The first byte says which kind it is.
unfoldable pub marks : Text → List Text
marks [] = []
marks (first ∷ rest) = (codes "n" ++ folded (first ∷ rest)) ∷ keys (first ∷ rest)

-- the words of at least three characters
abbrev pub telling_words_of : List (List ℕ) → List Text
telling_words_of ws = map encode_utf8_all (filter (λ w. nat_le 3 (length w)) ws)

abbrev pub telling_words : Text → List Text
telling_words name = telling_words_of (words name)

-- whether two names are alike, or have a word of at least three characters in common
unfoldable pub is_related : Text → Text → Bool
is_related a b = has_common (marks a) (marks b) || has_common (telling_words a) (telling_words b)

abbrev pub first_words_of : List (List ℕ) → List Text
first_words_of [] = []
first_words_of (first ∷ []) = []
first_words_of (first ∷ second ∷ rest) = sorted_key (first ∷ []) ∷ joined_key (first ∷ []) ∷ []

-- of a name with two or more words, the two keys that its first word alone would make
unfoldable pub first_words : Text → List Text
first_words name = first_words_of (words name)
