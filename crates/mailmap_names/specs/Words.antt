-- The words of a name. Lists of numbers are code points, except for the bytes of a name.
use Rattle.std.specs.Prelude.{ℕ, zero, suc, ◌+◌, ◌==◌, ◌||◌, if◌then◌else◌, Bool, not, List, [], ◌∷◌, take, length}
use Rattle.std.specs.Prelude.{slice_index, chars, codes, filter, flat_map, position}
use Rattle.std.specs.List.{slice_split}
use Rattle.std.specs.Option.{option_map_or}
use Rattle.std.specs.Str.{is_utf8, str_eq_ignore_ascii_case}
use Rattle.caseless.specs.Caseless.{default_case_fold}
use Rattle.mailmap_entries.specs.Folding.{Text}
use Rattle.ucd_category.specs.GeneralCategory.{general_category}
use Rattle.ucd_category.specs.GeneralCategoryGroup.{in_group}
use Rattle.ucd_category.specs.declared.GeneralCategoryGroup.TheVariants.{Letter, Mark, Number}
use Rattle.unicode_normalization.specs.Forms.{nfkd}

-- How many characters after an opening bracket or quotation mark belong to its aside: those up to the next one of its
-- kind, if that closes it. Else 0.
unfoldable pub len_to_closing : ℕ → ℕ → List ℕ → ℕ
len_to_closing opening closing cs =
    option_map_or (λ end. if slice_index cs end == closing then end + 1 else 0)
    (position (λ x. x == opening || x == closing) cs) 0

-- how many characters after c belong to the aside that c opens: `(` up to `)`, `[` up to `]`, `"` up to `"`; or 0
abbrev pub aside_len : ℕ → List ℕ → ℕ
aside_len c cs =
    if c == 40 then len_to_closing 40 41 cs else (
    if c == 91 then len_to_closing 91 93 cs else (
    if c == 34 then len_to_closing 34 34 cs else
    0))

-- the text after its first `skipped` characters, which belong to an aside, with a space for each aside that follows
unfoldable pub without_asides_after : ℕ → List ℕ → List ℕ
without_asides_after skipped [] = []
without_asides_after (suc skipped) (c ∷ cs) = without_asides_after skipped cs
without_asides_after zero (c ∷ cs) =
    (if aside_len c cs == 0 then c else 32) ∷ without_asides_after (aside_len c cs) cs

-- the text with a space for each `(..)`, `[..]` and `".."` without one of its own kind inside, from left to right, once
abbrev pub without_asides : List ℕ → List ℕ
without_asides cs = without_asides_after 0 cs

-- the text begins with ` via `, in any case
abbrev pub begins_with_via : List ℕ → Bool
begins_with_via cs = str_eq_ignore_ascii_case (take 5 cs) (codes " via ")

-- the text before the first ` via `, or all of it without one
unfoldable pub before_via : List ℕ → List ℕ
before_via [] = []
before_via (c ∷ cs) = if begins_with_via (c ∷ cs) then [] else c ∷ before_via cs

-- in NFKD, with full case folding, and in NFKD again
abbrev pub normalized : List ℕ → List ℕ
normalized cs = nfkd (default_case_fold (nfkd cs))

abbrev pub is_mark : ℕ → Bool
is_mark c = in_group Mark (general_category c)

-- a letter or a digit
abbrev pub is_letter : ℕ → Bool
is_letter c = in_group Letter (general_category c) || in_group Number (general_category c)

-- what c is read as: a mark as nothing; ø, đ, ð, þ, ł, ħ, ı, æ, œ, ŧ and ŋ, which don't decompose, as letters of ASCII
abbrev pub letter : ℕ → List ℕ
letter c =
    if is_mark c then [] else (
    if c == 0xF8 then codes "o" else (
    if c == 0x111 then codes "d" else (
    if c == 0xF0 then codes "d" else (
    if c == 0xFE then codes "th" else (
    if c == 0x142 then codes "l" else (
    if c == 0x127 then codes "h" else (
    if c == 0x131 then codes "i" else (
    if c == 0xE6 then codes "ae" else (
    if c == 0x153 then codes "oe" else (
    if c == 0x167 then codes "t" else (
    if c == 0x14B then codes "n" else
    c ∷ [])))))))))))

abbrev pub letters : List ℕ → List ℕ
letters cs = flat_map letter cs

-- the longest runs of letters and digits
abbrev pub runs : List ℕ → List (List ℕ)
runs cs = filter (λ run. not (length run == 0)) (slice_split (λ c. not (is_letter c)) cs)

-- the words of a text as it is, with its asides
unfoldable pub plain_words : List ℕ → List (List ℕ)
plain_words cs = runs (letters (normalized cs))

-- the words of a text without its asides and what follows ` via `; or of all of it, if no word is left
unfoldable pub text_words : List ℕ → List (List ℕ)
text_words cs =
    let found = plain_words (before_via (without_asides cs)) in
    if length found == 0 then plain_words cs else found

-- the words of a name; none if it isn't UTF-8
unfoldable pub words : Text → List (List ℕ)
words name = if is_utf8 name then text_words (chars name) else []
