-- git log's own format, of which the first line is that of a commit.
use Rattle.std.specs.Prelude.{◌≡◌, ◌==◌, ◌&&◌, ◌||◌, ℕ, Bool, true, if◌then◌else◌, nat_le, List, [], ◌∷◌, IfSome, Option, codes, drop, length, take}
use Rattle.std.specs.Char.{is_ascii_hexdigit}
use Rattle.std.specs.List.{list_all, list_any}
use Rattle.std.specs.Str.{bytes_eq}

-- the first line of a text, without its line feed
unfoldable pub first_line : List ℕ → List ℕ
first_line [] = []
first_line (b ∷ rest) = if b == 10 then [] else b ∷ first_line rest

abbrev pub has_feed : List ℕ → Bool
has_feed text = list_any (λ b. b == 10) text

-- nothing, or a space or a carriage return and more
abbrev pub ends_word : List ℕ → Bool
ends_word [] = true
ends_word (b ∷ rest) = b == 32 || b == 13

-- so many hexadecimal digits, and then nothing, or a space or a carriage return and more
abbrev pub begins_with_hash : ℕ → List ℕ → Bool
begins_with_hash digits text =
    nat_le digits (length text) && list_all is_ascii_hexdigit (take digits text) && ends_word (drop digits text)

-- `commit ` and the hash of a commit, of either kind
abbrev pub is_commit_line : List ℕ → Bool
is_commit_line line = nat_le 7 (length line) && bytes_eq (take 7 line) (codes "commit ")
    && (begins_with_hash 40 (drop 7 line) || begins_with_hash 64 (drop 7 line))

abbrev pub is_git_log : List ℕ → Bool
is_git_log text = is_commit_line (first_line text)

-- whether the input, if it is known, is git log's own format
abbrev pub IsLog : Option (List ℕ) → Bool → Type 0
IsLog input is_log = IfSome input (λ bytes. is_git_log bytes ≡ is_log)
