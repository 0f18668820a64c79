-- A text after whole lines reads as both, one after the other.
use Rattle.std.proofs.Common.{◌≡◌, ◌≢◌, ◌∙◌, ◌+◌, ◌==◌, ℕ, Bool, true, false, true≢false, if◌then◌else◌, Option, Some, None, option_to_list, List, [], ◌∷◌, ◌++◌, refl, sym, ap}
use Rattle.std.specs.List.{flat_map}
use Rattle.std.specs.Result.{result_ok}
use Rattle.std.proofs.lemmas.Grind.{flat_map-append}
use Rattle.mailmap_entries.specs.Entries.{Mapping}
use Rattle.mailmap_entries.specs.Folding.{Text}
use Rattle.mailmap_grammar.specs.Lines.{ParsedContact, Absent, Unclosed, Closed, Reading, cut, first_contact, is_comment, line_reading, mappings_in, mappings_of, pieces, reading, readings_from, trimmed_contact, two_contacts, unless_blank, with_first}
use Rattle.mailmap_grammar.specs.Trimming.{trim}
use Rattle.mailmap_findings.specs.Git.{git_entries}
use Rattle.mailmap_findings.specs.GitAnswers.{git_mappings}
use Rattle.mailmap_findings.specs.Positions.{whole_lines}
use Rattle.mailmap_suggestions.specs.Appending.{ends_line}

-- ---- lines

-- a byte in front of lines: a line feed makes a line of its own
abbrev pub with_byte : Bool → ℕ → Text → List Text → List Text
with_byte is_feed b alone ls = if is_feed then alone ∷ ls else with_first b ls

some_lines : (is_feed : Bool) (b : ℕ) (alone : Text) (ls : List Text) → with_byte is_feed b alone ls ≢ []
some_lines true b alone ls e = cc
some_lines false b alone [] e = cc
some_lines false b alone (l ∷ ls) e = cc

last_byte : (is_feed : Bool) (b : ℕ) (alone : Text) (ms : List Text) → is_feed ≡ true → with_byte is_feed b alone ms ≡ with_byte is_feed b alone [] ++ ms
last_byte true b alone ms is = refl
last_byte false b alone ms is = absurd (true≢false (sym is))

one_byte : (is_feed : Bool) (b : ℕ) (alone : Text) (ls ms : List Text) → ls ≢ [] → with_byte is_feed b alone (ls ++ ms) ≡ with_byte is_feed b alone ls ++ ms
one_byte true b alone ls ms some = refl
one_byte false b alone [] ms some = absurd (some refl)
one_byte false b alone (l ∷ ls) ms some = refl

pieces_joined : (s t : Text) → ends_line s ≡ true → pieces (s ++ t) ≡ pieces s ++ pieces t
unfolding pieces
pieces_joined [] t is = refl
pieces_joined (b ∷ []) t is = last_byte (b == 10) b [] (pieces t) is
pieces_joined (b ∷ c ∷ s) t is = ap (with_byte (b == 10) b []) (pieces_joined (c ∷ s) t is)
    ∙ one_byte (b == 10) b [] (pieces (c ∷ s)) (pieces t) (some_lines (c == 10) c [] (pieces s))

lines_joined : (s t : Text) → ends_line s ≡ true → whole_lines (s ++ t) ≡ whole_lines s ++ whole_lines t
unfolding whole_lines
lines_joined [] t is = refl
lines_joined (b ∷ []) t is = last_byte (b == 10) b (b ∷ []) (whole_lines t) is
lines_joined (b ∷ c ∷ s) t is = ap (with_byte (b == 10) b (b ∷ [])) (lines_joined (c ∷ s) t is)
    ∙ one_byte (b == 10) b (b ∷ []) (whole_lines (c ∷ s)) (whole_lines t) (some_lines (c == 10) c (c ∷ []) (whole_lines s))

-- ---- what a line maps doesn't depend on its number

two_numbered : (m n : ℕ) (t name email : Text) (c : ParsedContact) → result_ok (two_contacts m t name email c) ≡ result_ok (two_contacts n t name email c)
two_numbered m n t [] email Absent = refl
two_numbered m n t [] email Unclosed = refl
two_numbered m n t [] email (Closed x y z) = refl
two_numbered m n t (b ∷ name) email Absent = refl
two_numbered m n t (b ∷ name) email Unclosed = refl
two_numbered m n t (b ∷ name) email (Closed x y z) = refl

first_numbered : (m n : ℕ) (t : Text) (c : ParsedContact)
    → result_ok (first_contact (λ name email rest. two_contacts m t name email (trimmed_contact (cut rest))) m t c)
    ≡ result_ok (first_contact (λ name email rest. two_contacts n t name email (trimmed_contact (cut rest))) n t c)
first_numbered m n t Absent = refl
first_numbered m n t Unclosed = refl
first_numbered m n t (Closed name [] rest) = refl
first_numbered m n t (Closed name (b ∷ email) rest) = two_numbered m n t name (b ∷ email) (trimmed_contact (cut rest))

abbrev of_reading : Option Reading → List Mapping
of_reading None = []
of_reading (Some r) = option_to_list (result_ok r)

trimmed_numbered : (m n : ℕ) (is_note : Bool) (t : Text) → of_reading (if is_note then None else unless_blank line_reading m t) ≡ of_reading (if is_note then None else unless_blank line_reading n t)
trimmed_numbered m n true t = refl
trimmed_numbered m n false [] = refl
trimmed_numbered m n false (b ∷ t) = ap option_to_list (first_numbered m n (b ∷ t) (trimmed_contact (cut (b ∷ t))))

numbered : (m n : ℕ) (l : Text) → of_reading (reading m l) ≡ of_reading (reading n l)
numbered m n l = trimmed_numbered m n (is_comment l) (trim l)

-- ---- mappings

abbrev line_mappings : Text → List Mapping
line_mappings l = of_reading (reading 1 l)

with_reading : (o : Option Reading) (rs : List Reading) → mappings_in (option_to_list o ++ rs) ≡ of_reading o ++ mappings_in rs
unfolding mappings_in
with_reading None rs = refl
with_reading (Some r) rs = refl

by_lines : (n : ℕ) (ls : List Text) → mappings_in (readings_from reading n ls) ≡ flat_map line_mappings ls
unfolding mappings_in readings_from
by_lines n [] = refl
by_lines n (l ∷ ls) = with_reading (reading n l) (readings_from reading (n + 1) ls) ∙ (λ i. numbered n 1 l i ++ by_lines (n + 1) ls i)

pub mappings_after : (s t : Text) → ends_line s ≡ true → mappings_of (s ++ t) ≡ mappings_of s ++ mappings_of t
mappings_after s t is = by_lines 1 (pieces (s ++ t)) ∙ ap (flat_map line_mappings) (pieces_joined s t is)
    ∙ flat_map-append line_mappings (pieces s) (pieces t) ∙ (λ i. sym (by_lines 1 (pieces s)) i ++ sym (by_lines 1 (pieces t)) i)

pub git_mappings_after : (s t : Text) → ends_line s ≡ true → git_mappings (s ++ t) ≡ git_mappings s ++ git_mappings t
git_mappings_after s t is = ap (flat_map git_entries) (lines_joined s t is) ∙ flat_map-append git_entries (whole_lines s) (whole_lines t)
