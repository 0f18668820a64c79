-- The lines of a mailmap from an offset on.
use Rattle.std.proofs.Common.{◌≡◌, ◌+◌, ◌<◌, ◌≤◌, ℕ, List, [], ◌∷◌, ◌++◌, take, drop, length, length-take-le, take-append-drop, option_to_list, sym, ap, ◌∙◌, arith}
use Rattle.std.proofs.lemmas.List.{drop-drop}
use Rattle.bstr.specs.Text.{line_len, lines_of}
use Rattle.bstr.proofs.lemmas.LineLemmas.{line_len-bounds, lines-nil, lines-step}
use Rattle.mailmap_entries.specs.Folding.{Text}
use Rattle.mailmap_findings.specs.Positions.{whole_lines}
use Rattle.mailmap_findings.proofs.WholeLines.{lines-whole}
use Rattle.gix_mailmap_c.specs.Places.{IsPartAt, next_number, parsed_from, parsed_line}

-- the first line of a text, and the lines of what comes after it
pub record IsFirstLine (text line : Text) (rest : List Text) : Type 0 where
  pub some : 0 < length line
  pub within : length line ≤ length text
  pub front : take (length line) text ≡ line
  pub left : rest ≡ whole_lines (drop (length line) text)

pub first_line : (text line : Text) (rest : List Text) → lines_of text ≡ line ∷ rest → IsFirstLine text line rest
first_line [] line rest is =
    let none : [] ≡ line ∷ rest = sym lines-nil ∙ is in
    absurd (cc)
first_line (b ∷ s) line rest is =
    let text = b ∷ s in
    let n = line_len text in
    let bounds = line_len-bounds text (omega arith) in
    let both : take n text ∷ lines_of (drop n text) ≡ line ∷ rest = sym (lines-step text (omega arith)) ∙ is in
    let first : take n text ≡ line = cc in
    let after : lines_of (drop n text) ≡ rest = cc in
    let len : length line ≡ n = ap length (sym first) ∙ length-take-le n text bounds.1 in
    record {
      some = omega (arith, len, bounds.0);
      within = omega (arith, len, bounds.1);
      front = ap (λ k. take k text) len ∙ first;
      left = sym after ∙ lines-whole (drop n text) ∙ ap (λ k. whole_lines (drop k text)) (sym len);
    }

-- the line at an offset is there
pub first_part : (mailmap : Text) (start : ℕ) (line : Text) (rest : List Text) → start ≤ length mailmap
    → lines_of (drop start mailmap) ≡ line ∷ rest → IsPartAt mailmap start line
first_part mailmap start line rest within is =
    let tail = drop start mailmap in
    let whole : line ++ drop (length line) tail ≡ tail =
    ap (λ l. l ++ drop (length line) tail) (sym (first_line tail line rest is).front) ∙ take-append-drop (length line) tail in
    record {
      before = take start mailmap;
      after = drop (length line) tail;
      whole = sym (take-append-drop start mailmap) ∙ ap (λ t. take start mailmap ++ t) (sym whole);
      begins = length-take-le start mailmap within;
    }

-- what the line at an offset is parsed to comes before what is parsed after it
pub parsed_more : (mailmap : Text) (start lines : ℕ) (line : Text) (rest : List Text)
    → lines_of (drop start mailmap) ≡ line ∷ rest
    → parsed_from start lines (whole_lines (drop start mailmap))
    ≡ option_to_list (parsed_line start (next_number lines) line)
    ++ parsed_from (start + length line) (next_number lines) (whole_lines (drop (start + length line) mailmap))
parsed_more mailmap start lines line rest is =
    let text = drop start mailmap in
    ap (parsed_from start lines) (sym (lines-whole text) ∙ is)
    ∙ ap (λ r. option_to_list (parsed_line start (next_number lines) line) ++ parsed_from (start + length line) (next_number lines) r)
    ((first_line text line rest is).left ∙ ap whole_lines (drop-drop (length line) start mailmap))

pub parsed_none : (mailmap : Text) (start lines : ℕ) → lines_of (drop start mailmap) ≡ []
    → parsed_from start lines (whole_lines (drop start mailmap)) ≡ []
parsed_none mailmap start lines is = ap (parsed_from start lines) (sym (lines-whole (drop start mailmap)) ∙ is)
