-- bstr splits a text into the lines of the specification.
use Rattle.std.proofs.Common.{◌≡◌, ℕ, List, [], ◌∷◌, ◌++◌, flat_map, take, drop, sym, ap, ◌∙◌, arith}
use Rattle.std.proofs.lemmas.Bool.{cases_Bool, cond-true, cond-false}
use Rattle.bstr.specs.Text.{line_len, lines_of}
use Rattle.bstr.proofs.lemmas.LineLemmas.{lines-nil, lines-step}
use Rattle.std.proofs.lemmas.Grind.{flat_map-append}
use Rattle.mailmap_entries.specs.Folding.{Text}
use Rattle.mailmap_grammar.specs.LineParts.{AreInOrder}
use Rattle.mailmap_grammar.specs.Lines.{with_first}
use Rattle.mailmap_grammar.proofs.LineParts.{lines_of-append}
use Rattle.mailmap_findings.specs.Positions.{whole_lines}

-- prepending a byte to the first line
one_more : (b : ℕ) (s : List ℕ) → (b ∷ take (line_len s) s) ∷ lines_of (drop (line_len s) s) ≡ with_first b (lines_of s)
unfolding line_len
one_more b [] = ap (λ ls. (b ∷ []) ∷ ls) lines-nil ∙ sym (ap (with_first b) lines-nil)
one_more b (c ∷ s) = sym (ap (with_first b) (lines-step (c ∷ s) (omega arith)))

pub lines-whole : (s : List ℕ) → lines_of s ≡ whole_lines s
unfolding line_len whole_lines
lines-whole [] = lines-nil
lines-whole (b ∷ s) =
    grind (arith, cond-true, lines-step, cond-false, one_more, cases_Bool, (lines-whole s), (lines-whole s))

-- the answers to whole lines come before those to the lines after them
pub whole_in_order : (answer : Text → Text) → AreInOrder (λ text. flat_map answer (whole_lines text))
whole_in_order answer whole more ends = ap (flat_map answer)
    (sym (lines-whole (whole ++ more)) ∙ lines_of-append whole more ends ∙ (λ i. lines-whole whole i ++ lines-whole more i))
    ∙ flat_map-append answer (whole_lines whole) (whole_lines more)
