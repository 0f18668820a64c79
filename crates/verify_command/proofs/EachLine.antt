-- The explanations of lines, one after another.
use Rattle.std.proofs.Common.{◌≡◌, ◌++◌, ◌∙◌, ◌+◌, ℕ, [], ◌∷◌, Some, ap, append-nil, append_assoc, flat_map, inl, inr, refl, sym, take}
use Rattle.std.proofs.lemmas.Bool.{eqb-true}
use Rattle.bstr.specs.Find.{IsFirstByte, is_byte}
use Rattle.mailmap_grammar.specs.Lines.{HoldsNo}
use Rattle.mailmap_entries.specs.Folding.{Text}
use Rattle.mailmap_entries.proofs.Parts.{all_append}
use Rattle.mailmap_grammar.proofs.Plain.{last_at}
use Rattle.mailmap_grammar.proofs.SplitOnce.{held_before}
use Rattle.mailmap_grammar.proofs.Trimmed.{trim-nil}
use Rattle.mailmap_findings.specs.Positions.{whole_lines}
use Rattle.mailmap_findings.proofs.Concatenated.{AreWhole, whole_lines-joined}
use Rattle.mailmap_report.specs.Explained.{Grounds, each_line, explained_line}

one_line : (answer : Text → Text) (line : Text) → AreWhole (line ∷ []) → each_line answer line ≡ answer line
one_line answer line are = ap (flat_map answer) (ap whole_lines (sym (append-nil line)) ∙ whole_lines-joined (line ∷ []) are) ∙ append-nil (answer line)

pub no_lines : (answer : Text → Text) → [] ≡ each_line answer []
unfolding whole_lines
no_lines answer = refl

-- a last line without a line feed, or none
pub last_line : (g : Grounds) (line : Text) → HoldsNo 10 line
    → each_line (explained_line g) line ≡ explained_line g line
unfolding whole_lines
last_line g [] held = rw trim-nil refl
last_line g (b ∷ line) held = one_line (explained_line g) (b ∷ line) (inr (((λ e. cc), held), refl), tt)

-- the first line feed of a part ends the partial line
pub line_ended : (g : Grounds) (partial part : Text) (feed : ℕ) → IsFirstByte (is_byte 10) part (Some feed)
    → HoldsNo 10 partial
    → each_line (explained_line g) (partial ++ take (feed + 1) part) ≡ explained_line g (partial ++ take (feed + 1) part)
line_ended g partial part feed first held =
    let front = partial ++ take feed part in
    let line_is : partial ++ take (feed + 1) part ≡ front ++ 10 ∷ [] = ap (λ l. partial ++ l) (last_at part feed (feed + 1) 10 first.0.high refl (eqb-true _ _ first.1)) ∙ sym (append_assoc partial (take feed part) (10 ∷ [])) in
    one_line (explained_line g) _ (inl (front, all_append _ partial (take feed part) held (held_before 10 part feed first), line_is), tt)
