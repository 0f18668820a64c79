-- The text of suggestions in pieces.
use Rattle.std.proofs.Common.{◌≡◌, ◌++◌, List, [], ◌∷◌, ◌∙◌, ap, append_assoc, false, refl}
use Rattle.std.specs.List.{list_any}
use Rattle.mailmap_entries.specs.Folding.{Text}
use Rattle.mailmap_suggestions.specs.SuggestedText.{feed_after, printed, suggestion_text, suggestions_text}
use Rattle.mailmap_suggestions.specs.Suggestions.{Suggestion, needs_review}
use Rattle.mailmap_report.specs.Report.{text_of}
use Rattle.mailmap_report.specs.Suggested.{suggestion_pieces}

text_after_none : (found : List Suggestion) → text_of (suggestion_pieces [] found) ≡ suggestions_text found
text_after_none [] = refl
text_after_none (s ∷ found) = ap (λ t. suggestion_text (needs_review s.kind) s ++ t) (text_after_none found)

-- they are the text that can be appended to the mailmaps
pub all_printed : (buffers : List Text) (found : List Suggestion)
    → text_of (suggestion_pieces (feed_after buffers) found) ≡ printed buffers found
all_printed buffers [] = refl
all_printed buffers (s ∷ found) =
    let text = suggestion_text (needs_review s.kind) s in
    ap (λ t. (feed_after buffers ++ text) ++ t) (text_after_none found) ∙ append_assoc (feed_after buffers) text (suggestions_text found)

-- none of them is a finding
pub none_count : (start : Text) (found : List Suggestion) → list_any (λ p. p.counts) (suggestion_pieces start found) ≡ false
none_count start [] = refl
none_count start (s ∷ found) = none_count [] found
