-- Parts of an input whose contacts are counted.
use Rattle.std.proofs.Common.{◌≡◌, ◌∙◌, ◌+◌, ◌-◌, ◌<◌, ℕ, List, [], ◌∷◌, ◌++◌, Some, add-one, ap, append_assoc, drop, inr, length, sym, take, take-append-drop}
use Rattle.std.proofs.lemmas.Bool.{eqb-true}
use Rattle.std.proofs.lemmas.List.{take_rest}
use Rattle.std.proofs.Math.Seq.{take-suc}
use Rattle.bstr.specs.Find.{IsLastByte, is_byte}
use Rattle.bstr.specs.Text.{lines_of}
use Rattle.mailmap_contacts.specs.Counts.{Counter, HasCounted}
use Rattle.mailmap_grammar.proofs.LineParts.{ends_after, lines_of-append}
use Rattle.command_line.specs.Counted.{HasCountedRead}

-- a part without a line feed doesn't end the partial line
pub unended_part : {read partial : List ℕ} {counter : Counter} (part : List ℕ) → HasCountedRead read partial counter → HasCountedRead (read ++ part) (partial ++ part) counter
unended_part {partial = partial} part h = record { whole = h.whole; ends = h.ends; is = ap (λ l. l ++ part) h.is ∙ append_assoc h.whole partial part; counted = h.counted }

-- the lines up to the last line feed of a part are counted
pub counted_up_to : {read partial : List ℕ} {old new : Counter} (part text rest : List ℕ) (feed : ℕ) → IsLastByte (is_byte 10) part (Some feed)
    → text ≡ partial ++ take (feed + 1) part → rest ≡ take (length part - (feed + 1)) (drop (feed + 1) part)
    → ((lines : List (List ℕ)) → HasCounted lines old → HasCounted (lines ++ lines_of text) new) → HasCountedRead read partial old → HasCountedRead (read ++ part) rest new
counted_up_to {partial = partial} part text rest feed last text_is rest_is counts h =
    let within : feed < length part = last.0.high in
    let all : rest ≡ drop (feed + 1) part = rest_is ∙ take_rest part (feed + 1) in
    let line : take (feed + 1) part ≡ take feed part ++ 10 ∷ [] =
    ap (λ n. take n part) (add-one feed) ∙ take-suc part feed 0 within ∙ ap (λ b. take feed part ++ b ∷ []) (eqb-true _ _ last.1) in
    record {
      whole = h.whole ++ text;
      ends = ends_after h.whole text h.ends (inr (partial ++ take feed part, text_is ∙ ap (λ l. partial ++ l) line ∙ sym (append_assoc partial (take feed part) (10 ∷ []))));
      is = cc (append_assoc h.whole partial part, append_assoc h.whole text rest, append_assoc partial (take (feed + 1) part) (drop (feed + 1) part), take-append-drop (feed + 1) part);
      counted = rw (lines_of-append h.whole text h.ends) (counts (lines_of h.whole) h.counted);
    }
