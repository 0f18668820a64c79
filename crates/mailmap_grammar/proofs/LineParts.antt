-- Lines that arrive in parts: whole lines after whole lines, and the answers to parts together.
use Rattle.std.proofs.Common.{◌≡◌, ◌⊎◌, ◌∙◌, ◌+◌, ◌-◌, ℕ, [], ◌∷◌, ◌++◌, None, Some, ap, append-nil, append_assoc, arith, drop, inl, inr, length, length-append, refl, slice_index, subst, sym, take}
use Rattle.std.proofs.lemmas.Bool.{eq-eqb, eqb-true}
use Rattle.std.proofs.lemmas.List.{get_or_push, length_push, take_rest}
use Rattle.std.proofs.Math.Seq.{take-add}
use Rattle.bstr.specs.Find.{IsFirstByte, is_byte}
use Rattle.bstr.specs.Text.{lines_of}
use Rattle.bstr.proofs.lemmas.LineLemmas.{lines-append}
use Rattle.mailmap_entries.specs.Folding.{Text}
use Rattle.mailmap_entries.proofs.Parts.{all_append}
use Rattle.mailmap_grammar.specs.LineParts.{AnswersFront, AreInOrder, EndsLine, HasAnswered}
use Rattle.mailmap_grammar.specs.Lines.{HoldsNo}
use Rattle.mailmap_grammar.proofs.Plain.{last_at}
use Rattle.mailmap_grammar.proofs.SplitOnce.{none_held}

pub ends_after : (whole more : Text) → EndsLine whole → EndsLine more → EndsLine (whole ++ more)
ends_after whole more before (inl none) = subst EndsLine (sym (ap (λ l. whole ++ l) none ∙ append-nil whole)) before
ends_after whole more before (inr (front, is)) = inr (whole ++ front, ap (λ l. whole ++ l) is ∙ sym (append_assoc whole front (10 ∷ [])))

-- the lines after whole lines
pub lines_of-append : (whole more : Text) → EndsLine whole → lines_of (whole ++ more) ≡ lines_of whole ++ lines_of more
lines_of-append whole more ends = lines-append (length whole) whole more (omega arith) (last ends)
  where
    last : EndsLine whole → (length whole ≡ 0) ⊎ (slice_index whole (length whole - 1) ≡ 10)
    last (inl none) = inl (ap length none)
    last (inr (front, is)) = inr (rw is (get_or_push front 10 0 _ (omega (arith, length_push front 10))))

-- what was taken of a part, and more of its rest
pub slices : (taken count : ℕ) (part : Text)
    → take taken part ++ take count (take (length part - taken) (drop taken part)) ≡ take (taken + count) part
slices taken count part = cc (take_rest part taken, take-add taken count part)

twice_none : (xs : Text) → xs ≡ xs ++ xs → xs ≡ []
twice_none [] is = refl
twice_none (x ∷ xs) is = absurd (omega (arith, ap length is, length-append (x ∷ xs) (x ∷ xs)))

module _ (answers : Text → Text) (in_order : AreInOrder answers) where
  -- an empty text answers the start of any bytes
  pub front_none : (bytes : Text) → AnswersFront answers bytes [] bytes
  front_none bytes = record { whole = []; ends = inl refl; bytes_are = refl; text_is = sym (twice_none (answers []) (in_order [] [] (inl refl))) }

  -- the answers so far, followed by those to the rest and to more bytes
  pub front_more : {bytes text rest : Text} (more : Text) {made left : Text} → AnswersFront answers bytes text rest
      → AnswersFront answers (rest ++ more) made left
      → AnswersFront answers (bytes ++ more) (text ++ made) left
  front_more {bytes} {text} {rest} more {made} {left} a b = record {
    whole = a.whole ++ b.whole;
    ends = ends_after a.whole b.whole a.ends b.ends;
    bytes_are = cc (append_assoc a.whole rest more, append_assoc a.whole b.whole left);
    text_is = cc (in_order a.whole b.whole a.ends);
  }

  -- the answers so far and those to the rest are the answers to all bytes
  pub front_all : {bytes text rest : Text} → AnswersFront answers bytes text rest → text ++ answers rest ≡ answers bytes
  front_all {rest = rest} a = cc (in_order a.whole rest a.ends)

  pub nothing_answered : {partial : Text} {P : Text → Type 0} → HoldsNo 10 partial → P [] → HasAnswered answers partial [] partial P
  nothing_answered {partial} held none = record { made = []; front = rw (append-nil partial) (front_none partial); no_feed = held; is_made = none }

  pub more_answered : {partial xs mid ys left : Text} {P Q R : Text → Type 0} (h : HasAnswered answers partial xs mid P)
      → ((made : Text) → Q made → R (h.made ++ made))
      → HasAnswered answers mid ys left Q → HasAnswered answers partial (xs ++ ys) left R
  more_answered {partial} {xs} {ys = ys} h join k = record {
    made = h.made ++ k.made;
    front = rw (append_assoc partial xs ys) at (front_more ys h.front k.front);
    no_feed = k.no_feed;
    is_made = join k.made k.is_made;
  }

  -- a part without a line feed doesn't end the partial line
  pub unended_part : {partial part : Text} {P : Text → Type 0} → IsFirstByte (is_byte 10) part None → HoldsNo 10 partial → P []
      → HasAnswered answers partial part (partial ++ part) P
  unended_part {partial} {part} none held nothing = record {
    made = [];
    front = front_none (partial ++ part);
    no_feed = all_append _ partial part held (none_held 10 part (λ k l is_feed. none k (omega arith) l (eq-eqb _ _ is_feed)));
    is_made = nothing;
  }

-- the first line feed of a part ends the partial line
pub ended_part : (answers : Text → Text) {partial : Text} (part : Text) (feed : ℕ) {P : Text → Type 0}
    → IsFirstByte (is_byte 10) part (Some feed) → P (answers (partial ++ take (feed + 1) part))
    → HasAnswered answers partial (take (feed + 1) part) [] P
ended_part answers {partial} part feed first made =
    let line = partial ++ take (feed + 1) part in
    record {
      made = answers line;
      front = record {
        whole = line;
        ends = inr (partial ++ take feed part, ap (λ l. partial ++ l) (last_at part feed (feed + 1) 10 first.0.high refl (eqb-true _ _ first.1)) ∙ sym (append_assoc partial (take feed part) (10 ∷ [])));
        bytes_are = sym (append-nil line);
        text_is = refl;
      };
      no_feed = tt;
      is_made = made;
    }
