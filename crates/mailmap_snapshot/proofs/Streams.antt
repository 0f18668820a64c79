-- Contacts that arrive in parts get the same answers as all at once, line by line.
use Rattle.std.proofs.Common.{set, ◌≡◌, ◌+◌, ◌-◌, ◌<◌, ℕ, Some, None, List, [], ◌∷◌, ◌++◌, length, take, drop, append-nil, append_assoc, refl, sym, ap, ◌∙◌, arith, inl, inr, ◌≢◌, unwrap_or}
use Rattle.std.specs.List.{flat_map}
use Rattle.std.proofs.lemmas.Bool.{eqb-false, eqb-true}
use Rattle.std.proofs.lemmas.Grind.{flat_map-append}
use Rattle.std.proofs.lemmas.List.{drop_at, length-drop, length-take-le, take_rest, nil_from_length}
use Rattle.std.proofs.Math.Seq.{take-length}
use Rattle.bstr.specs.Find.{IsFirstByte, is_byte}
use Rattle.mailmap_entries.specs.Entries.{Mapping}
use Rattle.mailmap_entries.specs.Folding.{Text}
use Rattle.mailmap_entries.specs.Semantics.{Fields, IsNormal, no_fields}
use Rattle.mailmap_entries.proofs.Alike.{alike_answer}
use Rattle.mailmap_entries.proofs.Normal.{alike_normal}
use Rattle.mailmap_grammar.specs.LineParts.{AnswersFront, AreInOrder}
use Rattle.mailmap_grammar.specs.Lines.{HoldsNo, contact_in}
use Rattle.mailmap_grammar.proofs.LineParts.{ended_part, front_all, front_more, front_none, unended_part, more_answered, slices}
use Rattle.mailmap_snapshot.specs.Contacts.{answer, answers, contact_answer, contact_lines}
use Rattle.mailmap_grammar.specs.CachedLines.{CachedLine, Inserts}
use Rattle.std.proofs.lemmas.List.Elements.{All-push, All-same, All-set}
use Rattle.mailmap_snapshot.specs.Streams.{AreCachedAnswers, AnswersParts, HasTaken}
use Rattle.mailmap_snapshot.proofs.ContactLines.{contact_lines-append, contact_lines-nil, contact_lines-open}

-- a normal list gives the same answers as the mappings that it is made from
pub same_answers : (h n : List Mapping) → IsNormal h n → (contacts : Text) → answers n contacts ≡ answers h contacts
same_answers h n d contacts =
    ap (λ (fields : Text → Text → Fields). flat_map (λ line. contact_answer fields line (contact_in line) ++ 10 ∷ []) (contact_lines contacts))
    (λ i name email. unwrap_or (sym (alike_answer h n name email (alike_normal h n d)) i) no_fields)

-- a last line without a line feed
pub open_answers : (h : List Mapping) (partial : Text) → HoldsNo 10 partial → length partial ≢ 0
    → answers h partial ≡ answer h partial ++ 10 ∷ []
open_answers h partial held some =
    ap (flat_map (λ line. answer h line ++ 10 ∷ [])) (contact_lines-open partial held (λ none. some (ap length none))) ∙ append-nil (answer h partial ++ 10 ∷ [])

pub no_answers : (h : List Mapping) (partial : Text) → length partial ≡ 0 → answers h partial ≡ []
no_answers h partial none = ap (answers h) (nil_from_length partial none) ∙ ap (flat_map (λ line. answer h line ++ 10 ∷ [])) contact_lines-nil

-- the answers to lines after whole lines
pub answers-append : (m : List Mapping) → AreInOrder (answers m)
answers-append m xs ys ends = grind (arith, contact_lines-append, flat_map-append)

-- whatever the parts are, whole lines of all bytes have been answered
front-parts : (m : List Mapping) (partial : Text) (parts : List Text) (text rest : Text)
    → AnswersParts m partial parts text rest
    → AnswersFront (answers m) (partial ++ flat_map (λ part. part) parts) text rest
front-parts m partial [] text rest (none, same) = rw (none, same, append-nil partial) (front_none (answers m) (answers-append m) partial)
front-parts m partial (part ∷ parts) text rest (made, next, later, is, first, others) =
    rw (is, ← append_assoc partial part (flat_map (λ part. part) parts))
    (front_more (answers m) (answers-append m) (flat_map (λ part. part) parts) first (front-parts m next parts later rest others))

-- the answers to the parts and to the partial line are the answers to all bytes
pub all-parts : (m : List Mapping) (parts : List Text) (text partial : Text) → AnswersParts m [] parts text partial
    → text ++ answers m partial ≡ answers m (flat_map (λ part. part) parts)
all-parts m parts text partial each = front_all (answers m) (answers-append m) (front-parts m [] parts text partial each)

pub ruleset stream_laws = (front_none, front_more, front_all, answers-append, all-parts)

-- ---- one line

-- a part without a line feed doesn't end the partial line
pub unended_taken : (m : List Mapping) (partial part before : Text) → IsFirstByte (is_byte 10) part None → HoldsNo 10 partial
    → HasTaken m partial part before (length part) (partial ++ part) before
unended_taken m partial part before none held = record {
  within = omega arith;
  some = λ some. some;
  answered = rw (take-length part) (unended_part (answers m) (answers-append m) none held (sym (append-nil before)));
}

-- a line feed ends a line, and answers the partial line with it
pub line_ended : (m : List Mapping) (partial part before : Text) (feed : ℕ) → IsFirstByte (is_byte 10) part (Some feed)
    → HasTaken m partial part before (length (take (feed + 1) part)) [] (before ++ answers m (partial ++ take (feed + 1) part))
line_ended m partial part before feed first =
    let long : length (take (feed + 1) part) ≡ feed + 1 = length-take-le (feed + 1) part (omega (arith, first.0.high)) in
    rw long (record {
      within = omega (arith, first.0.high);
      some = λ _. omega arith;
      answered = ended_part (answers m) part feed first refl;
    })

-- one more line, from the rest of the part
pub next : {m : List Mapping} {partial part before left between last after : Text} (taken count : ℕ)
    → HasTaken m partial part before taken left between → taken < length part
    → HasTaken m left (take (length part - taken) (drop taken part)) between count last after → HasTaken m partial part before (taken + count) last after
next {m} {part = part} {before} taken count h more k =
    let size = ap length (take_rest part taken) ∙ length-drop taken part in
    record {
      within = omega (arith, size, k.within);
      some = λ _. omega (arith, size, k.some);
      answered = rw (← slices taken count part) (more_answered (answers m) (answers-append m) h.answered
          (λ made is. is ∙ ap (λ t. t ++ made) h.answered.is_made ∙ append_assoc before h.answered.made made) k.answered);
    }

-- one more answer in the cache is also right
pub cached : (m : List Mapping) (old new : List CachedLine) (k : CachedLine) → Inserts old k new
    → AreCachedAnswers m old → k.answer ≡ answers m k.line → AreCachedAnswers m new
cached m old new k (inl is) all right = All-same (λ k. k.answer ≡ answers m k.line) new (old ++ k ∷ []) is (All-push (λ k. k.answer ≡ answers m k.line) old k all right)
cached m old new k (inr (i, within, is)) all right = All-same (λ k. k.answer ≡ answers m k.line) new (set old i k) is (All-set (λ k. k.answer ≡ answers m k.line) old i k right all)

pub ruleset finish_laws = (no_answers, open_answers, eqb-true, eqb-false, nil_from_length, append-nil)

pub ruleset cache_laws = (cached, drop_at, take_rest)
