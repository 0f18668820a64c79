-- Answering an input part by part: what was read, answered and written.
use Rattle.std.proofs.Common.{◌≡◌, ◌++◌, ◌∙◌, ℕ, [], Option, None, Some, Result, Ok, Err, OnErr, OnOk, ap, append-nil, append_assoc, refl, subst, sym, take}
use Rattle.std.specs.Prelude.{IsOkUnless}
use Rattle.std.specs.Io.KnownBytes.{Appends, Consumes, IsAtEnd, Keeps}
use Rattle.std.proofs.KnownBytes.{Appends-nil, Appends-trans, Consumes-kept, Consumes-nil, Consumes-trans}
use Rattle.mailmap_entries.specs.Folding.{Text}
use Rattle.mailmap_grammar.specs.LineParts.{AnswersFront, AreInOrder, HasAnswered}
use Rattle.mailmap_grammar.proofs.LineParts.{front_more, front_none, more_answered, nothing_answered}
use Rattle.command_line.specs.Answering.{AnswersAll, LeavesLines, StopsIn}
use Rattle.command_line.specs.Failures.{Failure, Input, IsOfInput, Memory, Output}
use Rattle.command_line.specs.Printing.{PrintsFront}
use Rattle.command_line.proofs.Printed.{Appends-both, Appends-longer}
use Rattle.command_line.proofs.Reading.{all_given}

-- `read` was read, and answered as far as lines ended
pub record HasReadParts (answers : Text → Text) (partial : Text) (old now before after : Option Text) : Type 0 where
  pub read : Text
  pub consumed : Consumes old now read
  pub answered : HasAnswered answers [] read partial (Appends before after)

output_failed : {T : Type 0} (answers : Text → Text) (old later before after : Option Text)
    → PrintsFront (AnswersAll answers old) before after
    → LeavesLines {T = T} answers old later before after (Err Output)
output_failed answers old later before after broken = record { prints = tt; reads_all = tt; breaks_off = λ _. broken; input_fails = λ of. absurd of; memory_fails = λ is. cc }

module _ (answers : Text → Text) (in_order : AreInOrder answers) where
  -- a text that answers the start of some bytes answers the start of more
  longer : {bytes made rest : Text} (more : Text) → AnswersFront answers bytes made rest
      → AnswersFront answers (bytes ++ more) made (rest ++ more)
  longer {made = made} {rest} more a = rw (append-nil made) at (front_more answers in_order more a (front_none answers in_order (rest ++ more)))

  both : {partial xs mid : Text} {P : Text → Type 0} (h : HasAnswered answers partial xs mid P) (ys made rest : Text)
      → AnswersFront answers (mid ++ ys) made rest → AnswersFront answers (partial ++ (xs ++ ys)) (h.made ++ made) rest
  both {partial} {xs} h ys made rest f = rw (append_assoc partial xs ys) at (front_more answers in_order ys h.front f)

  -- more bytes are answered in part after those that are answered and written
  pub stopped : {partial xs mid : Text} (ys : Text) (before between after : Option Text) (e : Failure)
      → HasAnswered answers partial xs mid (Appends before between) → StopsIn answers (mid ++ ys) between after e
      → StopsIn answers (partial ++ (xs ++ ys)) before after e
  stopped ys before between after Memory h (made, (rest, f), written) =
      (h.made ++ made, (rest, both h ys made rest f), Appends-trans before between after h.made made h.is_made written)
  stopped ys before between after Output h (made, (rest, f), (n, written)) =
      (h.made ++ made, (rest, both h ys made rest f), Appends-both before between after h.made made n h.is_made written)
  stopped ys before between after _ h stops = absurd stops

  -- no more bytes are answered
  pub stopped_before : {partial xs mid : Text} (ys : Text) (before after : Option Text)
      → HasAnswered answers partial xs mid (Appends before after)
      → StopsIn answers (partial ++ (xs ++ ys)) before after Memory
  stopped_before {mid = mid} ys before after h = stopped ys before after after Memory h ([], (mid ++ ys, front_none answers in_order (mid ++ ys)), Appends-nil after)

  -- a write of the answers to the first of some bytes fails
  pub cut : {mid xs left : Text} (ys : Text) (between after : Option Text) {text empty shown : Text} (e : Failure)
      → e ≡ Output → empty ≡ [] → shown ≡ text → HasAnswered answers mid xs left (λ made. text ≡ empty ++ made)
      → (n : ℕ) × Appends between after (take n shown) → StopsIn answers (mid ++ (xs ++ ys)) between after e
  cut {mid} {xs} {left} ys between after e failed none is h (n, written) =
      let said : _ ≡ h.made = is ∙ h.is_made ∙ ap (λ t. t ++ h.made) none in
      rw failed (h.made, (left ++ ys, rw (append_assoc mid xs ys) at (longer ys h.front)), (n, rw said at written))

  -- ---- all parts

  -- answers to the first lines, and those to what is left, are all answers
  all_answered : (old now : Option Text) (bytes made rest : Text) → Consumes old now bytes
      → AnswersFront answers bytes made rest → (later : Text) × AnswersAll answers old (made ++ later)
  all_answered None now bytes made rest consumed a = (answers rest, (bytes, tt, cc (in_order a.whole rest a.ends)))
  all_answered (Some x) None bytes made rest consumed a = absurd consumed
  all_answered (Some x) (Some y) bytes made rest consumed a =
      let b = longer y a in (answers (rest ++ y), (bytes ++ y, sym consumed, cc (in_order b.whole (rest ++ y) b.ends)))

  module _ {old now : Option Text} {partial : Text} {before between : Option Text} (h : HasReadParts answers partial old now before between) where
    module _ (later after : Option Text) (part : Text) (more_read : Consumes now later part) where
      consumed : Consumes old later (h.read ++ part)
      consumed = Consumes-trans old now later h.read part h.consumed more_read

      pub one_more : {left : Text} → HasAnswered answers partial part left (Appends between after)
          → HasReadParts answers left old later before after
      one_more k = record { read = h.read ++ part; consumed = consumed; answered = more_answered answers in_order h.answered (λ made w. Appends-trans before between after h.answered.made made h.answered.is_made w) k }

      -- answering a part fails
      pub part_failed : {T : Type 0} (e : Failure) → StopsIn answers (partial ++ part) between after e
          → LeavesLines {T = T} answers old later before after (Err e)
      part_failed Memory stops =
          let all = stopped part before between after Memory h.answered stops in
          record { prints = tt; reads_all = tt; breaks_off = λ is. cc; input_fails = λ of. absurd of; memory_fails = λ _. (all.0, (h.read ++ part, consumed, all.1), all.2) }
      part_failed Output stops =
          let all = stopped part before between after Output h.answered stops in
          let whole = all_answered old later (h.read ++ part) all.0 all.1.0 consumed all.1.1 in
          output_failed answers old later before after (_, whole.1, Appends-longer before after all.2.0 all.0 whole.0 all.2.1)
      part_failed _ stops = absurd stops

    -- a read fails
    pub input_failed : {T : Type 0} (later : Option Text) (e : Failure) → IsOfInput e → Keeps now later
        → LeavesLines {T = T} answers old later before between (Err e)
    input_failed later (Input cause) is kept =
        let read = subst (Consumes old later) h.answered.front.bytes_are (Consumes-kept old now later h.read h.consumed kept) in
        record {
          prints = tt;
          reads_all = tt;
          breaks_off = λ is. cc;
          input_fails = λ of. (
            h.answered.made,
            (h.answered.front.whole, partial, record { consumed = read; ends = h.answered.front.ends; no_feed = h.answered.no_feed }, h.answered.front.text_is),
            h.answered.is_made,
          );
          memory_fails = λ is. cc;
        }
    input_failed later _ is kept = absurd is

    -- memory runs out between two parts
    pub memory_failed : {T : Type 0} (later : Option Text) → Consumes now later []
        → LeavesLines {T = T} answers old later before between (Err Memory)
    memory_failed later none =
        part_failed later between [] none Memory ([], (partial ++ [], front_none answers in_order (partial ++ [])), Appends-nil between)

    all_lines : (later : Option Text) → Consumes now later [] → IsAtEnd later
        → AnswersAll answers old (h.answered.made ++ answers partial)
    all_lines later none end = (
      h.read,
      all_given old later h.read (subst (Consumes old later) (append-nil h.read) (Consumes-trans old now later h.read [] h.consumed none)) end,
      cc (in_order h.answered.front.whole partial h.answered.front.ends),
    )

    -- a read finds the end of the input, and the answer to a last line without a line feed is written
    pub ended : {T : Type 0} (later after : Option Text) (r : Result T Failure) → Consumes now later [] → IsAtEnd later
        → IsOkUnless r Output → OnOk r (Appends between after (answers partial))
        → OnErr r ((n : ℕ) × Appends between after (take n (answers partial))) → LeavesLines answers old later before after r
    ended later after (Ok x) none end only ok err = record {
      prints = (_, all_lines later none end, Appends-trans before between after h.answered.made (answers partial) h.answered.is_made ok);
      reads_all = end;
      breaks_off = λ is. cc;
      input_fails = tt;
      memory_fails = λ is. cc;
    }
    ended later after (Err e) none end only ok (n, broken) =
        rw only (output_failed answers old later before after (_, all_lines later none end, Appends-both before between after h.answered.made (answers partial) n h.answered.is_made broken))

  -- before the first read
  pub begun : {partial : Text} (old before : Option Text) → partial ≡ [] → HasReadParts answers partial old old before before
  begun old before none = record { read = []; consumed = Consumes-nil old; answered = rw none (nothing_answered answers in_order tt (Appends-nil before)) }

  -- memory runs out then
  pub nothing : {T : Type 0} (old before : Option Text) → LeavesLines {T = T} answers old old before before (Err Memory)
  nothing old before = part_failed (begun old before refl) old before [] (Consumes-nil old) Memory ([], ([], front_none answers in_order []), Appends-nil before)
