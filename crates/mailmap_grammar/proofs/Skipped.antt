-- Comments and blank lines that are skipped.
use Rattle.std.proofs.lemmas.Grind.{common_steps}
use Rattle.std.proofs.Common.{◌≡◌, ◌≢◌, ◌+◌, ◌<◌, ◌≤◌, ℕ, true, Some, None, option_to_list, List, [], ◌∷◌, ◌++◌, length, length-append, take, drop, slice_index, refl, sym, ap, ◌∙◌, arith}
use Rattle.std.specs.Char.{is_whitespace}
use Rattle.bstr.specs.Find.{IsFirstByte, is_byte}
use Rattle.mailmap_entries.specs.Folding.{Text}
use Rattle.mailmap_grammar.specs.Lines.{Reading, Skips, pieces, reading_by, readings_from}
use Rattle.mailmap_grammar.specs.Trimming.{trim}
use Rattle.mailmap_grammar.proofs.LineFeeds.{pieces-line}
use Rattle.mailmap_grammar.proofs.SplitOnce.{held_before, split_at}
use Rattle.mailmap_grammar.proofs.Plain.{last_at, plain_nil, trim-ascii_end}

-- one more line that says nothing, up to its line feed
pub one_skipped : (bytes rest next : List ℕ) (count feed : ℕ) → Skips bytes rest count → IsFirstByte (is_byte 10) rest (Some feed)
    → ((says : ℕ → Text → Reading) (n : ℕ) → reading_by says n (take feed rest) ≡ None) → next ≡ drop (feed + 1) rest → Skips bytes next (count + 1)
unfolding readings_from
one_skipped bytes rest next count feed h first none is =
    let line = take feed rest in
    let whole : rest ≡ line ++ 10 ∷ next = split_at 10 rest feed first ∙ ap (λ r. line ++ 10 ∷ r) (sym is) in
    let lines_are : pieces rest ≡ line ∷ pieces next = ap pieces whole ∙ pieces-line line next (held_before 10 rest feed first) in
    record {
      within = omega (arith, h.within, ap length whole, length-append line (10 ∷ next));
      none_read = λ says n.
          let read = reading_by says in
          h.none_read says n ∙ ap (readings_from read (n + count)) lines_are
          ∙ ap (λ o. option_to_list o ++ readings_from read (n + count + 1) (pieces next)) (none says (n + count))
          ∙ ap (λ k. readings_from read k (pieces next)) (omega arith);
    }

-- the bytes before `end` are white space, and no line feeds
pub record AreBlank (bs : List ℕ) (end : ℕ) : Type 0 where
  pub within : end ≤ length bs
  pub no_feed : (k : ℕ) → k < end → slice_index bs k ≢ 10
  pub blank : trim (take end bs) ≡ []

pub no_blanks : (bs : List ℕ) → AreBlank bs 0
no_blanks bs = record { within = omega arith; no_feed = λ k l. absurd (omega arith); blank = plain_nil [] refl }

pub one_blank : (bs : List ℕ) (end : ℕ) → AreBlank bs end → end < length bs → slice_index bs end ≢ 10 → is_whitespace (slice_index bs end) ≡ true → slice_index bs end < 128 → AreBlank bs (end + 1)
one_blank bs end h lt other white small =
    grind (arith, common_steps, h.no_feed, last_at, trim-ascii_end)
