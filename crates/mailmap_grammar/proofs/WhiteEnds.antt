-- White space next to ASCII bytes, and texts that trimming doesn't change.
use Rattle.std.proofs.Common.{◌≡◌, ◌-◌, ◌<◌, ℕ, true, List, [], ◌∷◌, ◌++◌, length, get_or, refl, arith}
use Rattle.std.specs.Char.{is_whitespace, encode_utf8}
use Rattle.std.proofs.lemmas.List.{get_or_push, length_push}
use Rattle.mailmap_grammar.specs.Lines.{HoldsNo}
use Rattle.mailmap_grammar.specs.Trimming.{trim, BeginsWhite, EndsWhite}
use Rattle.mailmap_entries.proofs.Parts.{all_head, all_tail}
use Rattle.mailmap_grammar.proofs.Plain.{last-white}
use Rattle.mailmap_grammar.proofs.Trimmed.{parts, trim-white_start, trim-white_end}
pub use Rattle.mailmap_grammar.proofs.Trimmed.{trim-nil, trim-stays}

-- if a text that ends with an ASCII byte ends with white space, that byte is white space
pub EndsWhite-ascii : (b : ℕ) (s : List ℕ) → b < 128 → EndsWhite (s ++ b ∷ []) → is_whitespace b ≡ true
EndsWhite-ascii b s low h =
    let last : get_or (s ++ b ∷ []) (length (s ++ b ∷ []) - 1) 0 ≡ b = get_or_push s b 0 _ (omega (arith, length_push s b)) in
    rw last at (last-white (s ++ b ∷ []) (omega (arith, last)) h)

-- trimming twice changes nothing more
pub trim-trim : (s : List ℕ) → trim (trim s) ≡ trim s
trim-trim s = let p = parts s in trim-stays (trim s) p.no_front p.no_end

-- a trimmed text doesn't begin with white space
pub BeginsWhite-trimmed : (s : List ℕ) → s ≡ trim s → BeginsWhite s → ⊥
BeginsWhite-trimmed s e h = (parts s).no_front (rw e at h)

-- trimming adds no byte
pub HoldsNo-trim : (x : ℕ) (s : List ℕ) → HoldsNo x s → HoldsNo x (trim s)
HoldsNo-trim x s h =
    let p = parts s in
    all_head _ (trim s) p.end (all_tail _ p.front (trim s ++ p.end) (rw p.whole at h))

pub trim-blank_start : (s : List ℕ) → trim (32 ∷ s) ≡ trim s
unfolding encode_utf8
trim-blank_start s = trim-white_start 32 s refl

pub trim-blank_end : (s : List ℕ) → trim (s ++ 32 ∷ []) ≡ trim s
unfolding encode_utf8
trim-blank_end s = trim-white_end 32 s refl
