-- How a long text is cut.
use Rattle.std.proofs.Common.{◌≡◌, ◌++◌, ◌∙◌, ◌<◌, ◌≤◌, ℕ, ap, codes, length, sym, take}
use Rattle.std.proofs.lemmas.Bool.{cond-false, cond-true, le-ltb, lt-ltb}
use Rattle.mailmap_entries.specs.Folding.{Text}
use Rattle.mailmap_suggestions.specs.Shortened.{front_len, shortened_to}

pub whole : (limit : ℕ) (text : Text) → length text ≤ limit → text ≡ shortened_to limit text
unfolding shortened_to
whole limit text short = sym (cond-false _ _ _ (le-ltb limit (length text) short))

pub cut : (limit : ℕ) (text : Text) (end : ℕ) → limit < length text → end ≡ front_len limit text → take end text ++ codes ".." ≡ shortened_to limit text
unfolding shortened_to
cut limit text end long is = ap (λ n. take n text ++ codes "..") is ∙ sym (cond-true _ _ _ (lt-ltb limit (length text) long))
