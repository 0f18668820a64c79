-- What is before and after the last `@` of an email, and before a `+`, by their places.
use Rattle.std.proofs.Common.{◌≡◌, ◌+◌, ◌-◌, ◌<◌, ◌≤◌, ℕ, Bool, true, false, not, [], ◌∷◌, Some, None, length, take, drop, get_or, refl, sym, ap, ◌∙◌, arith, add-one, take_all}
use Rattle.std.proofs.lemmas.Bool.{cond-true, cond-false, false_from_ne_true, not_from_false}
use Rattle.std.proofs.lemmas.List.Elements.{All-from_get_or}
use Rattle.std.proofs.lemmas.List.Folds.{list_any_at, list_any_none}
use Rattle.std.proofs.lemmas.List.Sums.{position_or_len_is, suffix_len_is}
use Rattle.std.specs.List.{after_last, before_last, list_any, position_or_len, suffix_len}
use Rattle.bstr.specs.Find.{IsFirstByte, IsLastByte, is_byte}
use Rattle.mailmap_entries.specs.Folding.{Text}
use Rattle.mailmap_names.specs.Logins.{is_at, is_plus, local_part, without_tag}

abbrev is_other : ℕ → Bool
is_other byte = not (is_at byte)

after_at : (email : Text) (place : ℕ) → IsLastByte (is_byte 64) email (Some place) → suffix_len is_other email ≡ length email - (place + 1)
after_at email place last =
    let within : place < length email = last.0.high in
    let others : (k : ℕ) → place + 1 ≤ k → k < length email → is_other (get_or email k 0) ≡ true =
    λ k low high. not_from_false (is_at (get_or email k 0)) (false_from_ne_true (is_at (get_or email k 0)) (last.0.after k low high)) in
    let back : place + 1 - 1 ≡ place = omega arith in
    let here : is_other (get_or email (place + 1 - 1) 0) ≡ false = ap (λ n. is_other (get_or email n 0)) back ∙ ap not last.1 in
    suffix_len_is is_other email (place + 1) 0 (omega arith) others (λ _. here)

after_none : (email : Text) → IsLastByte (is_byte 64) email None → suffix_len is_other email ≡ length email
after_none email none =
    let others : (k : ℕ) → 0 ≤ k → k < length email → is_other (get_or email k 0) ≡ true =
    λ k low high. not_from_false (is_at (get_or email k 0)) (false_from_ne_true (is_at (get_or email k 0)) (none k low high)) in
    suffix_len_is is_other email 0 0 (omega arith) others (λ h. absurd (omega arith)) ∙ omega arith

pub local_part_found : (email : Text) (place : ℕ) → IsLastByte (is_byte 64) email (Some place) → take place email ≡ local_part email
local_part_found email place last =
    let within : place < length email = last.0.high in
    let has : list_any is_at email ≡ true = list_any_at is_at email place 0 within last.1 in
    let number : length email - suffix_len is_other email - 1 ≡ place = ap (λ n. length email - n - 1) (after_at email place last) ∙ omega arith in
    sym (cond-true (list_any is_at email) (before_last is_at email) email has ∙ ap (λ n. take n email) number)

pub local_part_none : (email : Text) → IsLastByte (is_byte 64) email None → email ≡ local_part email
local_part_none email none =
    let has : list_any is_at email ≡ false =
    list_any_none is_at email (All-from_get_or (λ b. is_at b ≡ false) email 0 (λ k high. false_from_ne_true (is_at (get_or email k 0)) (none k (omega arith) high))) in
    sym (cond-false (list_any is_at email) (before_last is_at email) email has)

pub domain_found : (email : Text) (place : ℕ) → IsLastByte (is_byte 64) email (Some place) → drop (place + 1) email ≡ after_last is_at email
domain_found email place last =
    let within : place < length email = last.0.high in
    let number : length email - suffix_len is_other email ≡ place + 1 = ap (λ n. length email - n) (after_at email place last) ∙ omega arith in
    sym (ap (λ n. drop n email) number)

pub domain_none : (email : Text) → IsLastByte (is_byte 64) email None → email ≡ after_last is_at email
domain_none email none =
    let number : length email - suffix_len is_other email ≡ 0 = ap (λ n. length email - n) (after_none email none) ∙ omega arith in
    sym (ap (λ n. drop n email) number)

pub tag_found : (local rest : Text) (place : ℕ) → 1 ≤ length local → rest ≡ drop 1 local → IsFirstByte (is_byte 43) rest (Some place) → take (place + 1) local ≡ without_tag local
tag_found [] rest place some e is = absurd (omega arith)
tag_found (first ∷ later) rest place some e is =
    let within : place < length rest = is.0.high in
    let number : position_or_len is_plus rest ≡ place =
    position_or_len_is is_plus rest place 0 (omega arith) (λ k high. false_from_ne_true (is_plus (get_or rest k 0)) (is.0.before k (omega arith) high)) (λ _. is.1) in
    ap (λ n. take n (first ∷ later)) (add-one place) ∙ ap (λ n. first ∷ take n later) (sym number) ∙ ap (λ t. first ∷ take (position_or_len is_plus t) later) e

pub tag_none : (local rest : Text) → rest ≡ drop 1 local → IsFirstByte (is_byte 43) rest None → local ≡ without_tag local
tag_none [] rest e none = refl
tag_none (first ∷ later) rest e none =
    let number : position_or_len is_plus rest ≡ length rest =
    position_or_len_is is_plus rest (length rest) 0 (omega arith) (λ k high. false_from_ne_true (is_plus (get_or rest k 0)) (none k (omega arith) high)) (λ h. absurd (omega arith)) in
    let whole : take (position_or_len is_plus rest) rest ≡ rest = ap (λ n. take n rest) number ∙ take_all (length rest) rest (omega arith) in
    ap (λ t. first ∷ t) (sym (ap (λ t. take (position_or_len is_plus t) t) (sym e) ∙ whole ∙ e))
