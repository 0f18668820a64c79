-- Names of which the same is seen.
use Rattle.std.proofs.Common.{◌≡◌, ◌∙◌, false, sym, true}
use Rattle.std.specs.Prelude.{◌&&◌, bytes_eq}
use Rattle.std.specs.Str.{IsUtf8, is_utf8}
use Rattle.std.proofs.lemmas.Bool.{false_from_ne_true}
use Rattle.std.proofs.lemmas.Str.{IsUtf8-from_is_utf8, is_utf8-from_IsUtf8}
use Rattle.mailmap_entries.specs.Folding.{Text}
use Rattle.mailmap_report.specs.Alike.{are_seen_alike, seen}

no_text : (t : Text) → ¬ (IsUtf8 t) → is_utf8 t ≡ false
no_text t is_not = false_from_ne_true (is_utf8 t) (λ is. is_not (IsUtf8-from_is_utf8 t is))

pub both_texts : (a b s t : Text) → s ≡ a → t ≡ b → IsUtf8 a → IsUtf8 b → bytes_eq (seen s) (seen t) ≡ are_seen_alike a b
both_texts a b s t same_a same_b is_a is_b = (λ i. bytes_eq (seen (same_a i)) (seen (same_b i)))
    ∙ sym (λ i. is_utf8-from_IsUtf8 a is_a i && (is_utf8-from_IsUtf8 b is_b i && bytes_eq (seen a) (seen b)))

pub first_no_text : (a b : Text) → ¬ (IsUtf8 a) → false ≡ are_seen_alike a b
first_no_text a b is_not = sym (λ i. no_text a is_not i && (is_utf8 b && bytes_eq (seen a) (seen b)))

pub second_no_text : (a b : Text) → IsUtf8 a → ¬ (IsUtf8 b) → false ≡ are_seen_alike a b
second_no_text a b is_a is_not =
    sym (λ i. is_utf8-from_IsUtf8 a is_a i && (no_text b is_not i && bytes_eq (seen a) (seen b)))
