-- Words as strings and as characters, and the keys that they make.
use Rattle.std.proofs.Common.{◌≡◌, ◌+◌, ◌<◌, ◌≤◌, ℕ, Bool, true, false, ◌||◌, ltb, leb, List, [], ◌∷◌, ◌++◌, length, map, take, drop, get_or, refl, sym, ap, ◌∙◌, inl, inr, append-nil, append_assoc, arith}
use Rattle.std.specs.Prelude.{String, bytes_eq, chars, encode_utf8_all, filter, string_bytes}
use Rattle.std.specs.Global.{Global, Vec}
use Rattle.std.specs.List.{concat, join_with_byte, list_any}
use Rattle.std.proofs.lemmas.Bool.{cases_Bool, cond-true, cond-false}
use Rattle.std.proofs.lemmas.List.{length-map, map_more}
use Rattle.std.proofs.lemmas.Str.{IsUtf8-string_bytes, chars-append, encodes-chars}
use Rattle.mailmap_entries.specs.Folding.{Text}
use Rattle.mailmap_names.specs.Keys.{characters, first_words_of, has_common, is_among, is_nobody, is_placeholder, joined_key, keys_of, long_words, main_words, sorted_key, telling_words_of, together}
use Rattle.mailmap_entries.specs.Texts.{texts}
use Rattle.mailmap_names.specs.Private.{is_longer, main_strings, spaced}

-- ---- strings

abbrev word : String Global → List ℕ
word s = chars (string_bytes s)

spelled_word : (s : String Global) → encode_utf8_all (word s) ≡ string_bytes s
spelled_word s = encodes-chars (string_bytes s) (IsUtf8-string_bytes s)

pub spelled : (words : List (String Global)) → map encode_utf8_all (characters words) ≡ map string_bytes words
spelled [] = refl
spelled (w ∷ words) = ap (λ t. t ∷ map encode_utf8_all (characters words)) (spelled_word w) ∙ ap (λ ts. string_bytes w ∷ ts) (spelled words)

filter-map : {X Y : Type 0} (p : Y → Bool) (f : X → Y) (xs : List X) → filter p (map f xs) ≡ map f (filter (λ x. p (f x)) xs)
filter-map p f [] = refl
filter-map p f (x ∷ xs) =
    let strings = filter (λ y. p (f y)) xs in
    elim (cases_Bool (p (f x))) as (λ _. filter p (map f (x ∷ xs)) ≡ map f (filter (λ y. p (f y)) (x ∷ xs))) [
      | inl h ↦ cond-true (p (f x)) (f x ∷ filter p (map f xs)) (filter p (map f xs)) h ∙ ap (λ ys. f x ∷ ys) (filter-map p f xs) ∙ ap (map f) (sym (cond-true (p (f x)) (x ∷ strings) strings h))
      | inr h ↦ cond-false (p (f x)) (f x ∷ filter p (map f xs)) (filter p (map f xs)) h ∙ filter-map p f xs ∙ ap (map f) (sym (cond-false (p (f x)) (x ∷ strings) strings h))
    ]

pub map-map : {X Y Z : Type 0} (g : Y → Z) (f : X → Y) (xs : List X) → map g (map f xs) ≡ map (λ x. g (f x)) xs
map-map g f [] = refl
map-map g f (x ∷ xs) = ap (λ ys. g (f x) ∷ ys) (map-map g f xs)

pub list_any-map : {X Y : Type 0} (p : Y → Bool) (f : X → Y) (xs : List X) → list_any p (map f xs) ≡ list_any (λ x. p (f x)) xs
list_any-map p f [] = refl
list_any-map p f (x ∷ xs) = ap (λ b. p (f x) || b) (list_any-map p f xs)

-- ---- words of at least three characters

pub telling : (words : List (String Global)) → map string_bytes (filter (λ s. leb 3 (length (word s))) words) ≡ telling_words_of (characters words)
telling words = sym (spelled (filter (λ s. leb 3 (length (word s))) words)) ∙ ap (map encode_utf8_all) (sym (filter-map (λ w. leb 3 (length w)) word words))

-- ---- the words of a key

pub main_spelled : (words : List (String Global)) → map string_bytes (main_strings words) ≡ map encode_utf8_all (main_words (characters words))
main_spelled words =
    let strings = filter (is_longer 1) words in
    let long : long_words (characters words) ≡ characters strings = filter-map (λ w. ltb 1 (length w)) word words in
    let number : length (long_words (characters words)) ≡ length strings = ap length long ∙ length-map strings word in
    let test : leb 2 (length (long_words (characters words))) ≡ leb 2 (length strings) = ap (leb 2) number in
    elim (cases_Bool (leb 2 (length strings))) as (λ _. map string_bytes (main_strings words) ≡ map encode_utf8_all (main_words (characters words))) [
      | inl h ↦ ap (map string_bytes) (cond-true (leb 2 (length strings)) strings words h) ∙ sym (spelled strings) ∙ ap (map encode_utf8_all) (sym long ∙ sym (cond-true _ (long_words (characters words)) (characters words) (test ∙ h)))
      | inr h ↦ ap (map string_bytes) (cond-false (leb 2 (length strings)) strings words h) ∙ sym (spelled words) ∙ ap (map encode_utf8_all) (sym (cond-false _ (long_words (characters words)) (characters words) (test ∙ h)))
    ]

pub join-spaced : (first : Text) (rest : List Text) → join_with_byte 32 (first ∷ rest) ≡ first ++ spaced rest
join-spaced first [] = sym (append-nil first)
join-spaced first (second ∷ rest) = ap (λ t. first ++ 32 ∷ t) (join-spaced second rest)

-- the first text after its kind, and the others after it with spaces
pub joined_is : {X : Type 0} (text : X → Text) (xs rest : List X) (first : X) (joined whole : Text) → 1 ≤ length xs → first ≡ get_or xs 0 first → rest ≡ drop 1 xs
    → joined ≡ 119 ∷ text first → whole ≡ joined ++ spaced (map text rest) → whole ≡ 119 ∷ join_with_byte 32 (map text xs)
joined_is text [] rest first joined whole some is others start end = absurd (omega arith)
joined_is text (x ∷ xs) rest first joined whole some is others start end =
    end ∙ ap (λ t. t ++ spaced (map text rest)) (start ∙ ap (λ y. 119 ∷ text y) is) ∙ ap (λ ys. 119 ∷ (text x ++ spaced (map text ys))) others ∙ ap (λ t. 119 ∷ t) (sym (join-spaced (text x) (map text xs)))

concat-push : (xs : List (List ℕ)) (x : List ℕ) → concat (xs ++ x ∷ []) ≡ concat xs ++ x
concat-push [] x = append-nil x
concat-push (y ∷ xs) x = ap (λ t. y ++ t) (concat-push xs x) ∙ sym (append_assoc y (concat xs) x)

-- one more word at the end of those put together
pub together_more : (before after : String Global) (words : List (String Global)) (w : String Global) (i : ℕ) → i < length words → w ≡ get_or words i w
    → string_bytes after ≡ string_bytes before ++ string_bytes w → word before ≡ concat (characters (take i words)) → word after ≡ concat (characters (take (i + 1) words))
together_more before after words w i within is bytes h =
    let more : characters (take (i + 1) words) ≡ characters (take i words) ++ word w ∷ [] = map_more word words i w within ∙ ap (λ s. characters (take i words) ++ word s ∷ []) (sym is) in
    ap chars bytes ∙ chars-append (string_bytes before) (string_bytes w) (IsUtf8-string_bytes before) ∙ ap (λ cs. cs ++ word w) h ∙ sym (ap concat more ∙ concat-push (characters (take i words)) (word w))

-- ---- keys

put_together : (words : List (String Global)) (t : String Global) → word t ≡ concat (characters words) → together (characters words) ≡ string_bytes t
put_together words t e = ap encode_utf8_all (sym e) ∙ spelled_word t

nobody : (words : List (String Global)) (t : String Global) → word t ≡ concat (characters words) → is_nobody (characters words) ≡ (ltb (length (word t)) 3 || is_placeholder (string_bytes t))
nobody words t e = ap (λ cs. ltb (length cs) 3 || is_placeholder (together (characters words))) (sym e) ∙ ap (λ s. ltb (length (word t)) 3 || is_placeholder s) (put_together words t e)

abbrev both_keys : List (List ℕ) → List Text
both_keys ws = sorted_key (main_words ws) ∷ joined_key ws ∷ []

pub keys_none : (words : List (String Global)) (t : String Global) → word t ≡ concat (characters words) → (ltb (length (word t)) 3 || is_placeholder (string_bytes t)) ≡ true → [] ≡ keys_of (characters words)
unfolding keys_of
keys_none words t e h = sym (cond-true (is_nobody (characters words)) [] (both_keys (characters words)) (nobody words t e ∙ h))

pub keys_some : (words : List (String Global)) (t : String Global) → word t ≡ concat (characters words) → (ltb (length (word t)) 3 || is_placeholder (string_bytes t)) ≡ false
    → sorted_key (main_words (characters words)) ∷ (116 ∷ string_bytes t) ∷ [] ≡ keys_of (characters words)
unfolding keys_of
keys_some words t e h =
    let ws = characters words in
    ap (λ s. sorted_key (main_words ws) ∷ (116 ∷ s) ∷ []) (sym (put_together words t e)) ∙ sym (cond-false (is_nobody ws) [] (both_keys ws) (nobody words t e ∙ h))

pub first_none : (words : List (String Global)) → length words < 2 → [] ≡ first_words_of (characters words)
first_none [] few = refl
first_none (w ∷ []) few = refl
first_none (w ∷ x ∷ words) few = absurd (omega arith)

pub first_some : (words : List (String Global)) (first same : String Global) → 2 ≤ length words → first ≡ get_or words 0 first → same ≡ get_or words 0 same
    → (119 ∷ string_bytes first) ∷ (116 ∷ string_bytes same) ∷ [] ≡ first_words_of (characters words)
first_some [] first same many is also = absurd (omega arith)
first_some (w ∷ []) first same many is also = absurd (omega arith)
first_some (w ∷ x ∷ words) first same many is also =
    let spelling : string_bytes first ≡ encode_utf8_all (word w) = ap string_bytes is ∙ sym (spelled_word w) in
    let whole : string_bytes same ≡ encode_utf8_all (word w ++ []) = ap string_bytes also ∙ sym (spelled_word w) ∙ ap encode_utf8_all (sym (append-nil (word w))) in
    ap (λ s. (119 ∷ s) ∷ (116 ∷ string_bytes same) ∷ []) spelling ∙ ap (λ s. (119 ∷ encode_utf8_all (word w)) ∷ (116 ∷ s) ∷ []) whole

-- ---- what two names have in common

apart : (ws : List (List ℕ)) (t : Text) → is_among (keys_of ws) (110 ∷ t) ≡ false
unfolding keys_of
apart ws t = elim (cases_Bool (is_nobody ws)) as (λ _. is_among (keys_of ws) (110 ∷ t) ≡ false) [
  | inl h ↦ ap (λ ks. is_among ks (110 ∷ t)) (cond-true (is_nobody ws) [] (both_keys ws) h)
  | inr h ↦ ap (λ ks. is_among ks (110 ∷ t)) (cond-false (is_nobody ws) [] (both_keys ws) h)
]

skipped : (ws : List (List ℕ)) (t : Text) (others : List Text) → has_common (keys_of ws) ((110 ∷ t) ∷ others) ≡ has_common (keys_of ws) others
unfolding keys_of
skipped ws t others = elim (cases_Bool (is_nobody ws)) as (λ _. has_common (keys_of ws) ((110 ∷ t) ∷ others) ≡ has_common (keys_of ws) others) [
  | inl h ↦ ap (λ ks. has_common ks ((110 ∷ t) ∷ others)) (cond-true (is_nobody ws) [] (both_keys ws) h) ∙ sym (ap (λ ks. has_common ks others) (cond-true (is_nobody ws) [] (both_keys ws) h))
  | inr h ↦ let e = cond-false (is_nobody ws) [] (both_keys ws) h in
      ap (λ ks. has_common ks ((110 ∷ t) ∷ others)) e ∙ sym (ap (λ ks. has_common ks others) e)
]

or-false : (b c : Bool) → ((b || false) || c) ≡ (b || c)
or-false true c = refl
or-false false c = refl

-- marks in common, of names that are not empty: the folded names, or keys
pub alike : (ws vs : List (List ℕ)) (s t : Text) → has_common ((110 ∷ s) ∷ keys_of ws) ((110 ∷ t) ∷ keys_of vs) ≡ (bytes_eq t s || has_common (keys_of ws) (keys_of vs))
alike ws vs s t = ap (λ b. (bytes_eq t s || b) || has_common (keys_of ws) ((110 ∷ t) ∷ keys_of vs)) (apart vs s)
    ∙ or-false (bytes_eq t s) (has_common (keys_of ws) ((110 ∷ t) ∷ keys_of vs)) ∙ ap (λ b. bytes_eq t s || b) (skipped ws t (keys_of vs))

pub none_common : (texts : List Text) → has_common texts [] ≡ false
none_common [] = refl
none_common (t ∷ texts) = none_common texts

list_any_agree : {X : Type 0} (p q : X → Bool) → ((x : X) → p x ≡ q x) → (xs : List X) → list_any p xs ≡ list_any q xs
list_any_agree p q same [] = refl
list_any_agree p q same (x ∷ xs) = ap (λ b. b || list_any p xs) (same x) ∙ ap (λ b. q x || b) (list_any_agree p q same xs)

pub common_texts : (these those : List (Vec ℕ)) → list_any (λ t. list_any (λ y. bytes_eq y.items t.items) those) these ≡ has_common (texts these) (texts those)
common_texts these those =
    list_any_agree (λ (t : Vec ℕ). list_any (λ (y : Vec ℕ). bytes_eq y.items t.items) those) (λ t. is_among (texts those) t.items) (λ t. sym (list_any-map (λ y. bytes_eq y t.items) (λ (v : Vec ℕ). v.items) those)) these
    ∙ sym (list_any-map (is_among (texts those)) (λ (v : Vec ℕ). v.items) these)
