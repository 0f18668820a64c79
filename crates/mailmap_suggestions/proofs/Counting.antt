-- Answers that are counted, lines of entries that git would cut, and last bytes.
use Rattle.std.proofs.Common.{◌≡◌, ◌∙◌, ◌<◌, ◌≤◌, ◌+◌, ◌-◌, ◌++◌, ◌==◌, ◌^◌, ℕ, suc, Bool, true, false, List, [], ◌∷◌, Bor, Option, ap, arith, if◌then◌else◌, length, length-append, map, option_map, refl, slice_get, sym, ⊎_elim}
use Rattle.std.specs.Prelude.{nat_lt, unwrap_or}
use Rattle.std.proofs.lemmas.Bool.{cases_lt, le-ltb, lt-ltb}
use Rattle.mailmap_contacts.specs.Contacts.{Tally}
use Rattle.mailmap_entries.specs.Entries.{Mapping}
use Rattle.mailmap_entries.specs.Folding.{Text}
use Rattle.mailmap_entries.specs.Semantics.{last}
use Rattle.mailmap_grammar.specs.CanonicalText.{canonical_line}
use Rattle.mailmap_grammar.specs.Lines.{is_comment}
use Rattle.mailmap_suggestions.specs.EntryLines.{fields_text, is_cut_by_git}
use Rattle.mailmap_suggestions.specs.GroupEntries.{or_else}

pub or_else_by : (xs ys : List Tally) → or_else xs ys ≡ (if length xs == 0 then ys else xs)
or_else_by [] ys = refl
or_else_by (x ∷ xs) ys = grind arith

-- ---- lines of entries

same_lt : (a b c d : ℕ) → (a < b → c < d) → (b ≤ a → d ≤ c) → nat_lt a b ≡ nat_lt c d
same_lt a b c d up down = ⊎_elim (λ lt. lt-ltb a b lt ∙ sym (lt-ltb c d (up lt))) (λ le. le-ltb a b le ∙ sym (le-ltb c d (down le))) (cases_lt a b)

cut_at : (b : Bool) (s : Text) (len : ℕ) → len ≡ length s + 2 → nat_lt 1022 (length ((if b then 32 ∷ [] else []) ++ s)) ≡ nat_lt (if b then 1023 else 1024) len
cut_at true s len is = same_lt 1022 (length (32 ∷ s)) 1023 len (λ lt. omega (arith, is, lt)) (λ le. omega (arith, is, le))
cut_at false s len is = same_lt 1022 (length s) 1024 len (λ lt. omega (arith, is, lt)) (λ le. omega (arith, is, le))

canonical_len : (e : Mapping) → length (canonical_line e) ≡ length (fields_text e) + 2
canonical_len e = omega (arith, length-append (fields_text e) (10 ∷ []))

-- the canonical line begins with a space, and has a line feed
pub cut_by : (e : Mapping) (len : ℕ) → len ≡ length (canonical_line e) → is_cut_by_git e ≡ nat_lt (if is_comment (unwrap_or e.new_name []) then 1023 else 1024) len
cut_by e len is = cut_at (is_comment (unwrap_or e.new_name [])) (fields_text e) len (is ∙ canonical_len e)

-- one that is too long to count
pub cut_always : (e : Mapping) → 2 ^ 64 ≤ length (canonical_line e) → is_cut_by_git e ≡ true
cut_always e le = cut_by e (length (canonical_line e)) refl
    ∙ elim (is_comment (unwrap_or e.new_name [])) as (λ b. nat_lt (if b then 1023 else 1024) (length (canonical_line e)) ≡ true)
    [ true ↦ lt-ltb 1023 (length (canonical_line e)) (omega (arith, le)) | false ↦ lt-ltb 1024 (length (canonical_line e)) (omega (arith, le)) ]

-- ---- the last of a list

last_map : {X Y : Type 0} (f : X → Y) (xs : List X) → last (map f xs) ≡ option_map f (last xs)
last_map f [] = refl
last_map f (x ∷ []) = refl
last_map f (x ∷ y ∷ ys) = last_map f (y ∷ ys)

pub last_is : {X : Type 0} (xs : List X) → slice_get xs (length xs - 1) ≡ last xs
last_is [] = refl
last_is (x ∷ []) = refl
last_is (x ∷ y ∷ ys) = let step : length (x ∷ y ∷ ys) - 1 ≡ suc (length (y ∷ ys) - 1) = omega arith in
    ap (slice_get (x ∷ y ∷ ys)) step ∙ last_is (y ∷ ys)

-- of the texts in buffers
pub last_buffer : (bs : List (Bor Text)) (o : Option (Bor Text)) → o ≡ slice_get bs (length bs - 1) → last (map (λ (b : Bor Text). b.now) bs) ≡ option_map (λ (b : Bor Text). b.now) o
last_buffer bs o is = last_map (λ (b : Bor Text). b.now) bs ∙ ap (option_map (λ (b : Bor Text). b.now)) (sym (last_is bs) ∙ sym is)
