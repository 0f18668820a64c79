-- Lines with `#?` that mailmaps have, and lines without their line feeds.
use Rattle.std.proofs.Common.{◌≡◌, ◌∙◌, ◌-◌, ◌++◌, ◌==◌, ◌&&◌, ◌||◌, ℕ, suc, Bool, true, false, cond, List, [], ◌∷◌, Some, ap, arith, bytes_eq, if◌then◌else◌, length, map, refl, slice_get, sym, take}
use Rattle.std.specs.BTreeMap.{is_at}
use Rattle.std.specs.BTreeSet.{contains}
use Rattle.std.specs.Global.{Vec}
use Rattle.std.specs.List.{list_any}
use Rattle.std.proofs.lemmas.Cmp.{nat_list_eq_equiv}
use Rattle.std.proofs.lemmas.Map.Text.{is_eq-slice_cmp}
use Rattle.mailmap_entries.specs.Folding.{Text}
use Rattle.mailmap_entries.proofs.Parts.{list_any-append}
use Rattle.mailmap_findings.specs.Positions.{whole_lines}
use Rattle.mailmap_grammar.specs.Lines.{pieces, with_first}
use Rattle.mailmap_suggestions.specs.LinkViews.{vec_cmp}
use Rattle.mailmap_suggestions.specs.RememberedViews.{Remembers, is_marked, without_feed}
use Rattle.mailmap_suggestions.specs.declared.remembered.Remembered.{Remembered}
use Rattle.mailmap_suggestions.proofs.Distinct.{same_bytes}

-- ---- lines without their line feeds

first_without : (b : ℕ) → (b == 10) ≡ false → (ls : List Text) → map without_feed (with_first b ls) ≡ with_first b (map without_feed ls)
first_without b other [] = ap (λ t. (if t then [] else b ∷ []) ∷ []) other
first_without b other ([] ∷ ls) = ap (λ t. (if t then [] else b ∷ []) ∷ map without_feed ls) other
first_without b other ((c ∷ l) ∷ ls) = refl

pub lines_pieces : (s : Text) → map without_feed (whole_lines s) ≡ pieces s
unfolding pieces whole_lines
lines_pieces [] = refl
lines_pieces (b ∷ s) = by (lines_pieces s) (b == 10) refl
  where
    by : map without_feed (whole_lines s) ≡ pieces s → (t : Bool) → (b == 10) ≡ t → map without_feed (if t then (b ∷ []) ∷ whole_lines s else with_first b (whole_lines s)) ≡ (if t then [] ∷ pieces s else with_first b (pieces s))
    by rest true is = ap (λ u. (if u then [] else b ∷ []) ∷ map without_feed (whole_lines s)) is ∙ ap (λ l. [] ∷ l) rest
    by rest false is = first_without b is (whole_lines s) ∙ ap (with_first b) rest

-- ---- lines that are remembered

pub remember_more : (lines : List Text) (found new : Remembered) (key : Vec ℕ) → is_marked key.items ≡ true → Remembers lines found
    → ((q : Vec ℕ) → contains vec_cmp new.lines q ≡ cond (is_at (vec_cmp key) q) true (contains vec_cmp found.lines q)) → Remembers (lines ++ key.items ∷ []) new
remember_more lines found new key marked are put q =
    let at : is_at (vec_cmp key) q ≡ bytes_eq q.items key.items = is_eq-slice_cmp key.items q.items ∙ nat_list_eq_equiv.symm key.items q.items in
    put q ∙ ap (λ b. cond b true (contains vec_cmp found.lines q)) at ∙ ap (cond (bytes_eq q.items key.items) true) (are q)
    ∙ by (bytes_eq q.items key.items) refl ∙ ap (λ b. is_marked q.items && b) (sym (list_any-append (bytes_eq q.items) lines (key.items ∷ [])))
  where
    by : (b : Bool) → bytes_eq q.items key.items ≡ b → cond b true (is_marked q.items && list_any (bytes_eq q.items) lines)
        ≡ (is_marked q.items && (list_any (bytes_eq q.items) lines || (bytes_eq q.items key.items || false)))
    by true is = grind (arith, is, same_bytes q.items key.items is, ap is_marked (same_bytes q.items key.items is), marked)
    by false is = grind (arith, is)

pub remember_none : (lines : List Text) (found : Remembered) (line : Text) → is_marked line ≡ false → Remembers lines found → Remembers (lines ++ line ∷ []) found
remember_none lines found line unmarked are q =
    are q ∙ by (bytes_eq q.items line) refl ∙ ap (λ b. is_marked q.items && b) (sym (list_any-append (bytes_eq q.items) lines (line ∷ [])))
  where
    by : (b : Bool) → bytes_eq q.items line ≡ b → (is_marked q.items && list_any (bytes_eq q.items) lines)
        ≡ (is_marked q.items && (list_any (bytes_eq q.items) lines || (bytes_eq q.items line || false)))
    by true is = grind (arith, is, ap is_marked (same_bytes q.items line is), unmarked)
    by false is = grind (arith, is)

-- ---- the last byte

pub fed : (s : Text) → slice_get s (length s - 1) ≡ Some 10 → take (length s - 1) s ≡ without_feed s
fed [] is = absurd (cc)
fed (b ∷ []) is = let e : b ≡ 10 = cc in sym (ap (λ x. if x == 10 then [] else x ∷ []) e)
fed (b ∷ c ∷ s) is =
    let step : length (b ∷ c ∷ s) - 1 ≡ suc (length (c ∷ s) - 1) = omega arith in
    ap (λ n. take n (b ∷ c ∷ s)) step ∙ ap (λ l. b ∷ l) (fed (c ∷ s) (ap (slice_get (b ∷ c ∷ s)) (sym step) ∙ is))

pub unfed : (s : Text) → (slice_get s (length s - 1) ≡ Some 10 → ⊥) → s ≡ without_feed s
unfed [] other = refl
unfed (b ∷ []) other = elim (b == 10) as (λ t. (b == 10) ≡ t → b ∷ [] ≡ (if t then [] else b ∷ [])) [
  | true ↦ λ is. absurd (other (let e : b ≡ 10 = grind (arith, is) in ap (λ x. Some x) e))
  | false ↦ λ _. refl
] refl
unfed (b ∷ c ∷ s) other =
    let step : length (b ∷ c ∷ s) - 1 ≡ suc (length (c ∷ s) - 1) = omega arith in
    ap (λ l. b ∷ l) (unfed (c ∷ s) (λ is. other (ap (slice_get (b ∷ c ∷ s)) step ∙ is)))
