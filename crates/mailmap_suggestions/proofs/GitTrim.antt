-- git's trimming leaves a name that this library's trimming leaves.
use Rattle.std.proofs.Common.{◌≡◌, ◌+◌, ◌<◌, ◌≤◌, ℕ, zero, suc, Bool, true, false, cond, None, Option, Some, IfSome, List, [], ◌∷◌, ◌++◌, ◌==◌, ◌||◌, true≢false, if◌then◌else◌, length, take, drop, length-drop, length-take, take_all, refl, sym, ap, ◌∙◌, arith, ⊎_elim, unwrap_or}
use Rattle.std.proofs.lemmas.Bool.{cases_Bool, eqb-true}
use Rattle.std.proofs.lemmas.List.{drop_all, nil_from_length, take-append-le}
use Rattle.std.specs.Char.{is_whitespace, encode_utf8}
use Rattle.bstr.specs.Utf8.{Decoded, decoded, good, or_replacement, pieces, spans_from}
use Rattle.bstr.specs.Trim.{kept_end, kept_start, trim_end_by, trim_start_by}
use Rattle.bstr.proofs.lemmas.PieceLemmas.{StartsClean, pieces-append, pieces-nil, pieces-sizes, pieces-step, sizes}
use Rattle.bstr.proofs.lemmas.EncodeLemmas.{decoded-encode}
use Rattle.bstr.proofs.lemmas.SoundLemmas.{SpellsChar-decoded}
use Rattle.mailmap_entries.specs.Folding.{Text}
use Rattle.mailmap_grammar.specs.CanonicalText.{IsWritableName, name_part}
use Rattle.mailmap_grammar.specs.Trimming.{BeginsWhite, trim}
use Rattle.mailmap_grammar.proofs.Trimmed.{begins-before}
use Rattle.mailmap_grammar.proofs.WhiteEnds.{BeginsWhite-trimmed, trim-nil}
use Rattle.mailmap_findings.specs.Git.{is_git_space, trim_name}

-- what git trims is white space
space_white : (c : ℕ) → is_git_space c ≡ true → is_whitespace c ≡ true
space_white c is = by (c == 32) refl (c == 9) refl (c == 13) refl (c == 10) refl is
  where
    by : (p : Bool) → (c == 32) ≡ p → (q : Bool) → (c == 9) ≡ q → (r : Bool) → (c == 13) ≡ r → (s : Bool) → (c == 10) ≡ s → (p || (q || (r || s))) ≡ true → is_whitespace c ≡ true
    by true e q _ r _ s _ some = ap is_whitespace (eqb-true c 32 e)
    by false _ true e r _ s _ some = ap is_whitespace (eqb-true c 9 e)
    by false _ false _ true e s _ some = ap is_whitespace (eqb-true c 13 e)
    by false _ false _ false _ true e some = ap is_whitespace (eqb-true c 10 e)
    by false _ false _ false _ false e some = absurd (true≢false (sym some))

abbrev is_space : Decoded → Bool
is_space p = is_git_space (or_replacement p.char)

-- ---- the start

begins : (bs : Text) (o : Option ℕ) → (decoded bs).char ≡ o → is_git_space (or_replacement o) ≡ true → BeginsWhite bs
begins bs None is space = absurd (cc)
begins bs (Some c) is space = (c, drop (decoded bs).size bs, space_white c space, (SpellsChar-decoded bs c is).bytes)

no_space : (bs : Text) → (BeginsWhite bs → ⊥) → is_space (decoded bs) ≡ false
no_space bs other = ⊎_elim (λ yes. absurd (other (begins bs (decoded bs).char refl yes))) (λ no. no) (cases_Bool (is_space (decoded bs)))

start_at : (bs : Text) (off n : ℕ) → 0 < length bs → (BeginsWhite bs → ⊥) → kept_start is_git_space n (spans_from off (pieces bs)) ≡ off
unfolding kept_start spans_from
start_at bs off n some other = ap (λ ps. kept_start is_git_space n (spans_from off ps)) (pieces-step bs some)
    ∙ ap (λ b. cond b (kept_start is_git_space n (spans_from (off + (decoded bs).size) (pieces (drop (decoded bs).size bs)))) off) (no_space bs other)

-- a text that doesn't begin with white space stays as it is
start_stays : (bs : Text) → (BeginsWhite bs → ⊥) → trim_start_by is_git_space bs ≡ bs
start_stays [] other = drop_all _ [] (omega arith)
start_stays (b ∷ s) other = ap (λ n. drop n (b ∷ s)) (start_at (b ∷ s) 0 (length (b ∷ s)) (omega arith) other)

space_read : (s : Text) → decoded (32 ∷ s) ≡ good 32 1
unfolding encode_utf8
space_read s = decoded-encode 32 s refl

space_first : (s : Text) → pieces (32 ∷ s) ≡ good 32 1 ∷ pieces s
space_first s = pieces-step (32 ∷ s) (omega arith) ∙ ap (λ (p : Decoded). p ∷ pieces (drop p.size (32 ∷ s))) (space_read s)

space_kept : (s : Text) (n : ℕ) → kept_start is_git_space n (spans_from 0 (pieces (32 ∷ s))) ≡ kept_start is_git_space n (spans_from 1 (pieces s))
unfolding kept_start spans_from
space_kept s n = ap (λ ps. kept_start is_git_space n (spans_from 0 ps)) (space_first s)

-- a space in front of such a text is trimmed
start_space : (s : Text) → (BeginsWhite s → ⊥) → trim_start_by is_git_space (32 ∷ s) ≡ s
unfolding kept_start spans_from
start_space [] other = drop_all _ (32 ∷ []) (omega (arith, space_kept [] 1 ∙ ap (λ ps. kept_start is_git_space 1 (spans_from 1 ps)) pieces-nil))
start_space (b ∷ s) other = ap (λ n. drop n (32 ∷ b ∷ s)) (space_kept (b ∷ s) (length (32 ∷ b ∷ s)) ∙ start_at (b ∷ s) 1 (length (32 ∷ b ∷ s)) (omega arith) other)

-- ---- the end

-- what this library's trimming leaves, git's does
later_end : (ps : List Decoded) (off m n : ℕ) → m ≤ n → n ≤ off → kept_end is_whitespace m (spans_from off ps) ≤ kept_end is_git_space n (spans_from off ps)
unfolding kept_end spans_from
later_end [] off m n le before = le
later_end (p ∷ ps) off m n le before = by (later_end ps (off + p.size)) (is_space p) refl (is_whitespace (or_replacement p.char)) refl
  where
    by : ((a b : ℕ) → a ≤ b → b ≤ off + p.size → kept_end is_whitespace a (spans_from (off + p.size) ps) ≤ kept_end is_git_space b (spans_from (off + p.size) ps))
        → (s : Bool) → is_git_space (or_replacement p.char) ≡ s → (w : Bool) → is_whitespace (or_replacement p.char) ≡ w
        → kept_end is_whitespace (cond w m (off + p.size)) (spans_from (off + p.size) ps) ≤ kept_end is_git_space (cond s n (off + p.size)) (spans_from (off + p.size) ps)
    by rest true space true white = rest m n le (omega (arith, before))
    by rest true space false white = absurd (true≢false (sym (space_white (or_replacement p.char) space) ∙ white))
    by rest false space true white = rest m (off + p.size) (omega (arith, le, before)) (omega arith)
    by rest false space false white = rest (off + p.size) (off + p.size) (omega arith) (omega arith)

drop_none : (k : ℕ) (s : Text) → length s ≤ length (drop k s) → drop k s ≡ s
drop_none zero s le = refl
drop_none (suc k) [] le = refl
drop_none (suc k) (x ∷ s) le = absurd (omega (arith, length-drop k s))

-- a text that is trimmed stays as it is
end_stays : (s : Text) → s ≡ trim s → trim_end_by is_git_space s ≡ s
unfolding trim
end_stays s is =
    let k = kept_start is_whitespace (length s) (spans_from 0 (pieces s)) in
    let j = kept_end is_whitespace 0 (spans_from 0 (pieces (drop k s))) in
    let whole : drop k s ≡ s = drop_none k s (omega (arith, ap length is, length-take j (drop k s))) in
    let left : s ≡ trim_end_by is_whitespace s = is ∙ ap (trim_end_by is_whitespace) whole in
    take_all _ s (omega (arith, ap length left, length-take (kept_end is_whitespace 0 (spans_from 0 (pieces s))) s, later_end (pieces s) 0 0 0 (omega arith) (omega arith)))

end_bound : (ps : List Decoded) (off end : ℕ) → end ≤ off → kept_end is_git_space end (spans_from off ps) ≤ off + sizes ps
unfolding kept_end spans_from sizes
end_bound [] off end le = omega (arith, le)
end_bound (p ∷ ps) off end le =
    let below : cond (is_space p) end (off + p.size) ≤ off + p.size = grind arith in
    omega (arith, end_bound ps (off + p.size) _ below)

end_space : (ps : List Decoded) (off end : ℕ) → kept_end is_git_space end (spans_from off (ps ++ good 32 1 ∷ [])) ≡ kept_end is_git_space end (spans_from off ps)
unfolding kept_end spans_from
end_space [] off end = refl
end_space (p ∷ ps) off end = end_space ps (off + p.size) _

clean : StartsClean (32 ∷ [])
clean some = refl

space_last : (s : Text) → pieces (s ++ 32 ∷ []) ≡ pieces s ++ good 32 1 ∷ []
space_last s = pieces-append (length s) s (32 ∷ []) (omega arith) clean ∙ ap (λ ps. pieces s ++ ps) (space_first [] ∙ ap (λ ps. good 32 1 ∷ ps) pieces-nil)

-- a space at the end is trimmed
end_trimmed : (s : Text) → trim_end_by is_git_space (s ++ 32 ∷ []) ≡ trim_end_by is_git_space s
end_trimmed s = ap (λ n. take n (s ++ 32 ∷ [])) (ap (λ ps. kept_end is_git_space 0 (spans_from 0 ps)) (space_last s) ∙ end_space (pieces s) 0 0)
    ∙ take-append-le _ s (32 ∷ []) (omega (arith, end_bound (pieces s) 0 0 (omega arith), pieces-sizes (length s) s (omega arith)))

end_nil : trim_end_by is_git_space [] ≡ []
end_nil = nil_from_length _ (omega (arith, length-take {A = ℕ} (kept_end is_git_space 0 (spans_from 0 (pieces []))) []))

-- ---- names

not_empty : (s : Text) → (s ≡ [] → ⊥) → 0 < length s
not_empty [] some = absurd (some refl)
not_empty (b ∷ s) some = omega arith

no_white : (n : Text) → IsWritableName n → BeginsWhite (n ++ 32 ∷ []) → ⊥
no_white n w h = BeginsWhite-trimmed n w.trimmed (begins-before n (32 ∷ []) clean (not_empty n w.some) h)

nothing_begins : BeginsWhite [] → ⊥
nothing_begins h = BeginsWhite-trimmed [] (sym trim-nil) h

-- a name with spaces around it
pub name_trimmed : (is_spaced : Bool) (o : Option Text) → IfSome o IsWritableName → trim_name ((if is_spaced then 32 ∷ [] else []) ++ name_part o) ≡ unwrap_or o []
unfolding trim_name
name_trimmed false None w = ap (trim_end_by is_git_space) (start_stays [] nothing_begins) ∙ end_nil
name_trimmed true None w = ap (trim_end_by is_git_space) (start_space [] nothing_begins) ∙ end_nil
name_trimmed false (Some n) w = ap (trim_end_by is_git_space) (start_stays (n ++ 32 ∷ []) (no_white n w)) ∙ end_trimmed n ∙ end_stays n w.trimmed
name_trimmed true (Some n) w = ap (trim_end_by is_git_space) (start_space (n ++ 32 ∷ []) (no_white n w)) ∙ end_trimmed n ∙ end_stays n w.trimmed
