-- How git cuts a line into parts, and reads entries from them.
use Rattle.std.proofs.Common.{◌≡◌, ◌-◌, ◌<◌, ◌≤◌, ℕ, [], ◌∷◌, length, take, drop, length-drop, sym, ap, ◌∙◌, arith, ⊎_elim, take_all, min, zero, suc, Some, None, List}
use Rattle.std.proofs.lemmas.Bool.{cases_lt}
use Rattle.std.proofs.lemmas.List.{drop_all}
use Rattle.mailmap_entries.specs.Folding.{Text}
use Rattle.mailmap_findings.specs.Git.{git_entries, part_entry}
use Rattle.std.specs.List.{filter_map, cons_option}
use Rattle.std.specs.Simd.{first_chunks}
use Rattle.std.specs.Slice.Iter.{chunk_count}
use Rattle.mailmap_entries.specs.Entries.{Mapping}

-- the rest has one part less
fewer_parts : (n m : ℕ) → 0 < n → m ≡ n - 1023 → chunk_count n 1023 ≡ suc (chunk_count m 1023)
fewer_parts n m some left = omega (arith, some, left)

-- the first part's entry, if it has one, precedes the entries of the rest
pub entries-step : (s : Text) → 0 < length s → git_entries s ≡ cons_option (part_entry (take 1023 s)) (git_entries (drop 1023 s))
unfolding git_entries
entries-step s some = ap (λ k. filter_map part_entry (first_chunks 1023 k s))
    (fewer_parts (length s) (length (drop 1023 s)) some (length-drop 1023 s))

length-parts : (n k : ℕ) (s : Text) → length (filter_map part_entry (first_chunks n k s)) ≤ k
length-parts n zero s = omega arith
length-parts n (suc k) s = grind (arith, (length-parts n k (drop n s)))

-- at most one entry per byte
pub length_entries : (s : Text) → length (git_entries s) ≤ length s
unfolding git_entries
length_entries s = omega (arith, length-parts 1023 (chunk_count (length s) 1023) s)

same_take : (s : Text) (n : ℕ) → n ≡ min (length s) 1023 → (take n s ≡ take 1023 s) × (drop n s ≡ drop 1023 s)
same_take s n is = ⊎_elim
    (λ short. let e : n ≡ length s = omega (arith, is) in (take_all n s (omega arith) ∙ sym (take_all 1023 s (omega arith)), drop_all n s (omega arith) ∙ sym (drop_all 1023 s (omega arith))))
    (λ long. let e : n ≡ 1023 = omega (arith, is) in (ap (λ k. take k s) e, ap (λ k. drop k s) e))
    (cases_lt (length s) 1023)

module _ (said : List Mapping) (s part rest : Text) (n : ℕ) (front : part ≡ take n s) (back : rest ≡ drop n s) (is : n ≡ min (length s) 1023) (some : 0 < length s) (whole : git_entries s ≡ said) where
  split : said ≡ cons_option (part_entry part) (git_entries rest)
  split = grind (arith, entries-step, same_take)

  pub entries_some : (e : Mapping) → Some e ≡ part_entry part → said ≡ e ∷ git_entries rest
  entries_some e first = split ∙ ap (λ o. cons_option o (git_entries rest)) (sym first)

  pub entries_none : None ≡ part_entry part → git_entries rest ≡ said
  entries_none first = sym (split ∙ ap (λ o. cons_option o (git_entries rest)) (sym first))

pub entries_empty : (s : Text) → length s ≡ 0 → git_entries s ≡ []
unfolding git_entries
entries_empty s e = grind arith
