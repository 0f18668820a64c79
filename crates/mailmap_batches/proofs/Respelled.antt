-- A batch can be sorted by key without a change to the result, if each email gets its first spelling.
use Rattle.std.proofs.lemmas.Grind.{common_steps}
use Rattle.std.proofs.Common.{◌≡◌, ◌≤◌, ◌<◌, ◌+◌, ℕ, zero, suc, Bool, true, false, cond, List, [], ◌∷◌, ◌++◌, map}
use Rattle.std.proofs.Common.{filter, length, get_or, All, Contains, Some, None, option_map, is_some, unwrap_or}
use Rattle.std.proofs.Common.{sym, ap, ◌∙◌, arith}
use Rattle.std.specs.Cmp.{Equal-is, tied_itself}
use Rattle.std.specs.Cmp.Lexicographic.{nat_list_cmp_total}
use Rattle.std.specs.List.{AllByRecursion, enumerate_from, list_any}
use Rattle.std.specs.List.Sorted.{IsPermutation}
use Rattle.std.specs.Ordering.{eq_by_cmp}
use Rattle.std.proofs.lemmas.Bool.{or_right}
use Rattle.std.proofs.lemmas.List.{map-append}
use Rattle.std.proofs.lemmas.List.Elements.{All-contains, All-from_recursion, recursion_from_All}
use Rattle.std.proofs.lemmas.List.Sorted.{All-permutation, Contains-permutation, IsPermutation-sym}
use Rattle.std.proofs.lemmas.Map.Lookups.{exact_bytes}
use Rattle.mailmap_entries.specs.Entries.{Mapping}
use Rattle.mailmap_entries.specs.Folding.{Text, folded, text_cmp}
use Rattle.mailmap_entries.specs.Semantics.{Key, key, key_cmp, first, is_accepted, accepted, of_key, has_key, spelling}
use Rattle.mailmap_entries.specs.Semantics.{value}
use Rattle.mailmap_entries.proofs.Alike.{Alike, picked-append, first_parts, key_parts}
use Rattle.mailmap_entries.proofs.Ascending.{each_key, same_any}
use Rattle.mailmap_entries.proofs.Exists.{speller}
use Rattle.mailmap_entries.proofs.Parts.{all_mapped, all_weaker, first_alike, first_found, is_some-option_map}
use Rattle.mailmap_entries.proofs.Parts.{filter-map, filter_alike, map_alike, list_any-map, some_again}
use Rattle.mailmap_entries.proofs.Joined.{alike_by_keys, stripped}
use Rattle.mailmap_entries.proofs.Keys.{keys_total, keys_exact}
use Rattle.mailmap_entries.proofs.Normal.{known}
use Rattle.mailmap_batches.proofs.Numbered.{mapped_twice}
use Rattle.mailmap_entries.proofs.Building.{other_text}

-- ---- the batch with the spellings of its emails

-- the entry with its email spelled as h spells it
abbrev pub respelled : List Mapping → Mapping → Mapping
respelled h e = record e { old_email = unwrap_or (spelling h (folded e.old_email)) [] }

module _ (a xs us : List Mapping) (keyed : (k : Key) → of_key xs k ≡ of_key us k) where
  abbrev h : List Mapping
  h = a ++ xs

  abbrev respell : Mapping → Mapping
  respell = respelled h

  has_same : (k : Key) → has_key (accepted us) k ≡ has_key (accepted xs) k
  has_same k = known us k ∙ ap (λ l. is_some (first l)) (sym (keyed k)) ∙ sym (known xs k)

  -- the spelling of an email that the batch has folds to that email
  folded_kept : (k : Key) → has_key (accepted us) k ≡ true → folded (unwrap_or (spelling h k.0) []) ≡ k.0
  folded_kept k has =
      let w = speller h k (key_parts k a xs ∙ or_right (has_key (accepted a) k) (has_key (accepted xs) k)
      (sym (has_same k) ∙ has)) in
      ap (λ o. folded (unwrap_or o [])) w.1 ∙ w.2

  kept : AllByRecursion (λ e. folded (respell e).old_email ≡ folded e.old_email) (accepted us)
  kept = each_key keys_total keys_exact key (value h) (λ k. folded (unwrap_or (spelling h k.0) []) ≡ k.0) (accepted us)
      folded_kept

  key_kept : (e : Mapping) → folded (respell e).old_email ≡ folded e.old_email → key (respell e) ≡ key e
  key_kept e same = λ i. (same i, option_map folded e.old_name)

  accepted_kept : accepted (map respell us) ≡ map respell (accepted us)
  accepted_kept = filter-map is_accepted respell us

  of_key_kept : (k : Key) → of_key (map respell us) k ≡ map respell (of_key us k)
  of_key_kept k = grind (arith, common_steps, accepted_kept, filter-map, filter_alike, all_weaker, key_kept, kept)

  keyed_alike : (k : Key) → map stripped (of_key h k) ≡ map stripped (of_key (a ++ map respell us) k)
  keyed_alike k =
      let t : Mapping → Bool = λ e. eq_by_cmp key_cmp k (key e) in
      let parts : (l : List Mapping) → map stripped (of_key (a ++ l) k) ≡ map stripped (of_key a k) ++ map stripped
      (of_key l k) = λ l. ap (map stripped) (picked-append t a l) ∙ map-append stripped (of_key a k) (of_key l k) in
      parts xs
      ∙ ap (λ l. map stripped (of_key a k) ++ l) (ap (map stripped) (keyed k) ∙ sym (ap (map stripped) (of_key_kept k)
      ∙ mapped_twice respell stripped (of_key us k))) ∙ sym (parts (map respell us))

  -- the batch spells an email as the whole list does
  spelling_kept : (email : Text) → spelling (map respell us) email ≡ cond (is_some (spelling xs email))
      (Some (unwrap_or (spelling h email) [])) None
  spelling_kept email =
      let p : Key → Bool = λ k. eq_by_cmp text_cmp email k.0 in
      let s : Text = unwrap_or (spelling h email) [] in
      let all_s : AllByRecursion (λ e. p (key e) ≡ true → e.old_email ≡ s) (map respell (accepted us)) =
      all_mapped respell (λ e. p (key e) ≡ true → e.old_email ≡ s) (accepted us)
      (all_weaker (accepted us) (λ e same is. ap (λ t. unwrap_or (spelling h t) [])
      (sym (exact_bytes email (folded (respell e).old_email)
      ((Equal-is (text_cmp email (folded (respell e).old_email))).0 is) ∙ same))) kept) in
      let keys : map key (map respell (accepted us)) ≡ map key (accepted us) = mapped_twice respell key (accepted us)
      ∙ map_alike (λ e. key (respell e)) key (accepted us) (all_weaker (accepted us) key_kept kept) in
      let any : list_any (λ e. p (key e)) (map respell (accepted us)) ≡ is_some (spelling xs email) =
      sym (list_any-map p key (map respell (accepted us))) ∙ ap (list_any p) keys ∙ same_any keys_total keys_exact p
      (map key (accepted us)) (map key (accepted xs)) has_same
      ∙ list_any-map p key (accepted xs) ∙ first_found (λ e. p (key e)) (accepted xs)
      ∙ is_some-option_map (λ e. e.old_email) (first (filter (λ e. p (key e)) (accepted xs))) in
      ap (λ l. option_map (λ e. e.old_email) (first (filter (λ e. p (key e)) l))) accepted_kept
      ∙ first_alike (λ e. e.old_email) (λ e. p (key e)) s (map respell (accepted us)) all_s
      ∙ ap (λ b. cond b (Some s) None) any

  spelled_alike : (email : Text) → spelling h email ≡ spelling (a ++ map respell us) email
  spelled_alike email = grind (arith, common_steps, first_parts, spelling_kept, some_again)

  -- a batch can be sorted by its keys, if each email is spelled as in the whole list
  pub alike_respelled : Alike (a ++ xs) (a ++ map (respelled (a ++ xs)) us)
  alike_respelled = alike_by_keys h (a ++ map respell us) keyed_alike spelled_alike

-- ---- the entry that spells an email

spelling_skips : (email : Text) (y : Mapping) (ys : List Mapping) → eq_by_cmp text_cmp email (folded y.old_email)
    ≡ false → spelling (y ∷ ys) email ≡ spelling ys email
spelling_skips email y ys other = grind (arith, common_steps)

pub spelling_first : (y : Mapping) (ys : List Mapping) → is_accepted y ≡ true → spelling (y ∷ ys) (folded y.old_email)
    ≡ Some y.old_email
spelling_first y ys good = grind (arith, common_steps, tied_itself, nat_list_cmp_total)

-- what no later entry of the same email comes before
abbrev IsLeast : ℕ × Mapping → ℕ × Mapping → Type 0
IsLeast p q = folded q.1.old_email ≡ folded p.1.old_email → p.0 ≤ q.0

numbered : {X : Type 0} (n : ℕ) (xs : List X) → AllByRecursion (λ q. n ≤ q.0) (enumerate_from n xs)
numbered n [] = tt
numbered n (x ∷ xs) =
    (omega arith, all_weaker (enumerate_from (n + 1) xs) (λ q le. omega (arith, le)) (numbered (n + 1) xs))

spells_from : (n : ℕ) (xs : List Mapping) (p : ℕ × Mapping) (k : ℕ) → AllByRecursion (λ e. is_accepted e ≡ true) xs
    → k < length (enumerate_from n xs) → get_or (enumerate_from n xs) k p ≡ p
    → AllByRecursion (IsLeast p) (enumerate_from n xs) → spelling xs (folded p.1.old_email) ≡ Some p.1.old_email
spells_from n [] p k good lt is least = absurd (omega arith)
spells_from n (x ∷ xs) p zero good lt is least = let accepted = good.0 in grind (arith, spelling_first)
spells_from n (x ∷ xs) p (suc k) good lt is least =
    let rest : List (ℕ × Mapping) = enumerate_from (n + 1) xs in
    let more : n + 1 ≤ p.0 = All-contains (λ q. n + 1 ≤ q.0) rest p (All-from_recursion _ rest (numbered (n + 1) xs))
    (k, omega arith, is) in
    let email : Text = folded p.1.old_email in
    spelling_skips email x xs (other_text email (folded x.old_email) (λ same. absurd (let le : p.0 ≤ n = least.0 same in
    omega arith))) ∙ spells_from (n + 1) xs p k good.1 (omega arith) is least.1

-- the entry with the least index spells its email
pub least_spells : (xs : List Mapping) (ps : List (ℕ × Mapping)) (p : ℕ × Mapping)
    → AllByRecursion (λ e. is_accepted e ≡ true) xs → IsPermutation (enumerate_from 0 xs) ps → Contains ps p
    → All (λ q. folded q.1.old_email ≡ folded p.1.old_email → p.0 ≤ q.0) ps
    → spelling xs (folded p.1.old_email) ≡ Some p.1.old_email
least_spells xs ps p good moved among least =
    let all : List (ℕ × Mapping) = enumerate_from 0 xs in
    let back : IsPermutation ps all = IsPermutation-sym all ps moved in
    let here = Contains-permutation ps all p back among in
    spells_from 0 xs p here.0 good here.1 here.2 (recursion_from_All (IsLeast p) all (All-permutation (IsLeast p) ps
    all back least))
