-- Answers that are looked up by their names and emails, and the findings about them.
use Rattle.std.proofs.Common.{◌≡◌, ◌∙◌, ◌+◌, ◌<◌, ℕ, get_or, length, take, Less, List, None, Option, Some, [], ◌∷◌, ◌++◌, ap, cond, false, flat_map, map, option_to_list, refl, sym, true, ⊎_elim}
use Rattle.std.specs.BTreeMap.{is_at}
use Rattle.std.specs.List.{AllByRecursion}
use Rattle.std.specs.List.Sorted.{IsStrictlySortedBy}
use Rattle.std.specs.Map.{keys_of, lookup}
use Rattle.std.specs.Option.{option_map}
use Rattle.std.specs.Ordering.{is_eq}
use Rattle.std.proofs.lemmas.Bool.{cases_Bool}
use Rattle.std.proofs.lemmas.List.{map-append}
use Rattle.mailmap_contacts.specs.Answers.{tally_of}
use Rattle.mailmap_contacts.specs.Contacts.{Contact, Tally, both_seen, contact_cmp, same_contact, seen_where}
use Rattle.mailmap_contacts.specs.Counts.{SameTallies}
use Rattle.mailmap_contacts.specs.Proper.{proper}
use Rattle.mailmap_contacts.specs.declared.occurrences.Occurrences.{Occurrences}
use Rattle.mailmap_contacts.proofs.Entries.{entry_tally, key_cmp, same_by_cmp, same_is}
use Rattle.mailmap_contacts.proofs.Steps.{mapped_more}
use Rattle.mailmap_contacts.proofs.Sums.{seen-push}
use Rattle.mailmap_contacts.specs.declared.answers.Tally.{Tally as TheTally}
use Rattle.mailmap_suggestions.specs.ContactFindings.{ContactFinding, best_for, findings_for, group_findings, seen_among, seen_answer}
use Rattle.mailmap_suggestions.specs.Suggestions.{Suggestion}

-- ---- looking up

module _ {K : Type 0} (shown : K → Contact) where
  none_seen : (c : Contact) (es : List (K × Occurrences)) → AllByRecursion (λ q. contact_cmp c (shown q) ≡ Less) (keys_of es)
      → seen_where (same_contact c) (map (entry_tally shown) es) ≡ None
  none_seen c [] all = refl
  none_seen c (e ∷ es) all = ap (λ b. both_seen (cond b (Some e.1) None) (seen_where (same_contact c) (map (entry_tally shown) es)))
      (sym (same_by_cmp c (shown e.0)) ∙ ap is_eq all.0) ∙ none_seen c es all.1

  module _ (k : K) where
    abbrev of : List (K × Occurrences) → Option Occurrences
    of es = seen_where (same_contact (shown k)) (map (entry_tally shown) es)

    -- a map has the occurrences of what a key shows at the key
    pub looked_up : (es : List (K × Occurrences)) → IsStrictlySortedBy (key_cmp shown) (keys_of es)
        → lookup (is_at (key_cmp shown k)) es ≡ of es
    unfolding IsStrictlySortedBy
    looked_up [] up = refl
    looked_up (e ∷ es) up = ap (λ b. cond b (Some e.1) (lookup (is_at (key_cmp shown k)) es)) (same_by_cmp (shown k) (shown e.0))
        ∙ ⊎_elim first (other (looked_up es up.1)) (cases_Bool (same_contact (shown k) (shown e.0)))
      where
        first : same_contact (shown k) (shown e.0) ≡ true
            → cond (same_contact (shown k) (shown e.0)) (Some e.1) (lookup (is_at (key_cmp shown k)) es) ≡ of (e ∷ es)
        first same = ap (λ b. cond b (Some e.1) (lookup (is_at (key_cmp shown k)) es)) same
            ∙ sym (ap (λ b. both_seen (cond b (Some e.1) None) (of es)) same
            ∙ ap (both_seen (Some e.1)) (ap (λ c. seen_where (same_contact c) (map (entry_tally shown) es)) (same_is (shown k) (shown e.0) same) ∙ none_seen (shown e.0) es up.0))

        other : lookup (is_at (key_cmp shown k)) es ≡ of es → same_contact (shown k) (shown e.0) ≡ false
            → cond (same_contact (shown k) (shown e.0)) (Some e.1) (lookup (is_at (key_cmp shown k)) es) ≡ of (e ∷ es)
        other rest apart = ap (λ b. cond b (Some e.1) (lookup (is_at (key_cmp shown k)) es)) apart ∙ rest
            ∙ sym (ap (λ b. both_seen (cond b (Some e.1) None) (of es)) apart)

-- ---- one more answer

pub answered_more : (answer : Tally → Tally) (ts : List TheTally) (k : ℕ) (d : TheTally) → k < length ts
    → map answer (map tally_of (take (k + 1) ts)) ≡ map answer (map tally_of (take k ts)) ++ answer (tally_of (get_or ts k d)) ∷ []
answered_more answer ts k d lt = ap (map answer) (mapped_more tally_of ts k d lt) ∙ map-append answer (map tally_of (take k ts)) (tally_of (get_or ts k d) ∷ [])

pub seen_more : (ts : List TheTally) (k : ℕ) (d : TheTally) (o : Option Occurrences) (s : Occurrences) → k < length ts
    → Some s ≡ both_seen o (Some (tally_of (get_or ts k d)).seen) → o ≡ seen_where (λ c. true) (map tally_of (take k ts))
    → Some s ≡ seen_where (λ c. true) (map tally_of (take (k + 1) ts))
seen_more ts k d o s lt some is = some ∙ ap (λ p. both_seen p (Some (tally_of (get_or ts k d)).seen)) is
    ∙ sym (seen-push (λ c. true) (map tally_of (take k ts)) (tally_of (get_or ts k d)))
    ∙ ap (seen_where (λ c. true)) (sym (mapped_more tally_of ts k d lt))

-- ---- answers that are seen as often

module _ (seen others : List Tally) (same : SameTallies seen others) where
  same_answer : (a : Contact) → seen_answer seen a ≡ seen_answer others a
  same_answer a = ap (option_map (λ s. record { contact = a; seen = s })) (same (same_contact a))

  same_among : (answers : List Tally) → seen_among seen answers ≡ seen_among others answers
  same_among [] = refl
  same_among (a ∷ answers) = λ i. option_to_list (same_answer a.contact i) ++ same_among answers i

  same_findings : (s : Suggestion) → group_findings seen s ≡ group_findings others s
  same_findings s = λ i. findings_for s.kind (best_for s.kind (proper (same_among s.answers i)) (same_answer s.proper i)) (same_among s.answers i)

  all_findings : (found : List Suggestion) → flat_map (group_findings seen) found ≡ flat_map (group_findings others) found
  all_findings [] = refl
  all_findings (s ∷ found) = λ i. same_findings s i ++ all_findings found i

  -- what is pushed one after another
  pub all_found : (found : List Suggestion) (a b c d none gits : List ContactFinding) → a ≡ [] → b ≡ a ++ none
      → c ≡ b ++ flat_map (group_findings seen) found → d ≡ c ++ gits
      → d ≡ none ++ flat_map (group_findings others) found ++ gits
  all_found found a b c d none gits empty one two three =
      three ∙ ap (λ l. l ++ gits) (two ∙ (λ i. (one ∙ ap (λ l. l ++ none) empty) i ++ all_findings found i))
