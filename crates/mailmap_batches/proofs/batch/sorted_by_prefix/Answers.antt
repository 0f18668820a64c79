use Rattle.std.proofs.Common.{◌≡◌, ap, rules}
use Rattle.std.proofs.lemmas.Bool.{MatchBool-at_true}
use Rattle.std.proofs.lemmas.Cmp.{nat_cmp_total}
use Rattle.std.proofs.lemmas.List.Sorted.{IsNonDecreasingBy-from_all_adjacent, IsNonDecreasingBy-from_sort_by_key, answers_always}
use Rattle.mailmap_entries.specs.Prefixes.{key_prefix}
use Rattle.mailmap_entries.specs.Semantics.{Key}
use Rattle.mailmap_batches.specs.Batches.{email_prefix}
use Rattle.mailmap_batches.proofs.SortedRuns.{kept, kept_by, le_from_answer}
use Rattle.mailmap_batches.proofs.batch.sorted_by_prefix.Goals as goal

pub returns-then-is_sorted_by_key-clause-kept : goal.returns-then-is_sorted_by_key-clause-kept
returns-then-is_sorted_by_key-clause-kept c = kept c.args.batch.items

pub returns-then-is_sorted_by_key-clause-ascending : goal.returns-then-is_sorted_by_key-clause-ascending
returns-then-is_sorted_by_key-clause-ascending c =
    let computes = answers_always _ (λ a r. r ≡ email_prefix a.0.now) _ (λ f a r f' k. search rules) in
    let all = MatchBool-at_true _ _ c.if-is_sorted_by_key.true (c.is_sorted_by_key.ensures.cases email_prefix computes) in
    rw (← c.deref.ensures.value)
    (IsNonDecreasingBy-from_all_adjacent email_prefix c.deref.result.now (λ k d lt. le_from_answer _ _ (all k d lt)))

pub returns-clause-kept : goal.returns-clause-kept
returns-clause-kept c =
    kept_by nat_cmp_total email_prefix (λ p q e. ap (λ (j : Key). key_prefix 16 j.0) e) _ _
    c.sort_by_key.ensures.permutation (c.sort_by_key.ensures.stable email_prefix
    (answers_always _ (λ a r. r ≡ email_prefix a.0.now) _ (λ f a r f' k. search rules)))

pub returns-clause-ascending : goal.returns-clause-ascending
returns-clause-ascending c =
    IsNonDecreasingBy-from_sort_by_key email_prefix _ c.in_ok-sort_by_key.ensures.sorted (λ a r q k. search rules)
