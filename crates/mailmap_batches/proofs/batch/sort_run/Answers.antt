use Rattle.std.proofs.Common.{◌≡◌, All, ap, arith, get_or, rules}
use Rattle.std.specs.Cmp.Lexicographic.{nat_list_cmp_total, options_total}
use Rattle.std.proofs.lemmas.List.{take_all}
use Rattle.std.proofs.lemmas.List.Sorted.{All-permutation}
use Rattle.mailmap_entries.proofs.Keys.{keys_total}
use Rattle.mailmap_entries.proofs.Results.{on_ok_then}
use Rattle.mailmap_batches.specs.Batches.{folded_email_at, key_at}
use Rattle.mailmap_batches.specs.declared.indexed.IndexedEntry.{IndexedEntry}
use Rattle.mailmap_batches.proofs.SortedRuns.{ascending_by_key, by_names, kept_then, name_at, one_sorted, sorted_by}
use Rattle.mailmap_batches.proofs.batch.sort_run.Goals as goal

pub returns-then-run-eq1 : goal.returns-then-run-eq1
returns-then-run-eq1 c = one_sorted c.args.run.now (omega arith)

pub returns-then-email_group_len-run : goal.returns-then-email_group_len-run
returns-then-email_group_len-run c =
    let old = c.sort_name_prefixes.new.run in
    let new = c.sort_by.new.self in
    let moved = c.sort_by.ensures.permutation in
    let all : (d : IndexedEntry) → All (λ p. folded_email_at p ≡ folded_email_at (get_or old 0 d)) old =
    rw (take_all c.email_group_len.result old (omega arith)) at c.email_group_len.ensures.same in
    on_ok_then c.sort_by.result _ _ (λ sorted.
    let by = sorted_by (options_total nat_list_cmp_total) name_at (λ p q e. ap (λ k. k.1) e) old new moved
    c.sort_by.ensures.stable sorted (λ f a r f' k. search rules) in
    record {
      kept = kept_then c.sort_name_prefixes.ensures by.0;
      ascending = ascending_by_key new (by_names (λ d. get_or old 0 d) new (λ d. All-permutation (λ p. folded_email_at p ≡ folded_email_at (get_or old 0 d)) old new moved (all d)) by.1);
    }) c.sort_by.ensures.sorted

pub returns : goal.returns
returns c =
    on_ok_then c.sort_by-2.result _ _ (λ sorted.
    let by = sorted_by keys_total key_at (λ p q e. e) _ _ c.sort_by-2.ensures.permutation c.sort_by-2.ensures.stable sorted
    (λ f a r f' k. search rules) in
    record { kept = kept_then c.sort_name_prefixes.ensures by.0; ascending = ascending_by_key _ by.1 }) c.sort_by-2.ensures.sorted
