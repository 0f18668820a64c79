use Rattle.std.proofs.Common.{◌≡◌, [], ap, rules, unwrap_or}
use Rattle.std.proofs.lemmas.Cmp.{nat_cmp_total}
use Rattle.std.proofs.lemmas.List.Sorted.{answers_always}
use Rattle.mailmap_entries.specs.Prefixes.{key_prefix}
use Rattle.mailmap_entries.specs.Semantics.{Key}
use Rattle.mailmap_batches.specs.Batches.{name_prefix}
use Rattle.mailmap_batches.proofs.SortedRuns.{kept, kept_by}
use Rattle.mailmap_batches.proofs.batch.sort_name_prefixes.Goals as goal

pub returns-then-run-le-FEW : goal.returns-then-run-le-FEW
returns-then-run-le-FEW c = kept c.args.run.now

pub returns : goal.returns
returns c = kept_by nat_cmp_total name_prefix (λ p q e. ap (λ (j : Key). key_prefix 16 (unwrap_or j.1 [])) e) _ _
    c.sort_by_cached_key.ensures.permutation (c.sort_by_cached_key.ensures.stable name_prefix
    (answers_always _ (λ a r. r ≡ name_prefix a.0.now) _ (λ f a r f' k. search rules)))
