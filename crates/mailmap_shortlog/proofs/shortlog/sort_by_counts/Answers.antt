use Rattle.std.proofs.Common.{rules, ◌≡◌, ap}
use Rattle.std.specs.Ordering.{is_lt}
use Rattle.std.proofs.lemmas.List.Sorted.{answers_always, ranks_by}
use Rattle.mailmap_entries.proofs.Results.{on_ok_then}
use Rattle.mailmap_shortlog.specs.Answers.{answer_counted}
use Rattle.mailmap_shortlog.specs.Shortlog.{count_order}
use Rattle.mailmap_shortlog.proofs.Ordered.{count_total}
use Rattle.mailmap_shortlog.proofs.shortlog.sort_by_counts.Goals as goal

pub returns-clause-sorted : goal.returns-clause-sorted
returns-clause-sorted c =
    let compares =
    answers_always _ (λ a r. is_lt r ≡ is_lt (count_order (answer_counted a.0.now) (answer_counted a.1.0.now))) _
    (λ f a r f' k. let e : r ≡ count_order (answer_counted a.0.now) (answer_counted a.1.0.now) = search rules in
    ap is_lt e) in
    on_ok_then c.sort_by.result _ _ (λ sorted. sorted (λ a b. is_lt (count_order (answer_counted a) (answer_counted b)))
    (ranks_by count_total answer_counted) compares) c.sort_by.ensures.sorted
