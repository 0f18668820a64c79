use Rattle.std.proofs.Common.{rules, ◌≡◌, false, true}
use Rattle.std.specs.List.Sorted.{IsStrictlySortedBy}
use Rattle.std.specs.Map.{keys_of}
use Rattle.std.proofs.lemmas.List.Sorted.{IsPermutation-refl}
use Rattle.mailmap_shortlog.specs.Answers.{answer_cmp}
use Rattle.mailmap_shortlog.proofs.Ordered.{counts_ascend, texts_ascend}
use Rattle.mailmap_shortlog.proofs.shortlog.listed.Goals as goal

pub returns-then-not-by_count : goal.returns-then-not-by_count
returns-then-not-by_count c =
    let es = c.args.answers.entries in
    let texts : c.args.by_count ≡ false = search rules in
    let all : c.in_ok-listed.listed.items ≡ es = search rules in
    let once : IsStrictlySortedBy answer_cmp (keys_of es) = search rules in
    record { moved = rw all (IsPermutation-refl es); once = once; in_order = rw (texts, all) (texts_ascend es once) }

pub returns : goal.returns
returns c =
    let es = c.args.answers.entries in
    let counts : c.args.by_count ≡ true = search rules in
    let all : c.in_ok-listed.listed.items ≡ es = search rules in
    let once : IsStrictlySortedBy answer_cmp (keys_of es) = search rules in
    let moved = rw all at c.in_ok-sort_by_counts.ensures.moved in
    record {
      moved = moved;
      once = once;
      in_order = rw counts (counts_ascend es c.sort_by_counts.new.answers.items (texts_ascend es once) moved c.in_ok-sort_by_counts.ensures.sorted);
    }
