use Rattle.std.proofs.Common.{rules, ◌≡◌, ◌+◌, ap, map, refl, subst, take, take_all}
use Rattle.std.specs.Ordering.{is_lt}
use Rattle.std.proofs.lemmas.List.Sorted.{IsPermutation-map, answers_always, ranks_by}
use Rattle.mailmap_contacts.specs.Answers.{answer_key, answer_key_tally, tally_of}
use Rattle.mailmap_contacts.specs.Counts.{SameTallies}
use Rattle.mailmap_contacts.proofs.Entries.{entries_more}
use Rattle.mailmap_contacts.proofs.Steps.{mapped_more, none_before}
use Rattle.mailmap_suggestions.specs.Counted.{frequency_cmp}
use Rattle.mailmap_suggestions.proofs.Proper.{frequency_total, sorted_tallies}
use Rattle.mailmap_suggestions.proofs.counted.by_frequency.Goals as goal

pub loop-tally-preserved : goal.loop-tally-preserved
loop-tally-preserved c =
    let ts = c.args.tallies.now in
    let k = c.loop-tally.tally-index in
    entries_more answer_key c.loop-tally.counts.entries c.add_to.new.tallies.entries _ _ (map tally_of (take k ts)) (map tally_of (take (k + 1) ts)) _
    c.in_ok-add_to.ensures.ok c.loop-tally.invariant refl (mapped_more tally_of ts k _ c.loop-tally-test.true)

pub returns : goal.returns
returns c =
    let ts = c.args.tallies.now in
    let us = c.in_ok-found.found.items in
    let vs = c.sort_unstable_by.new.self.items in
    let same = subst (λ l. SameTallies (map answer_key_tally c.loop-tally.counts.entries) (map tally_of l)) (take_all c.loop-tally.tally-index ts c.loop-tally-test.false) c.loop-tally.invariant in
    let compares = answers_always _ (λ a r. is_lt r ≡ is_lt (frequency_cmp (tally_of a.0.now) (tally_of a.1.0.now))) _
    (λ f a r f' k. let e : r ≡ frequency_cmp (tally_of a.0.now) (tally_of a.1.0.now) = search rules in ap is_lt e) in
    let up = c.sort_unstable_by.ensures.sorted (λ x y. is_lt (frequency_cmp (tally_of x) (tally_of y))) (ranks_by frequency_total tally_of) compares in
    sorted_tallies (map tally_of ts) (map tally_of us) (map tally_of vs) (c.in_ok-found.ensures (map tally_of ts) same)
    (IsPermutation-map tally_of us vs c.sort_unstable_by.ensures.permutation) (none_before frequency_cmp frequency_total tally_of vs up)
