use Rattle.std.proofs.Common.{◌≡◌, ◌∙◌, ◌+◌, ◌-◌, ◌<◌, [], List, ap, arith, drop, length, length-drop, subst, sym, take}
use Rattle.std.proofs.lemmas.List.{drop-drop, drop_all, take_rest}
use Rattle.mailmap_batches.specs.declared.indexed.IndexedEntry.{IndexedEntry}
use Rattle.mailmap_tables.proofs.Built.{AreBuilt, built_end, built_start, built_step, group_good}
use Rattle.mailmap_tables.proofs.merge.put_groups.Goals as goal

pub loop-start-init : goal.loop-start-init
loop-start-init c = record {
  within = omega arith;
  built = λ xs good sorted. rw c.requires.empty (built_start good sorted);
}

pub put_group-requires-clause-accepted : goal.put_group-requires-clause-accepted
put_group-requires-clause-accepted c =
    let start = c.loop-start.start in
    let all = c.deref.result.now in
    let xs = c.requires.sorted.0 in
    let is : take (length all - start) (drop start all) ≡ drop start c.loop-start.batch.items =
    take_rest all start ∙ ap (drop start) c.deref.ensures.value in
    group_good c.email_group_len-len.result (subst (λ (l : List IndexedEntry). AreBuilt xs c.args.batch.now.items l c.loop-start.tables.groups) (sym is)
    (c.loop-start.invariant.built xs c.requires.sorted.1 c.requires.sorted.2))

pub loop-start-preserved : goal.loop-start-preserved
loop-start-preserved c =
    let start = c.loop-start.start in
    let items = c.loop-start.batch.items in
    let all = c.deref.result.now in
    let left = take (length all - start) (drop start all) in
    let is : left ≡ drop start items = take_rest all start ∙ ap (drop start) c.deref.ensures.value in
    let len = c.email_group_len-len.result in
    let group = c.email_group_len-len.ensures in
    let some : 0 < length left = omega (arith, group.some, group.within) in
    record {
      within = c.free_first-start.ensures.within;
      built = λ xs good sorted.
          let built = subst (λ (l : List IndexedEntry). AreBuilt xs c.args.batch.now.items l c.loop-start.tables.groups) (sym is) (c.loop-start.invariant.built xs good sorted) in
          let step = built_step good sorted len c.earliest.result built some group.same group.other
          c.earliest.ensures.among c.earliest.ensures.least (rw c.email.ensures at c.in_ok-put_group.ensures) in
          rw (c.free_first-start.ensures.others, ← drop-drop len start items, ← is) step;
    }

pub loop-start-smaller : goal.loop-start-smaller
loop-start-smaller c =
    let start = c.loop-start.start in
    let items = c.loop-start.batch.items in
    let len = c.email_group_len-len.result in
    omega (
      arith,
      ap length c.free_first-start.ensures.others,
      length-drop c.free_first-start.result c.free_first-start.new.batch.items,
      length-drop (start + len) items,
      c.email_group_len-len.ensures.some,
      c.free_first-start.ensures.within,
    )

pub returns : goal.returns
returns c = λ xs good sorted.
    let none : drop c.loop-start.start c.loop-start.batch.items ≡ [] = drop_all c.loop-start.start c.loop-start.batch.items (omega arith) in
    built_end good sorted (rw none at c.loop-start.invariant.built xs good sorted)
