use Rattle.std.proofs.lemmas.List.{map-append}
use Rattle.mailmap_entries.specs.Entries.{mapping_of}
use Rattle.mailmap_entries.proofs.Parts.{all_append}
use Rattle.mailmap_tables.proofs.Grouped.{groups_accepted}
use Rattle.mailmap_tables.proofs.merge.joined.Goals as goal

pub built-requires : goal.built-requires
built-requires c = rw c.deref.ensures.value c.requires.accepted

pub put_each-requires-clause-groups : goal.put_each-requires-clause-groups
put_each-requires-clause-groups c = rw c.in_ok-try_clone.ensures c.requires.groups

pub put_each-requires-clause-accepted : goal.put_each-requires-clause-accepted
put_each-requires-clause-accepted c = rw c.deref-then-len-min.ensures.value c.requires.accepted

pub returns-then-len-min : goal.returns-then-len-min
returns-then-len-min c = rw (c.in_ok-try_clone.ensures, c.deref-then-len-min.ensures.value) at c.put_each.ensures

pub built-requires-2 : goal.built-requires-2
built-requires-2 c = rw (
  c.deref-3.ensures.value,
  c.in_ok-extend_from_slice.ensures.items,
  c.deref-2.ensures.value,
  map-append mapping_of c.in_ok-all.all.items c.args.entries.items,
  c.in_ok-all.ensures,
)
    (all_append _ _ _ (groups_accepted c.args.existing_tables.now.groups) c.requires.accepted)

pub returns : goal.returns
returns c = rw (
  c.deref-3.ensures.value,
  c.in_ok-extend_from_slice.ensures.items,
  c.deref-2.ensures.value,
  map-append mapping_of c.in_ok-all.all.items c.args.entries.items,
  c.in_ok-all.ensures,
)
    at c.built-2.ensures
