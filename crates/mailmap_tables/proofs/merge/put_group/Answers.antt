use Rattle.std.proofs.Common.{◌≡◌, ap, get_or, subst, sym, true}
use Rattle.mailmap_entries.proofs.Alike.{alike_itself, alike_joined}
use Rattle.mailmap_entries.specs.Semantics.{is_accepted}
use Rattle.mailmap_batches.specs.Batches.{mapping_at}
use Rattle.mailmap_batches.specs.declared.indexed.IndexedEntry.{IndexedEntry}
use Rattle.mailmap_tables.specs.Put.{with_old_email}
use Rattle.mailmap_tables.proofs.Merged.{one_item, one_put, put_alike}
use Rattle.mailmap_tables.proofs.merge.put_group.Goals as goal

pub loop-i-init : goal.loop-i-init
loop-i-init c =
    let put = c.in_ok-index.ensures.ok in
    record {
      put = put_alike _ _ _ (alike_joined _ _ _ _ (alike_itself _)
          (c.combined_start-count.ensures.alike c.args.email.text.now)) put.put;
      found = put.found;
    }

pub loop-i-preserved : goal.loop-i-preserved
loop-i-preserved c =
    let put = c.in_ok-put_at.ensures.ok in
    record {
      put = one_put (λ (p : IndexedEntry). with_old_email c.args.email.text.now (mapping_at p)) c.args.group.now _ _ _ _
          (get_or c.args.group.now c.loop-i.i c.index-group-i.result) c.loop-i-test.true
          (ap (get_or c.args.group.now c.loop-i.i) c.index-group-i.is) c.loop-i.invariant.put put.put;
      found = put.found;
    }

pub returns-in-len1 : goal.returns-in-len1
returns-in-len1 c = rw (one_item c.args.group.now c.only-item.result c.in-len1.len_at_least c.in-len1.len_below
    c.only-item.is) c.in_ok-put.ensures.ok.put

pub put-requires-clause-accepted : goal.put-requires-clause-accepted
put-requires-clause-accepted c =
    subst (λ (p : IndexedEntry). is_accepted (mapping_at p) ≡ true) (sym c.only-item.is) (c.requires.accepted 0 c.only-item.result c.requires.some)

pub put_at-requires-clause-groups : goal.put_at-requires-clause-groups
put_at-requires-clause-groups c = c.loop-i.invariant.put.groups

pub put_at-requires-clause-found : goal.put_at-requires-clause-found
put_at-requires-clause-found c = c.loop-i.invariant.found

pub put_at-requires-clause-accepted : goal.put_at-requires-clause-accepted
put_at-requires-clause-accepted c = c.requires.accepted c.loop-i.i c.index-group-i.result c.loop-i-test.true
