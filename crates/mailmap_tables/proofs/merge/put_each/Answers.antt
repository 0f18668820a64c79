use Rattle.std.proofs.Common.{◌≡◌, subst, sym, true}
use Rattle.std.proofs.lemmas.List.Elements.{All-from_recursion}
use Rattle.mailmap_entries.specs.Entries.{mapping_of}
use Rattle.mailmap_entries.specs.Semantics.{is_accepted}
use Rattle.mailmap_entries.specs.declared.entry.Entry.{Entry}
use Rattle.mailmap_entries.proofs.Parts.{all_map}
use Rattle.mailmap_tables.proofs.Merged.{none_put, one_put}
use Rattle.mailmap_tables.proofs.merge.put_each.Goals as goal

pub loop-entry-init : goal.loop-entry-init
loop-entry-init c = none_put c.requires.groups

pub put-requires-clause-accepted : goal.put-requires-clause-accepted
put-requires-clause-accepted c =
    let good : Entry → Type 0 = λ e. is_accepted (mapping_of e) ≡ true in
    let xs = c.args.entries.now in
    subst good (sym c.entry-item.is) (All-from_recursion good xs (all_map mapping_of _ xs c.requires.accepted)
    c.loop-entry.entry-index c.entry-item.result c.loop-entry-test.true)

pub loop-entry-preserved : goal.loop-entry-preserved
loop-entry-preserved c =
    one_put mapping_of c.args.entries.now _ _ _ _ c.entry-item.result c.loop-entry-test.true c.entry-item.is
    c.loop-entry.invariant (rw (c.new.ensures, c.old_email.ensures) at c.in_ok-put.ensures.ok).put
