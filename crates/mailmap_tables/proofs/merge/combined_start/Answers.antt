use Rattle.std.proofs.Common.{arith}
use Rattle.std.proofs.lemmas.Grind.{common_steps}
use Rattle.mailmap_batches.specs.Batches.{mapping_at}
use Rattle.mailmap_batches.specs.declared.indexed.IndexedEntry.{IndexedEntry}
use Rattle.mailmap_tables.specs.Put.{with_old_email}
use Rattle.mailmap_tables.proofs.Merged.{first_alike, more_combined}
use Rattle.mailmap_tables.proofs.merge.combined_start.Goals as goal

pub loop-i-init : goal.loop-i-init
loop-i-init c = record {
  some = omega arith;
  accepted = grind (arith, common_steps);
  alike = λ email. first_alike (λ (p : IndexedEntry). with_old_email email (mapping_at p)) c.args.group.now
      c.index-group-0.result c.requires.some;
}

pub loop-i-preserved : goal.loop-i-preserved
loop-i-preserved c = record {
  some = omega arith;
  accepted = c.combined-start.ensures.accepted;
  alike = λ email. more_combined (λ (p : IndexedEntry). with_old_email email (mapping_at p)) c.args.group.now
      c.index-group-i.result c.loop-i.i c.loop-i-test.true (c.loop-i.invariant.alike email)
      (c.combined-start.ensures.alike email);
}
