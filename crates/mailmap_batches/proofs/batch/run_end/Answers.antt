use Rattle.std.proofs.Common.{arith}
use Rattle.mailmap_batches.proofs.batch.run_end.Goals as goal

pub loop-end-init : goal.loop-end-init
loop-end-init c = record {
  after = omega arith;
  within = omega (arith, c.requires);
  same = λ k d e. grind (arith, e, c.prefix_at-prefix.ensures d);
}

pub loop-end-preserved : goal.loop-end-preserved
loop-end-preserved c = record {
  after = omega (arith, c.loop-end.invariant.after);
  within = omega (arith, c.loop-end-test.true);
  same = λ k d e. grind (arith, e, c.prefix_at.ensures d, c.if-prefix_at-prefix.true);
}
