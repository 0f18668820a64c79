use Rattle.std.proofs.lemmas.Grind.{common_steps}
use Rattle.std.proofs.Common.{map, arith}
use Rattle.std.proofs.lemmas.List.{length-map}
use Rattle.mailmap_redundancy.specs.Redundancy.{located_of}
use Rattle.mailmap_redundancy.specs.Summaries.{located_mapping_of, located_mappings}
use Rattle.mailmap_redundancy.proofs.Rows.{further, over}
use Rattle.mailmap_redundancy.proofs.passes.drop_until_stable.Goals as goal

pub loop-len-preserved : goal.loop-len-preserved
loop-len-preserved c = grind (arith, common_steps, length-map, further)

pub returns-clause-effective : goal.returns-clause-effective
returns-clause-effective c =
    let kept = c.loop-len.kept in
    over (map located_of c.args.entries.now) (located_mappings kept.items) c.loop-len.len c.loop-len.invariant.0
    (omega (arith, length-map kept.items located_mapping_of, c.len.ensures, kept.ok.0, c.loop-len-test.false))
