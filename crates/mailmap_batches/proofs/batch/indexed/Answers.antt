use Rattle.std.proofs.Common.{arith}
use Rattle.std.proofs.lemmas.Grind.{common_steps}
use Rattle.std.proofs.lemmas.List.{map_more, map_push, length-take-le}
use Rattle.mailmap_batches.proofs.Numbered.{enumerate_from-push}
use Rattle.mailmap_batches.proofs.batch.indexed.Goals as goal

pub loop-index-preserved : goal.loop-index-preserved
loop-index-preserved g c = grind (arith, common_steps, enumerate_from-push, map_more, map_push, length-take-le)
