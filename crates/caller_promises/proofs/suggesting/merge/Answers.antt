use Rattle.std.proofs.lemmas.Result.{on_ok_weaker}
use Rattle.caller_promises.proofs.suggesting.merge.Goals as goal

pub returns : goal.returns
returns c = on_ok_weaker c.merge_source.result (λ m. m.history) c.merge_source.ensures.ok
