use Rattle.std.proofs.lemmas.Result.{IfOk-weaker}
use Rattle.caller_promises.proofs.suggesting.answer_to.Goals as goal

pub returns : goal.returns
returns c = λ h normal. IfOk-weaker c.resolve.result _ _ (λ s is. λ i. record { name = is.name i; email = is.email i }) (c.resolve.ensures.history h normal)
