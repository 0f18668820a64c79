use Rattle.std.proofs.lemmas.Result.{IfOk-weaker}
use Rattle.gix_mailmap.specs.Building.{IsHeadline}
use Rattle.caller_promises.proofs.listings.copy.Goals as goal

pub returns : goal.returns
returns c h headline = IfOk-weaker c.try_clone.result _ (IsHeadline h) (λ s is. rw is headline) c.try_clone.ensures
