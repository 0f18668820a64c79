use Rattle.mailmap_redundancy.proofs.Kept.{some_effective, one_effective, effective_again}
use Rattle.mailmap_redundancy.proofs.laws.law_stable.Goals as goal

pub returns : goal.returns
returns c = record { exists = some_effective; one = one_effective; again = effective_again }
