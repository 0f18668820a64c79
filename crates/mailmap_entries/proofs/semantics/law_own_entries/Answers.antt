use Rattle.mailmap_entries.proofs.Building.{normal_repeated}
use Rattle.mailmap_entries.proofs.semantics.law_own_entries.Goals as goal

pub returns : goal.returns
returns c = normal_repeated
