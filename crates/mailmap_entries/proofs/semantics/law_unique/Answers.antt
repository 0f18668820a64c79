use Rattle.mailmap_entries.proofs.Unique.{normal_unique}
use Rattle.mailmap_entries.proofs.semantics.law_unique.Goals as goal

pub returns : goal.returns
returns c = normal_unique
