use Rattle.mailmap_entries.proofs.Normal.{normal_self}
use Rattle.mailmap_entries.proofs.semantics.law_self.Goals as goal

pub returns : goal.returns
returns c = normal_self
