use Rattle.mailmap_entries.proofs.Exists.{normal, is_normal}
use Rattle.mailmap_entries.proofs.semantics.law_exists.Goals as goal

pub returns : goal.returns
returns c h = (normal h, is_normal h)
