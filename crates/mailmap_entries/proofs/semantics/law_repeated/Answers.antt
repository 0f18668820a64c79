use Rattle.mailmap_entries.proofs.Alike.{same_normals, alike_back}
use Rattle.mailmap_entries.proofs.Building.{alike_repeated}
use Rattle.mailmap_entries.proofs.semantics.law_repeated.Goals as goal

pub returns : goal.returns
returns c h n = same_normals h _ n (alike_back _ h (alike_repeated h))
