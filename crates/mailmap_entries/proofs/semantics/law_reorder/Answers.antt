use Rattle.mailmap_entries.proofs.Alike.{same_normals}
use Rattle.mailmap_entries.proofs.Reorder.{alike_reordered}
use Rattle.mailmap_entries.proofs.semantics.law_reorder.Goals as goal

pub returns : goal.returns
returns c h g n same = same_normals h g n (alike_reordered h g same)
