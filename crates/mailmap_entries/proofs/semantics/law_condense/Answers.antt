use Rattle.mailmap_entries.proofs.Alike.{same_normals}
use Rattle.mailmap_entries.proofs.Building.{alike_condensed}
use Rattle.mailmap_entries.proofs.semantics.law_condense.Goals as goal

pub returns : goal.returns
returns c a b d m n is = same_normals _ _ n (alike_condensed a b d m is)
