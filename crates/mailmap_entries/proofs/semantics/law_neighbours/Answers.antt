use Rattle.mailmap_entries.proofs.Alike.{same_normals}
use Rattle.mailmap_entries.proofs.Building.{alike_neighbours}
use Rattle.mailmap_entries.proofs.semantics.law_neighbours.Goals as goal

pub returns : goal.returns
returns c a b n x y differ = same_normals _ _ n (alike_neighbours a b x y differ)
