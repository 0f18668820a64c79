use Rattle.mailmap_snapshot.proofs.Dividers.{parted_same}
use Rattle.mailmap_snapshot.proofs.laws.law_parts.Goals as goal

pub returns : goal.returns
returns c = parted_same
