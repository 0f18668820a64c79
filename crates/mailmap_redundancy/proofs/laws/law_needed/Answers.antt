use Rattle.std.proofs.lemmas.List.Elements.{recursion_from_All}
use Rattle.mailmap_redundancy.specs.Origins.{origins, needed}
use Rattle.mailmap_redundancy.proofs.Giving.{needed_answer}
use Rattle.mailmap_redundancy.proofs.laws.law_needed.Goals as goal

pub returns : goal.returns
returns c = λ is_left xs kept name email s left. needed_answer is_left xs kept name email s (recursion_from_All _ (needed (origins kept name email)) left)
