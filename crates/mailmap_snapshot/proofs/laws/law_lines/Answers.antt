use Rattle.mailmap_snapshot.proofs.ContactLines.{are_lines, contact_lines_are}
use Rattle.mailmap_snapshot.proofs.laws.law_lines.Goals as goal

pub returns : goal.returns
returns c = λ s ls. (are_lines s ls, contact_lines_are s ls)
