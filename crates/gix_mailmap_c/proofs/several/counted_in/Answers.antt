use Rattle.std.proofs.Common.{[], subst}
use Rattle.mailmap_contacts.specs.Counts.{HasCounted}
use Rattle.mailmap_findings.specs.Positions.{whole_lines}
use Rattle.mailmap_findings.proofs.WholeLines.{lines-whole}
use Rattle.gix_mailmap_c.proofs.several.counted_in.Goals as goal

pub returns : goal.returns
returns c =
    let text = c.args.contacts.now in
    c.into_contacts.ensures (whole_lines text) (subst (λ l. HasCounted l c.add_lines.new.self) (lines-whole text) (c.in_ok-add_lines.ensures [] c.in_ok-counter.ensures))
