use Rattle.mailmap_findings.specs.Positions.{whole_lines}
use Rattle.gix_mailmap_c.proofs.several.suggested.Goals as goal

pub returns : goal.returns
returns c =
    let made = c.suggested_by.ensures (whole_lines c.args.contacts.now) c.in_ok-counted.ensures in
    rw (c.as_slice.ensures.value, c.in_ok-buffers.ensures) at made
