use Rattle.std.proofs.Common.{[]}
use Rattle.bstr.specs.Text.{lines_of}
use Rattle.caller_promises.proofs.suggesting.count.Goals as goal

pub returns : goal.returns
returns c = c.into_contacts.ensures (lines_of c.args.contacts.now) (c.in_ok-add_lines.ensures [] c.in_ok-counter.ensures)
