use Rattle.std.proofs.Common.{[], None}
use Rattle.gix_mailmap.specs.Entries.{mapping}
use Rattle.gix_mailmap.specs.Writing.{IsFirstUnwritable}
use Rattle.caller_promises.proofs.rebuilding.written.Goals as goal

pub returns-clause-unwritable : goal.returns-clause-unwritable
returns-clause-unwritable c = λ place is buffers normal.
    let listed = c.args.snapshot.now in
    let first : IsFirstUnwritable listed place = rw is at c.write.ensures.err in
    let nothing = mapping None None None [] in
    first.unwritable nothing (c.law_text.ensures.builds buffers listed normal place nothing first.within)
