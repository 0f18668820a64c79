-- Borrowing the content of an open handle.
use Rattle.std.specs.Borrow.{Lends, MutBor, Fml}
use Rattle.gix_mailmap_c.specs.declared.held.Content as declared
use Rattle.gix_mailmap_c.specs.contracts.held.Content as Content
use Rattle.gix_mailmap_c.specs.declared.held.Handle.{Handle}
use Rattle.gix_mailmap_c.specs.contracts.held.Handle.{the_row}

abbrev pub with_content : Handle → declared.Content → Handle
with_content h content = record h { content = content }

-- when the borrow ends, the handle has the content that r has then
abbrev pub LendsContent : MutBor Handle → MutBor declared.Content → Fml
LendsContent h r = Lends the_row Content.the_row h r (with_content h.now)
