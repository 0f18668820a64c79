use Rattle.std.proofs.Common.{arith}
use Rattle.mailmap_tables.proofs.RowsOfPool.{email_starts}
use Rattle.mailmap_tables.proofs.view.View.fields.Goals as goal

pub overflow_add-email_start : goal.overflow_add-email_start
overflow_add-email_start c = omega (
  arith,
  rw (← c.self.view_is, ← c.byte_count.ensures) at (email_starts _ c.args.texts c.requires),
)
