use Rattle.std.proofs.Common.{sym}
use Rattle.mailmap_tables.proofs.Edited.{row_count_is}
use Rattle.mailmap_tables.proofs.view.View.email_count.Goals as goal

pub returns : goal.returns
returns c =
    let t = c.self.inside in sym (row_count_is t.pool.now t.emails.now t.names.now _ c.self.view_is)
