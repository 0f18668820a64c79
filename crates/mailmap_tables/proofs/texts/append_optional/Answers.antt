use Rattle.mailmap_tables.proofs.RowsOfPool.{none_stored}
use Rattle.mailmap_tables.proofs.texts.append_optional.Goals as goal

pub returns-in-None-clause-stored : goal.returns-in-None-clause-stored
returns-in-None-clause-stored c = rw c.in-None.is (none_stored c.args.pool.now.items)
