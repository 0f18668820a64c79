-- Both clauses are lemmas of the file Times.
use Rattle.mailmap_snapshot.proofs.Times.{spells_unique, time_of_unique}
use Rattle.mailmap_snapshot.proofs.laws.law_time.Goals as goal

pub returns-clause-spelled : goal.returns-clause-spelled
returns-clause-spelled c = spells_unique

pub returns-clause-time_of : goal.returns-clause-time_of
returns-clause-time_of c = time_of_unique
