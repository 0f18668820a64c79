use Rattle.mailmap_tables.proofs.Pooled.{contents_on, rows_on}
use Rattle.mailmap_tables.proofs.tables.Tables.append_row.Goals as goal

pub append_row-requires-clause-new_name : goal.append_row-requires-clause-new_name
append_row-requires-clause-new_name c = rw (← c.self.view_is) at c.requires.new_name

pub append_row-requires-clause-new_email : goal.append_row-requires-clause-new_email
append_row-requires-clause-new_email c = rw (← c.self.view_is) at c.requires.new_email

pub invariant_of-self : goal.invariant_of-self
invariant_of-self c = record {
  ranges = c.self.invariant.ranges;
  rows = rows_on _ _ c.append_row.ensures.grown _ c.self.invariant.rows;
}

pub returns-clause-grown : goal.returns-clause-grown
returns-clause-grown c =
    let to = c.append_row.ensures.grown in (to.0, contents_on _ _ to _ c.self.invariant.rows _ c.self.view_is)
