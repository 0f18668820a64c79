use Rattle.std.proofs.Common.{◌+◌, arith}
use Rattle.mailmap_tables.proofs.Edited.{group_seen, is_row_seen, row_count_is, within}
use Rattle.mailmap_tables.proofs.Ranges.{starts_most, starts_up}
use Rattle.mailmap_tables.proofs.view.View.email.Goals as goal

pub at-row-requires : goal.at-row-requires
at-row-requires c =
    let t = c.self.inside in
    omega (arith, c.requires, row_count_is t.pool.now t.emails.now t.names.now _ c.self.view_is)

pub part-requires-clause-up : goal.part-requires-clause-up
part-requires-clause-up c =
    let t = c.self.inside in
    let lt = within t.emails.now t.names.now c.self.invariant c.self.view_is c.requires c.at-row.ensures in
    rw c.names_start-end.ensures (starts_up c.self.invariant.ranges c.args.index c.at-row.result.now lt c.at-row.ensures)

pub part-requires-clause-within : goal.part-requires-clause-within
part-requires-clause-within c =
    let t = c.self.inside in
    let lt = within t.emails.now t.names.now c.self.invariant c.self.view_is c.requires c.at-row.ensures in
    rw c.names_start-end.ensures (starts_most c.self.invariant.ranges (c.args.index + 1) (omega (arith, lt)))

pub returns-clause-group : goal.returns-clause-group
returns-clause-group c =
    let t = c.self.inside in
    rw (c.part.ensures, c.names_start-end.ensures)
    (group_seen t.emails.now t.names.now c.self.invariant c.self.view_is c.requires c.at-row.ensures)

pub returns-clause-in_pool : goal.returns-clause-in_pool
returns-clause-in_pool c =
    let t = c.self.inside in
    rw (c.part.ensures, c.names_start-end.ensures)
    (is_row_seen t.emails.now t.names.now c.self.invariant c.self.view_is c.requires c.at-row.ensures).in_pool
