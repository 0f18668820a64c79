use Rattle.std.proofs.Common.{◌<◌, ◌≤◌, arith, length}
use Rattle.mailmap_tables.proofs.Edited.{name_within, named_contents, named_tables, row_count_is, within}
use Rattle.mailmap_tables.proofs.Ranges.{few_starts, names_within, row_from}
use Rattle.mailmap_tables.proofs.tables.Tables.place_name.Goals as goal

pub index-requires : goal.index-requires
index-requires c =
    let t = c.self.inside in
    omega (arith, c.requires.index, row_count_is t.pool.items t.emails.items t.names.items _ c.self.view_is, t.emails.ok.0)

pub overflow_add-start : goal.overflow_add-start
overflow_add-start c =
    let t = c.self.inside in
    let h = c.self.invariant in
    let lt = within t.emails.items t.names.items h c.self.view_is c.requires.index c.index.ensures in
    let here : c.in-Ok.at < length (row_from t.emails.items t.names.items c.args.index c.index.result.now).names =
    rw c.in-Ok.is at (name_within t.emails.items t.names.items h c.self.view_is c.requires.index c.index.ensures
    c.args.place c.args.row c.requires.place) in
    omega (arith, here, names_within h.ranges c.args.index c.index.result.now lt c.index.ensures, t.names.ok.0)

pub index_mut-requires : goal.index_mut-requires
index_mut-requires c =
    let t = c.self.inside in
    let h = c.self.invariant in
    let lt = within t.emails.items t.names.items h c.self.view_is c.requires.index c.index.ensures in
    let here : c.in-Ok.at < length (row_from t.emails.items t.names.items c.args.index c.index.result.now).names =
    rw c.in-Ok.is at (name_within t.emails.items t.names.items h c.self.view_is c.requires.index c.index.ensures
    c.args.place c.args.row c.requires.place) in
    omega (arith, here, names_within h.ranges c.args.index c.index.result.now lt c.index.ensures, t.names.ok.0)

pub invariant_of-self : goal.invariant_of-self
invariant_of-self c =
    let t = c.self.inside in
    rw c.in-Ok.is at (named_tables t.emails.items t.names.items c.self.invariant c.self.view_is c.requires.index
    c.index.ensures c.args.place c.args.row c.requires.place c.requires.in_pool c.requires.ascending)

pub returns-in-Ok-clause-ok : goal.returns-in-Ok-clause-ok
returns-in-Ok-clause-ok c =
    let t = c.self.inside in
    rw c.in-Ok.is (rw c.in-Ok.is at (named_contents t.emails.items t.names.items c.self.invariant c.self.view_is c.requires.index
    c.index.ensures c.args.place c.args.row c.requires.place))

pub overflow_add-start-in-Err : goal.overflow_add-start-in-Err
overflow_add-start-in-Err c =
    let t = c.self.inside in
    let h = c.self.invariant in
    let lt = within t.emails.items t.names.items h c.self.view_is c.requires.index c.index.ensures in
    let here : c.in-Err.at ≤ length (row_from t.emails.items t.names.items c.args.index c.index.result.now).names =
    rw c.in-Err.is at (name_within t.emails.items t.names.items h c.self.view_is c.requires.index c.index.ensures
    c.args.place c.args.row c.requires.place) in
    omega (arith, here, names_within h.ranges c.args.index c.index.result.now lt c.index.ensures, t.names.ok.0)

pub insert_name-requires-clause-at : goal.insert_name-requires-clause-at
insert_name-requires-clause-at c =
    let t = c.self.inside in
    let h = c.self.invariant in
    let lt = within t.emails.items t.names.items h c.self.view_is c.requires.index c.index.ensures in
    let here : c.in-Err.at ≤ length (row_from t.emails.items t.names.items c.args.index c.index.result.now).names =
    rw c.in-Err.is at (name_within t.emails.items t.names.items h c.self.view_is c.requires.index c.index.ensures
    c.args.place c.args.row c.requires.place) in
    omega (arith, here, names_within h.ranges c.args.index c.index.result.now lt c.index.ensures)

pub insert_name-requires-clause-next : goal.insert_name-requires-clause-next
insert_name-requires-clause-next c =
    let t = c.self.inside in
    omega (arith, c.requires.index, row_count_is t.pool.items t.emails.items t.names.items _ c.self.view_is)

pub insert_name-requires-clause-few : goal.insert_name-requires-clause-few
insert_name-requires-clause-few c =
    let t = c.self.inside in few_starts c.self.invariant.ranges _ (omega (arith, t.names.ok.0))

pub invariant_of-self-in-Err : goal.invariant_of-self-in-Err
invariant_of-self-in-Err c =
    let t = c.self.inside in
    let ok = c.in_ok-insert_name-in-Err.ensures in
    rw (ok.names, ok.emails) (rw c.in-Err.is at (named_tables t.emails.items t.names.items c.self.invariant c.self.view_is c.requires.index
    c.index.ensures c.args.place c.args.row c.requires.place c.requires.in_pool c.requires.ascending))

pub returns-in_ok-insert_name-in-Err-clause-ok : goal.returns-in_ok-insert_name-in-Err-clause-ok
returns-in_ok-insert_name-in-Err-clause-ok c =
    let t = c.self.inside in
    let ok = c.in_ok-insert_name-in-Err.ensures in
    rw (c.in-Err.is, ok.names, ok.emails) (rw c.in-Err.is at (named_contents t.emails.items t.names.items c.self.invariant c.self.view_is c.requires.index
    c.index.ensures c.args.place c.args.row c.requires.place))
