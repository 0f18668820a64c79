use Rattle.std.proofs.Common.{sym, ◌∙◌, ap, arith}
use Rattle.mailmap_tables.specs.Groups.{Contents, name_total}
use Rattle.mailmap_tables.proofs.Edited.{listing_most, row_count_is}
use Rattle.mailmap_tables.proofs.Ranges.{names_counted}
use Rattle.mailmap_tables.proofs.view.View.row_count.Goals as goal

pub returns-clause-rows : goal.returns-clause-rows
returns-clause-rows c =
    let t = c.self.inside in
    let names = sym (names_counted t.pool.now c.self.invariant.ranges)
    ∙ ap (λ (v : Contents). name_total v.groups) c.self.view_is in
    omega (arith, names, row_count_is t.pool.now t.emails.now t.names.now _ c.self.view_is)

pub returns-clause-listing : goal.returns-clause-listing
returns-clause-listing c = omega (arith, returns-clause-rows c, listing_most c.args.self.now.groups)
