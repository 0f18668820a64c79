use Rattle.std.proofs.Common.{arith, ◌∙◌}
use Rattle.std.proofs.lemmas.Option.{slice_get-map}
use Rattle.mailmap_tables.proofs.Edited.{group_seen, is_row_seen, prefix_seen, row_count_is}
use Rattle.mailmap_tables.proofs.view.View.email_text.Goals as goal

pub at-row-requires : goal.at-row-requires
at-row-requires c =
    let t = c.self.inside in
    omega (arith, c.requires, row_count_is t.pool.now t.emails.now t.names.now _ c.self.view_is)

pub text-requires : goal.text-requires
text-requires c =
    let t = c.self.inside in
    rw c.old.ensures
    (is_row_seen t.emails.now t.names.now c.self.invariant c.self.view_is c.requires c.at-row.ensures).in_pool.email_lies.old

pub with_prefix-requires : goal.with_prefix-requires
with_prefix-requires c =
    let t = c.self.inside in
    rw (c.text.ensures, c.old.ensures) (c.at.ensures
    ∙ prefix_seen t.emails.now t.names.now c.self.invariant c.self.view_is c.requires c.at-row.ensures c.at.result.now)

pub returns : goal.returns
returns c =
    let t = c.self.inside in
    let is = group_seen t.emails.now t.names.now c.self.invariant c.self.view_is c.requires c.at-row.ensures in
    grind (arith, slice_get-map)
