use Rattle.std.proofs.Common.{arith}
use Rattle.mailmap_tables.proofs.Edited.{row_count_is, texts_contents, texts_tables}
use Rattle.mailmap_tables.proofs.tables.Tables.replace_texts.Goals as goal

pub index_mut-requires : goal.index_mut-requires
index_mut-requires c =
    let t = c.self.inside in
    omega (arith, c.requires.index, row_count_is t.pool.items t.emails.items t.names.items _ c.self.view_is, t.emails.ok.0)

pub invariant_of-self : goal.invariant_of-self
invariant_of-self c =
    let t = c.self.inside in
    texts_tables t.emails.items t.names.items c.self.invariant c.self.view_is c.requires.index c.index_mut.ensures.value
    c.args.texts c.requires.in_pool c.requires.same

pub returns : goal.returns
returns c =
    let t = c.self.inside in
    texts_contents t.emails.items t.names.items c.self.invariant c.self.view_is c.requires.index c.index_mut.ensures.value
    c.args.texts c.requires.same
