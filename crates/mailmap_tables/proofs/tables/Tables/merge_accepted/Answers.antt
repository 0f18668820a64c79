use Rattle.std.proofs.Common.{◌∙◌, sym}
use Rattle.mailmap_tables.proofs.Merged.{one_item}
use Rattle.mailmap_tables.proofs.tables.Tables.merge_accepted.Goals as goal

pub put-requires-clause-accepted : goal.put-requires-clause-accepted
put-requires-clause-accepted c =
    let one = sym c.as_slice.ensures.value ∙ one_item c.as_slice.result.now c.entry-item.result c.in-len1.len_at_least
    c.in-len1.len_below c.entry-item.is in
    (rw one at c.requires.accepted).0

pub returns-in-len1-clause-ok : goal.returns-in-len1-clause-ok
returns-in-len1-clause-ok c =
    let one = sym c.as_slice.ensures.value ∙ one_item c.as_slice.result.now c.entry-item.result c.in-len1.len_at_least
    c.in-len1.len_below c.entry-item.is in
    rw (one, ← c.old_email.ensures, ← c.new.ensures) c.in_ok-put.ensures.ok.put
