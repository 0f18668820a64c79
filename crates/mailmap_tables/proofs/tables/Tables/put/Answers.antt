use Rattle.mailmap_entries.specs.Entries.{mapping_of}
use Rattle.mailmap_tables.specs.Put.{with_old_email}
use Rattle.mailmap_tables.proofs.PutEntry.{entry_paired, put_missing}
use Rattle.mailmap_tables.proofs.tables.Tables.put.Goals as goal

pub returns-in_ok-insert_email-in-Err-clause-ok : goal.returns-in_ok-insert_email-in-Err-clause-ok
returns-in_ok-insert_email-in-Err-clause-ok c =
    let m = with_old_email c.args.email.text.now (mapping_of c.args.entry.now) in
    let place = rw (c.view.ensures, c.in-Err.is) at c.place_of_email.ensures in
    rw (c.in_ok-insert_email-in-Err.ensures.ok, c.in_ok-texts-in-Err.ensures.row, c.append_email.ensures.grown.1)
    (put_missing m c.requires.groups c.in-Err.index place.0 place.1 c.requires.accepted (entry_paired c.args.entry.now))
