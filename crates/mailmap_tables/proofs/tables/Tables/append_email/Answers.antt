use Rattle.std.proofs.Common.{ap, sym}
use Rattle.mailmap_entries.specs.Entries.{mapping_of}
use Rattle.mailmap_tables.specs.Groups.{Contents}
use Rattle.mailmap_tables.proofs.Pooled.{grown_through, texts_lie_on}
use Rattle.mailmap_tables.proofs.PutEntry.{entry_paired}
use Rattle.mailmap_tables.proofs.RowsOfPool.{name_in_pool, named_made, unnamed_made}
use Rattle.mailmap_tables.proofs.tables.Tables.append_email.Goals as goal

pub returns-in_err-name-in-Some-clause-grown : goal.returns-in_err-name-in-Some-clause-grown
returns-in_err-name-in-Some-clause-grown c = grown_through _ _ _ c.append_row.ensures.grown c.append_entry-in-Some.ensures.grown

pub returns-in_ok-texts-in-None-clause-in_pool : goal.returns-in_ok-texts-in-None-clause-in_pool
returns-in_ok-texts-in-None-clause-in_pool c = record {
  email_lies = c.in_ok-texts-in-None.ensures.row.lies;
  names_lie = tt;
}

pub returns-in_ok-texts-in-None-clause-row : goal.returns-in_ok-texts-in-None-clause-row
returns-in_ok-texts-in-None-clause-row c =
    rw (← c.in-None.ensures) (unnamed_made _ _ (mapping_of c.args.entry.now) _ c.in_ok-texts-in-None.ensures.row)

pub returns-in_ok-name-in-Some-clause-grown : goal.returns-in_ok-name-in-Some-clause-grown
returns-in_ok-name-in-Some-clause-grown c = grown_through _ _ _ c.append_row.ensures.grown c.append_entry-in-Some.ensures.grown

pub returns-in_ok-name-in-Some-clause-in_pool : goal.returns-in_ok-name-in-Some-clause-in_pool
returns-in_ok-name-in-Some-clause-in_pool c =
    let more = c.append_entry-in-Some.ensures.grown in
    record {
      email_lies = texts_lie_on _ _ (more.0, ap (λ (v : Contents). v.pool) more.1) _ c.in_ok-texts-in-Some.ensures.row.lies;
      names_lie = (
        name_in_pool _ _ (mapping_of c.args.entry.now) _ c.in_ok-name-in-Some.ensures.row
            (entry_paired c.args.entry.now) _ (sym c.in-Some.ensures),
        tt,
      );
    }

pub returns-in_ok-name-in-Some-clause-row : goal.returns-in_ok-name-in-Some-clause-row
returns-in_ok-name-in-Some-clause-row c =
    let more = c.append_entry-in-Some.ensures.grown in
    rw (← c.in-Some.ensures) (named_made _ _ (mapping_of c.args.entry.now) _ c.in_ok-name-in-Some.ensures.row _ _ _
    c.in_ok-texts-in-Some.ensures.row (more.0, ap (λ (v : Contents). v.pool) more.1))
