use Rattle.std.proofs.Common.{◌≡◌, ◌∙◌, ap, arith, length}
use Rattle.std.specs.List.{insert}
use Rattle.std.proofs.lemmas.List.Edits.{length-insert}
use Rattle.mailmap_tables.specs.Rows.{names_start}
use Rattle.mailmap_tables.proofs.Edited.{inserted_contents, inserted_tables, le_emails, row_count_is}
use Rattle.mailmap_tables.proofs.Ranges.{few_inserted, starts_most}
use Rattle.mailmap_tables.proofs.tables.Tables.insert_email.Goals as goal

pub insert-requires-2 : goal.insert-requires-2
insert-requires-2 c =
    let t = c.self.inside in
    omega (
      arith,
      c.requires.index,
      row_count_is t.pool.items t.emails.items t.names.items _ c.self.view_is,
      t.emails.ok.0,
      c.in_ok-reserve.ensures.len,
    )

pub insert_name-requires-clause-at : goal.insert_name-requires-clause-at
insert_name-requires-clause-at c =
    let t = c.self.inside in
    let le = le_emails t.emails.items t.names.items c.self.invariant c.self.view_is c.requires.index c.args.texts c.args.name in
    let start : c.names_start-names_start.result ≡ names_start t.emails.items t.names.items c.args.index =
    rw (c.deref.ensures.value, c.in_ok-reserve.ensures.items, c.deref-2.ensures.value, c.in_ok-reserve-2.ensures.items)
    at c.names_start-names_start.ensures in
    omega (arith, start, starts_most c.self.invariant.ranges c.args.index le, ap length c.in_ok-reserve-2.ensures.items)

pub insert_name-requires-clause-next : goal.insert_name-requires-clause-next
insert_name-requires-clause-next c =
    let t = c.self.inside in
    let le = le_emails t.emails.items t.names.items c.self.invariant c.self.view_is c.requires.index c.args.texts c.args.name in
    let es = c.reserve.new.self.items in
    omega (
      arith,
      ap length c.in_ok-insert-2.ensures.items,
      length-insert es c.args.index
          (record { texts = c.args.texts; names_start = c.names_start-names_start.result }) (rw c.in_ok-reserve.ensures.items le),
    )

pub insert_name-requires-clause-few : goal.insert_name-requires-clause-few
insert_name-requires-clause-few c =
    let t = c.self.inside in
    let le = le_emails t.emails.items t.names.items c.self.invariant c.self.view_is c.requires.index c.args.texts c.args.name in
    let start : c.names_start-names_start.result ≡ names_start t.emails.items t.names.items c.args.index =
    rw (c.deref.ensures.value, c.in_ok-reserve.ensures.items, c.deref-2.ensures.value, c.in_ok-reserve-2.ensures.items)
    at c.names_start-names_start.ensures in
    rw (c.in_ok-insert-2.ensures.items, c.in_ok-reserve.ensures.items, start)
    (few_inserted c.self.invariant.ranges _ (omega (arith, t.names.ok.0)) c.args.index le c.args.texts)

pub invariant_of-self-in_default : goal.invariant_of-self-in_default
invariant_of-self-in_default c =
    let t = c.self.inside in
    let start : c.names_start-names_start.result ≡ names_start t.emails.items t.names.items c.args.index =
    rw (c.deref.ensures.value, c.in_ok-reserve.ensures.items, c.deref-2.ensures.value, c.in_ok-reserve-2.ensures.items)
    at c.names_start-names_start.ensures in
    rw (c.in_ok-insert-2.ensures.items, c.in_ok-reserve.ensures.items, c.in_ok-reserve-2.ensures.items, start)
    (rw c.in_default.is at (inserted_tables t.emails.items t.names.items c.self.invariant c.self.view_is c.requires.index
    c.args.texts c.args.name c.requires.in_pool c.insert.new.self.items
    (c.in_ok-insert.ensures.items ∙ ap (insert t.prefixes.items c.args.index) c.requires.prefix)))

pub returns-in_default-clause-ok : goal.returns-in_default-clause-ok
returns-in_default-clause-ok c =
    let t = c.self.inside in
    let start : c.names_start-names_start.result ≡ names_start t.emails.items t.names.items c.args.index =
    rw (c.deref.ensures.value, c.in_ok-reserve.ensures.items, c.deref-2.ensures.value, c.in_ok-reserve-2.ensures.items)
    at c.names_start-names_start.ensures in
    rw (c.in_default.is, c.in_ok-insert-2.ensures.items, c.in_ok-reserve.ensures.items, c.in_ok-reserve-2.ensures.items, start)
    (rw c.in_default.is at (inserted_contents t.emails.items t.names.items c.self.invariant c.self.view_is c.requires.index
    c.args.texts c.args.name))

pub invariant_of-self-2 : goal.invariant_of-self-2
invariant_of-self-2 c =
    let t = c.self.inside in
    let ok = c.in_ok-insert_name.ensures in
    let start : c.names_start-names_start.result ≡ names_start t.emails.items t.names.items c.args.index =
    rw (c.deref.ensures.value, c.in_ok-reserve.ensures.items, c.deref-2.ensures.value, c.in_ok-reserve-2.ensures.items)
    at c.names_start-names_start.ensures in
    rw (
      ok.emails,
      ok.names,
      c.in_ok-insert-2.ensures.items,
      c.in_ok-reserve.ensures.items,
      c.in_ok-reserve-2.ensures.items,
      start,
    )
    (rw c.in-Some.is at (inserted_tables t.emails.items t.names.items c.self.invariant c.self.view_is c.requires.index
    c.args.texts c.args.name c.requires.in_pool c.insert.new.self.items
    (c.in_ok-insert.ensures.items ∙ ap (insert t.prefixes.items c.args.index) c.requires.prefix)))

pub returns-clause-ok : goal.returns-clause-ok
returns-clause-ok c =
    let t = c.self.inside in
    let ok = c.in_ok-insert_name.ensures in
    let start : c.names_start-names_start.result ≡ names_start t.emails.items t.names.items c.args.index =
    rw (c.deref.ensures.value, c.in_ok-reserve.ensures.items, c.deref-2.ensures.value, c.in_ok-reserve-2.ensures.items)
    at c.names_start-names_start.ensures in
    rw (
      c.in-Some.is,
      ok.emails,
      ok.names,
      c.in_ok-insert-2.ensures.items,
      c.in_ok-reserve.ensures.items,
      c.in_ok-reserve-2.ensures.items,
      start,
    )
    (rw c.in-Some.is at (inserted_contents t.emails.items t.names.items c.self.invariant c.self.view_is c.requires.index
    c.args.texts c.args.name))
