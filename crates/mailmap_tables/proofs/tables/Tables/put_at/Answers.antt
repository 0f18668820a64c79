use Rattle.std.proofs.Common.{◌≡◌, Some, arith, sym, ◌∙◌}
use Rattle.std.specs.List.{slice_get}
use Rattle.std.proofs.lemmas.Option.{same_Some}
use Rattle.std.proofs.lemmas.Result.{on_ok_weaker}
use Rattle.mailmap_entries.specs.Entries.{mapping_of}
use Rattle.mailmap_entries.specs.Semantics.{new_fields}
use Rattle.mailmap_tables.specs.Pool.{fields_of, group_of, stored_name}
use Rattle.mailmap_tables.specs.Put.{name_given, spelled_name, with_old_email}
use Rattle.mailmap_tables.proofs.PutEntry.{fields_put, given_or, name_put, entry_paired, names_ascend, names_ascend_with}
use Rattle.mailmap_tables.proofs.RowsOfPool.{name_in_pool, name_of_row}
use Rattle.mailmap_tables.proofs.tables.Tables.put_at.Goals as goal

pub returns-in_default-clause-ok : goal.returns-in_default-clause-ok
returns-in_default-clause-ok c =
    let a = c.args.self.now in
    let m = with_old_email c.args.email.now (mapping_of c.args.entry.now) in
    let i = c.args.index in
    let g = group_of a.pool c.email.result.0 c.email.result.1.now in
    let read : slice_get a.groups i ≡ Some g = rw c.view-view.ensures at c.email.ensures.group in
    let name = c.given_or.ensures.text a.pool in
    let email = c.given_or-in_default.ensures.text a.pool in
    let spans = c.fields-new_name.ensures in
    let given : fields_of c.append_row.new.self.pool c.in_ok-row.row ≡ given_or (new_fields m) g.unnamed =
    cc (c.in_ok-row.ensures.row.fields_are, c.new_name.ensures, c.new_email.ensures, spans.new_name, spans.new_email) in
    rw (c.replace_texts.ensures g (rw c.append_row.ensures.grown.1 read), given, c.append_row.ensures.grown.1)
    (fields_put m c.requires.groups i c.requires.found g read c.requires.accepted (grind arith))

pub place_of_name-place-requires-clause-ascending : goal.place_of_name-place-requires-clause-ascending
place_of_name-place-requires-clause-ascending c =
    let m = with_old_email c.args.email.now (mapping_of c.args.entry.now) in
    rw c.view-view.ensures (names_ascend m c.requires.groups c.args.index c.requires.found _
    (rw c.view-view.ensures at c.email.ensures.group))

pub append_entry-requires : goal.append_entry-requires
append_entry-requires c = rw c.view-view.ensures at (c.name_at-old_name.ensures.within _ c.email.ensures.in_pool.names_lie)

pub place_name-requires-clause-ascending : goal.place_name-requires-clause-ascending
place_name-requires-clause-ascending c = λ h at.
    let a = c.args.self.now in
    let m = with_old_email c.args.email.now (mapping_of c.args.entry.now) in
    let name = c.in-Some.old_name.now in
    let place = rw c.view-view.ensures at c.place_of_name-place.ensures.place in
    let g = group_of a.pool c.email.result.0 c.email.result.1.now in
    let read : slice_get a.groups c.args.index ≡ Some g = rw c.view-view.ensures at c.email.ensures.group in
    let row : stored_name c.append_entry.new.self.pool c.in_ok-row-2.row
    ≡ name_given (spelled_name g.names c.place_of_name-place.result name) m =
    rw c.name_at-old_name.ensures.text at (name_of_row _ _ (new_fields m) c.in_ok-row-2.row c.in_ok-row-2.ensures.row) in
    let here : slice_get a.groups c.args.index ≡ Some h = rw c.append_entry.ensures.grown.1 at at in
    let same : h ≡ g = same_Some _ _ (sym here ∙ read) in
    rw (same, row) (names_ascend_with m c.requires.groups c.args.index c.requires.found g read name
    c.place_of_name-place.result place)

pub returns-clause-ok : goal.returns-clause-ok
returns-clause-ok c =
    let a = c.args.self.now in
    let m = with_old_email c.args.email.now (mapping_of c.args.entry.now) in
    let name = c.in-Some.old_name.now in
    let place = rw c.view-view.ensures at c.place_of_name-place.ensures.place in
    let g = group_of a.pool c.email.result.0 c.email.result.1.now in
    let read : slice_get a.groups c.args.index ≡ Some g = rw c.view-view.ensures at c.email.ensures.group in
    let row : stored_name c.append_entry.new.self.pool c.in_ok-row-2.row
    ≡ name_given (spelled_name g.names c.place_of_name-place.result name) m =
    rw c.name_at-old_name.ensures.text at (name_of_row _ _ (new_fields m) c.in_ok-row-2.row c.in_ok-row-2.ensures.row) in
    let named = sym c.in-Some.ensures in
    on_ok_weaker c.place_name.result (λ d. rw (d g (rw c.append_entry.ensures.grown.1 read), row, c.append_entry.ensures.grown.1)
    (name_put m c.requires.groups c.args.index c.requires.found g read name named
    (entry_paired c.args.entry.now) c.place_of_name-place.result place)) c.place_name.ensures.ok

pub append_row-requires-clause-new_name : goal.append_row-requires-clause-new_name
append_row-requires-clause-new_name c = c.given_or.ensures.within _ (rw c.fields-new_name.ensures.new_name
    (rw c.view-view.ensures at c.email.ensures.in_pool.email_lies.new_name))

pub append_row-requires-clause-new_email : goal.append_row-requires-clause-new_email
append_row-requires-clause-new_email c = c.given_or-in_default.ensures.within _ (rw c.fields-new_name.ensures.new_email
    (rw c.view-view.ensures at c.email.ensures.in_pool.email_lies.new_email))

pub replace_texts-requires-clause-in_pool : goal.replace_texts-requires-clause-in_pool
replace_texts-requires-clause-in_pool c = c.in_ok-row.ensures.row.lies

pub place_of_name-place-requires-clause-in_pool : goal.place_of_name-place-requires-clause-in_pool
place_of_name-place-requires-clause-in_pool c = c.email.ensures.in_pool.names_lie

pub place_name-requires-clause-in_pool : goal.place_name-requires-clause-in_pool
place_name-requires-clause-in_pool c = name_in_pool _ _ (mapping_of c.args.entry.now) _ c.in_ok-row-2.ensures.row
    (entry_paired c.args.entry.now) _ (sym c.in-Some.ensures)
