use Rattle.std.proofs.Common.{◌≡◌, Some, option_map, sym, ◌∙◌, arith}
use Rattle.mailmap_entries.specs.Semantics.{answer_of, fields_with_spelling}
use Rattle.mailmap_tables.specs.Groups.{listing}
use Rattle.mailmap_tables.specs.Pool.{fields_of, spelled}
use Rattle.mailmap_tables.specs.RowTexts.{old_span}
use Rattle.mailmap_snapshot.proofs.Resolved.{scan_at_none, no_names, scan_at_name, scan_at_email}
use Rattle.mailmap_snapshot.proofs.snapshot.lookup.look_up.Goals.{in-Ok-find_name_counted, in-Err}
use Rattle.mailmap_snapshot.proofs.snapshot.lookup.look_up.Goals as goal

pub returns-in_default-clause-fields : goal.returns-in_default-clause-fields
returns-in_default-clause-fields c = sym (scan_at_none c.args.tables.now.groups c.args.email.now c.in_default.field-0 c.in_default.ensures.within c.in_default.ensures.missing c.args.name.now)

pub returns-in_default-clause-at_least : goal.returns-in_default-clause-at_least
returns-in_default-clause-at_least c =
    let none = no_names c.args.tables.now.groups c.args.email.now c.in_default.field-0 c.in_default.ensures.within c.in_default.ensures.missing in
    omega (arith, none, c.in_default.ensures.at_least)

pub returns-clause-fields : goal.returns-clause-fields
returns-clause-fields c =
    let pool = c.args.tables.now.pool in
    let email = c.args.email.now in
    let given = c.fields-new_name.ensures in
    let scanned : answer_of (listing c.args.tables.now.groups) c.args.name.now email ≡ fields_with_spelling email (fields_of pool c.match-find_name_counted.texts) (Some (spelled pool (old_span c.email.result.0))) =
    elim c.match-find_name_counted.branch [
      | in-Ok-find_name_counted w ↦ rw w.texts-is (scan_at_name c.args.tables.now.groups c.requires.groups email c.in-Ok.index c.in-Ok.ensures.found
          pool c.email.result.0 c.email.result.1.now c.email.ensures.group c.args.name.now w.in-Ok-find_name_counted.i _ c.email.ensures.in_pool.names_lie w.in-Ok-find_name_counted.ensures.within w.in-Ok-find_name_counted.ensures.found)
      | in-Err w ↦ rw w.texts-is (scan_at_email c.args.tables.now.groups c.requires.groups email c.in-Ok.index c.in-Ok.ensures.found
          pool c.email.result.0 c.email.result.1.now c.email.ensures.group c.args.name.now w.in-Err.field-0 w.in-Err.ensures.within w.in-Err.ensures.missing)
    ] in
    c.answer.ensures.fields
    ∙ (λ k. fields_with_spelling email (record { name = option_map (spelled pool) (given.new_name k); email = option_map (spelled pool) (given.new_email k) }) (Some (spelled pool (c.old.ensures k))))
    ∙ sym scanned
