use Rattle.std.proofs.lemmas.Grind.{common_steps}
use Rattle.mailmap_entries.proofs.Parts.{or-None}
use Rattle.std.proofs.Common.{◌≡◌, option_map, arith}
use Rattle.mailmap_entries.specs.Entries.{mapping_of}
use Rattle.mailmap_entries.specs.Semantics.{Fields, new_fields}
use Rattle.mailmap_entries.proofs.Results.{if_ok_map}
use Rattle.mailmap_tables.specs.Pool.{HasTexts, text_of}
use Rattle.mailmap_tables.proofs.tables.Tables.append_entry.Goals as goal

pub returns-clause-row : goal.returns-clause-row
returns-clause-row c =
    let pool = c.args.self.now.pool in
    let old = text_of pool c.args.old in
    let given : Fields = record {
      name = option_map (text_of pool) c.given_or.result;
      email = option_map (text_of pool) c.given_or-2.result;
    } in
    let name = c.given_or.ensures.text pool in
    let email = c.given_or-2.ensures.text pool in
    let is : given ≡ new_fields (mapping_of c.args.entry.now) =
    grind (arith, common_steps, name, email, c.new_name.ensures, c.new_email.ensures, or-None) in
    if_ok_map c.append_row.result (HasTexts c.append_row.new.self.pool old given) _ (λ t row. rw is at row)
    c.append_row.ensures.row
