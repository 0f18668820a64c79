use Rattle.std.proofs.Common.{◌∙◌}
use Rattle.mailmap_tables.proofs.RowsOfPool.{extends_through, row_stored, some_within_on, texts_on}
use Rattle.mailmap_tables.proofs.texts.append_row.Goals as goal

pub returns-in_err-new_name_len-clause-grown : goal.returns-in_err-new_name_len-clause-grown
returns-in_err-new_name_len-clause-grown c = extends_through _ _ _ c.append.ensures.grown c.append_optional.ensures.grown

pub returns-in_err-new_email_len-clause-grown : goal.returns-in_err-new_email_len-clause-grown
returns-in_err-new_email_len-clause-grown c = extends_through _ _ _
    (extends_through _ _ _ c.append.ensures.grown c.append_optional.ensures.grown) c.append_optional-2.ensures.grown

pub returns-clause-grown : goal.returns-clause-grown
returns-clause-grown c = extends_through _ _ _
    (extends_through _ _ _ c.append.ensures.grown c.append_optional.ensures.grown) c.append_optional-2.ensures.grown

pub append_optional-requires : goal.append_optional-requires
append_optional-requires c = some_within_on _ _ c.append.ensures.grown _ c.requires.new_name

pub append_optional-requires-2 : goal.append_optional-requires-2
append_optional-requires-2 c = some_within_on _ _ c.append_optional.ensures.grown _
    (some_within_on _ _ c.append.ensures.grown _ c.requires.new_email)

pub returns-clause-row : goal.returns-clause-row
returns-clause-row c =
    let one = c.append.ensures.grown in
    let two = c.append_optional.ensures.grown in
    row_stored _ _ _ _ _ _ _ _ (c.len-start.ensures ∙ c.args.pool.now.ok.0) two c.append_optional-2.ensures.grown
    c.in_ok-old_len.ensures.stored (rw (texts_on _ _ one _ c.requires.new_name) at c.in_ok-new_name_len.ensures.stored)
    (rw (texts_on _ _ (extends_through _ _ _ one two) _ c.requires.new_email) at c.in_ok-new_email_len.ensures.stored)
