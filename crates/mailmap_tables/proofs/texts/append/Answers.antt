use Rattle.std.proofs.Common.{◌≡◌, ◌++◌, arith}
use Rattle.std.proofs.lemmas.Grind.{common_steps}
use Rattle.mailmap_tables.specs.Pool.{text_of}
use Rattle.mailmap_tables.proofs.RowsOfPool.{stored}
use Rattle.mailmap_tables.proofs.texts.append.Goals as goal

pub returns-in_ok-extend_from_slice-in-Given-clause-stored : goal.returns-in_ok-extend_from_slice-in-Given-clause-stored
returns-in_ok-extend_from_slice-in-Given-clause-stored c =
    let old = c.args.pool.now.items in
    let new = c.extend_from_slice.new.self in
    let is : new.items ≡ old ++ text_of old c.args.text = grind (arith, common_steps, c.in_ok-extend_from_slice-in-Given.ensures.items) in
    stored old new.items _ _ is (grind (arith, common_steps)) (omega (arith, new.ok.0, new.small))

pub returns-in_ok-extend_from_within-in-Pool-clause-stored : goal.returns-in_ok-extend_from_within-in-Pool-clause-stored
returns-in_ok-extend_from_within-in-Pool-clause-stored c =
    let old = c.args.pool.now.items in
    let new = c.extend_from_within.new.self in
    let is : new.items ≡ old ++ text_of old c.args.text = grind (arith, common_steps, c.in_ok-extend_from_within-in-Pool.ensures.items) in
    stored old new.items _ _ is (grind (arith, common_steps)) (omega (arith, new.ok.0, new.small))
