use Rattle.std.proofs.Common.{◌+◌, ◌-◌, ◌≤◌, arith}
use Rattle.mailmap_entries.specs.Search.{digits}
use Rattle.mailmap_entries.proofs.Search.{digits-le, digits-part}
use Rattle.mailmap_entries.proofs.fold.search.Goals as goal

pub ask-requires-clause-countable : goal.ask-requires-clause-countable
ask-requires-clause-countable g c =
    let left = c.loop-low.high - c.loop-low.low in
    let some_left : digits 0 + 1 ≤ digits left = digits-part 0 left (omega arith) (omega arith) in
    let few : digits c.args.len ≤ 64 = digits-le 64 c.args.len c.ranges.len.fits in
    omega (arith, c.loop-low.invariant.at_most, c.requires.countable)

pub returns-in-Equal-clause-at_most : goal.returns-in-Equal-clause-at_most
returns-in-Equal-clause-at_most g c =
    let left = c.loop-low.high - c.loop-low.low in
    let some_left : digits 0 + 1 ≤ digits left = digits-part 0 left (omega arith) (omega arith) in
    omega (arith, c.loop-low.invariant.at_most, c.in-Equal.ensures.counted)
