use Rattle.std.proofs.Common.{◌++◌}
use Rattle.caller_promises.proofs.NormalLists.{equal_exactly}
use Rattle.caller_promises.proofs.listings.are_equal.Goals as goal

pub returns-clause-exactly : goal.returns-clause-exactly
returns-clause-exactly c h g ours theirs = equal_exactly c.law_unique.ensures h g c.args.one.now c.args.other.now ours.normal theirs.normal c.eq.ensures.same

pub returns-clause-condensed : goal.returns-clause-condensed
returns-clause-condensed c h a b d m ours parts listed theirs =
    c.eq.ensures.same.1 (c.law_unique.ensures (a ++ m ++ d) c.args.one.now c.args.other.now (ours.condensed a b d m parts listed) theirs.normal)

pub returns-clause-reordered : goal.returns-clause-reordered
returns-clause-reordered c h g ours theirs same =
    c.eq.ensures.same.1 (c.law_unique.ensures g c.args.one.now c.args.other.now (ours.reordered g same) theirs.normal)
