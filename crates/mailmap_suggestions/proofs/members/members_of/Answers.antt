use Rattle.std.proofs.Common.{refl}
use Rattle.mailmap_suggestions.proofs.Participating.{member_pushed}
use Rattle.mailmap_suggestions.proofs.members.members_of.Goals as goal

pub loop-index-preserved : goal.loop-index-preserved
loop-index-preserved c =
    member_pushed c.args.answers.now c.args.contacts.now c.loop-index.index _ c.loop-index.members.items c.push.new.self.items _ c.new.result c.loop-index.firsts c.first_value.new.values c.loop-index-test.true
    c.loop-index.invariant.0 c.loop-index.invariant.1 c.in_ok-push.ensures.items refl c.ours-answer.ensures c.new.ensures c.in_ok-first.ensures.first refl c.in_ok-first.ensures.updates
