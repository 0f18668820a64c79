use Rattle.std.proofs.Common.{◌+◌, ◌-◌, arith, drop, length, length-drop, take_all}
use Rattle.mailmap_grammar.proofs.Skipped.{one_skipped}
use Rattle.mailmap_grammar.proofs.skip.skip_each.Goals as goal

pub loop-feed-preserved : goal.loop-feed-preserved
loop-feed-preserved c =
    let rest = c.loop-feed.rest.now in
    let next = c.in-Some.feed + 1 in
    one_skipped c.args.bytes.now rest _ c.loop-feed.count c.in-Some.feed c.loop-feed.invariant c.in-Some.ensures.first c.in-Some.ensures.none_read
    (take_all (length rest - next) (drop next rest) (omega (arith, length-drop next rest)))
