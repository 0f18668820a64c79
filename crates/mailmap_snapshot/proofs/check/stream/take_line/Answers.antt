use Rattle.mailmap_snapshot.proofs.Streams.{line_ended}
use Rattle.mailmap_snapshot.proofs.check.stream.take_line.Goals as goal

pub returns-clause-ok : goal.returns-clause-ok
returns-clause-ok c = rw (c.in_ok-end_line.ensures.ended, c.in_ok-end_line.ensures.ok)
    (line_ended c.args.snapshot.now c.args.partial.now.items c.args.part.now c.args.text.now.items c.in-Some.feed c.in-Some.ensures)
