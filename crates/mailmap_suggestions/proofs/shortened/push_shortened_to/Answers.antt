use Rattle.std.proofs.Common.{rules, append_assoc, arith, sym}
use Rattle.mailmap_suggestions.proofs.Shortening.{cut, whole}
use Rattle.mailmap_suggestions.proofs.shortened.push_shortened_to.Goals as goal

pub returns-then-long-limit : goal.returns-then-long-limit
returns-then-long-limit c = rw (sym (whole c.args.limit c.args.long.now (omega (arith, c.if-long-limit.true)))) (search rules)

pub returns : goal.returns
returns c =
    rw (sym (cut c.args.limit c.args.long.now c.front_len.result (omega (arith, c.if-long-limit.false)) c.front_len.ensures.front)) (search (rules, append_assoc))
