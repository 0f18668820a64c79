use Rattle.std.proofs.Common.{rules}
use Rattle.mailmap_suggestions.proofs.Holding.{holders_more}
use Rattle.mailmap_suggestions.proofs.holders.Holders.add.Goals as goal

pub returns : goal.returns
returns c = λ pairs are.
    holders_more pairs c.args.self.now (record { by_key = c.insert.new.self }) c.args.key c.args.answer are
    (search (rules, c.in_ok-insert.ensures.entries))
